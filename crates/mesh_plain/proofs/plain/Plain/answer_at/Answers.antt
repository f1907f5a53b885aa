use Rattle.std.proofs.Common.{rules}
use Rattle.model_memory.specs.Plain.{Follows, plain}
use Rattle.model_words.specs.declared.commands.Command.TheVariants.{New}
use Rattle.mesh_plain.proofs.Answered.{at_word, change_follows}
use Rattle.mesh_plain.proofs.plain.Plain.answer_at.Goals as goal

pub returns-in-New-clause-follows : goal.returns-in-New-clause-follows
returns-in-New-clause-follows c =
    rw c.in-New.is (at_word _ _ c.in-New.field-2 c.answer_new.ensures.follows)

pub returns-in_default-clause-follows : goal.returns-in_default-clause-follows
returns-in_default-clause-follows c =
    change_follows c.args.command.now c.args.address c.change.result c.done.result c.args.self.now c.change.new.self (search rules) c.change.ensures.done c.change.ensures.fault
    c.change.ensures.unchanged c.done.ensures.done c.done.ensures.refused
