use Rattle.std.proofs.Common.{subst, sym}
use Rattle.std.specs.Prelude.{IfOk}
use Rattle.model_words.specs.declared.commands.Command.TheVariants.{Put, Free, Alias, Poke, Copy as CopyBytes}
use Rattle.text_fields.specs.Commands.{plain_command}
use Rattle.text_words.specs.RecordedWords.{plain_reply}
use Rattle.text_fields.specs.declared.commands.SpeltCommand.{SpeltCommand}
use Rattle.history_in_order.specs.Judged.{IsAnswered}
use Rattle.history_in_order.proofs.Judged.{told_done}
use Rattle.history_in_order.proofs.Lines.{done_makes_none}
use Rattle.history_in_order.proofs.memory.Tracked.answer.Goals as goal

pub returns-in-Put-clause-answered : goal.returns-in-Put-clause-answered
returns-in-Put-clause-answered c =
    subst (λ (command : SpeltCommand). IfOk c.done.result (λ reply. IsAnswered c.args.self.now c.put.new.self (plain_command command) (plain_reply reply))) (sym c.in-Put.is)
    (told_done c.args.self.now c.put.new.self (Put c.in-Put.cell c.in-Put.off c.in-Put.bytes) _ _ c.put.ensures.done c.put.ensures.refused c.done.ensures)

pub returns-in-Free-clause-answered : goal.returns-in-Free-clause-answered
returns-in-Free-clause-answered c =
    subst (λ (command : SpeltCommand). IfOk c.done-in-Free.result (λ reply. IsAnswered c.args.self.now c.free.new.self (plain_command command) (plain_reply reply))) (sym c.in-Free.is)
    (told_done c.args.self.now c.free.new.self (Free c.in-Free.cell) _ _ c.free.ensures.done c.free.ensures.refused c.done-in-Free.ensures)

pub returns-in-Alias-clause-answered : goal.returns-in-Alias-clause-answered
returns-in-Alias-clause-answered c =
    subst (λ (command : SpeltCommand). IfOk c.done-in-Alias.result (λ reply. IsAnswered c.args.self.now c.alias.new.self (plain_command command) (plain_reply reply))) (sym c.in-Alias.is)
    (told_done c.args.self.now c.alias.new.self (Alias c.in-Alias.to c.in-Alias.from) _ _ c.alias.ensures.done c.alias.ensures.refused c.done-in-Alias.ensures)

pub returns-in-Copy-clause-answered : goal.returns-in-Copy-clause-answered
returns-in-Copy-clause-answered c =
    subst (λ (command : SpeltCommand). IfOk c.done-in-Copy.result (λ reply. IsAnswered c.args.self.now c.copy.new.self (plain_command command) (plain_reply reply))) (sym c.in-Copy.is)
    (told_done c.args.self.now c.copy.new.self (CopyBytes c.in-Copy.to c.in-Copy.to_off c.in-Copy.from c.in-Copy.from_off c.in-Copy.len) _ _ c.copy.ensures.done
    c.copy.ensures.refused c.done-in-Copy.ensures)

pub returns-in-Put-clause-lined : goal.returns-in-Put-clause-lined
returns-in-Put-clause-lined c =
    done_makes_none c.args.self.now c.put.new.self (Put c.in-Put.cell c.in-Put.off c.in-Put.bytes) _ _ c.put.ensures.lined c.put.ensures.refused c.done.ensures

pub returns-in-Free-clause-lined : goal.returns-in-Free-clause-lined
returns-in-Free-clause-lined c =
    done_makes_none c.args.self.now c.free.new.self (Free c.in-Free.cell) _ _ c.free.ensures.lined c.free.ensures.refused c.done-in-Free.ensures

pub returns-in-Alias-clause-lined : goal.returns-in-Alias-clause-lined
returns-in-Alias-clause-lined c =
    done_makes_none c.args.self.now c.alias.new.self (Alias c.in-Alias.to c.in-Alias.from) _ _ c.alias.ensures.lined c.alias.ensures.refused c.done-in-Alias.ensures

pub returns-in-Poke-clause-lined : goal.returns-in-Poke-clause-lined
returns-in-Poke-clause-lined c =
    done_makes_none c.args.self.now c.poke.new.self (Poke c.in-Poke.address c.in-Poke.byte) _ _ c.poke.ensures.lined c.poke.ensures.refused c.done-in-Poke.ensures

pub returns-in-Copy-clause-lined : goal.returns-in-Copy-clause-lined
returns-in-Copy-clause-lined c =
    done_makes_none c.args.self.now c.copy.new.self (CopyBytes c.in-Copy.to c.in-Copy.to_off c.in-Copy.from c.in-Copy.from_off c.in-Copy.len) _ _ c.copy.ensures.lined c.copy.ensures.refused c.done-in-Copy.ensures
