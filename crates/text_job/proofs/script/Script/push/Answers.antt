use Rattle.std.proofs.Common.{sym, subst}
use Rattle.model_words.specs.Commands.{IsInRange}
use Rattle.text_job.proofs.PackedScripts.{script_pushed, view_pushed}
use Rattle.text_job.proofs.script.Script.push.Goals as goal

pub invariant_of-self-2 : goal.invariant_of-self-2
invariant_of-self-2 c =
    let old = c.self.inside in
    let packed = c.pack_command-packed.ensures in
    let keeps = rw c.reserve-2.ensures.items at packed.kept.all in
    rw (c.push_reserved.ensures.items, c.reserve.ensures.items)
    (script_pushed old.bytes.items c.pack_command-packed.new.kept.items old.commands.items c.pack_command-packed.result c.self.invariant keeps packed.within (subst IsInRange (sym packed.command) c.requires))

pub returns-clause-ok : goal.returns-clause-ok
returns-clause-ok c =
    let old = c.self.inside in
    let packed = c.pack_command-packed.ensures in
    let keeps = rw c.reserve-2.ensures.items at packed.kept.all in
    rw (c.push_reserved.ensures.items, c.reserve.ensures.items, ← c.self.view_is) (view_pushed _ _ _ _ _ c.self.invariant keeps packed.command)
