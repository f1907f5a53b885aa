use Rattle.std.proofs.Common.{◌≡◌, ◌+◌, ◌∙◌, ap, refl, arith, length, length-append}
use Rattle.std.proofs.lemmas.Grind.{common_steps}
use Rattle.mesh_mutator.proofs.KeptEntries.{all_within, entries_pushed}
use Rattle.mesh_mutator.proofs.journal.Journal.push.Goals as goal

pub invariant_of-self : goal.invariant_of-self
invariant_of-self c =
    let old = c.self.inside in
    let first = c.pack_command-command.ensures in
    let second = c.pack_reply-reply.ensures in
    let pushed = c.push_reserved.ensures in
    let was = c.self.invariant in
    let longer : length c.push_reserved.new.self.items ≡ length old.entries.items + 1 = ap length pushed.items ∙ length-append old.entries.items _ in (
      rw pushed.items (all_within _ _ _ _ _ first.kept.all second.kept.all was.0 first.within second.within),
      omega (arith, was.1, pushed.capacity),
      omega (arith, was.2, first.kept.capacity, second.kept.capacity),
      omega (arith, was.3, first.kept.all.few, second.kept.all.few, longer),
      grind (arith, common_steps),
      was.5,
    )

pub returns : goal.returns
returns c =
    let old = c.self.inside in
    let first = c.pack_command-command.ensures in
    let second = c.pack_reply-reply.ensures in
    let all = entries_pushed old.bytes.items c.pack_command-command.new.kept.items c.pack_reply-reply.new.kept.items old.entries.items
    (record { worker = c.args.worker; command = c.pack_command-command.result; reply = c.pack_reply-reply.result }) c.args.command.now c.args.reply.now
    first.kept.all second.kept.all c.self.invariant.0 first.within first.command second.reply in
    rw (← c.self.view_is, c.push_reserved.ensures.items, all) refl
