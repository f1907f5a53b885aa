use Rattle.std.proofs.Common.{◌≡◌, ◌∙◌, slice_index, sym, arith}
use Rattle.std.proofs.lemmas.List.{get_or_default}
use Rattle.mesh_mutator.specs.declared.attempts.Attempt.TheVariants.{Blocked, Done, HistoryFull}
use Rattle.mesh_text.proofs.LineTexts.{grew_ok}
use Rattle.mesh_text.proofs.WorkerTurns.{at_place, turn_over, turn_told}
use Rattle.mesh_text.proofs.turns.Turns.run.Goals as goal

pub returns-in_default-clause-told : goal.returns-in_default-clause-told
returns-in_default-clause-told g = grind (arith, turn_over, at_place)

pub returns-in-Done-clause-told : goal.returns-in-Done-clause-told
returns-in-Done-clause-told g =
    let places = g.args.self.now.next.items in
    let worker = g.args.worker in
    let place : slice_index places worker ≡ g.index-place.result.now
    = sym (g.index-place.ensures ∙ get_or_default places worker g.index-place.result.now 0 (omega (arith, g.requires, g.args.self.now.next.ok.0))) in
    let told = turn_told g.add_reply.result g.args.self.now.book g.act.new.self places g.args.script.now worker g.index-place.result.now _ g.in-Some.command (Done g.in-Done.reply)
    g.args.text.now.items g.add_reply.new.text.items g.args.self.now.next.ok.0 g.requires g.index-place.ensures g.in-Some.ensures.value g.in-Done.ensures.attempt tt g.add_reply.ensures in
    rw place at told

pub returns-in-Blocked-clause-told : goal.returns-in-Blocked-clause-told
returns-in-Blocked-clause-told g =
    turn_told g.extend_from_slice-in-Blocked.result g.args.self.now.book g.act.new.self g.args.self.now.next.items g.args.script.now g.args.worker g.index-place.result.now _ g.in-Some.command Blocked
    g.args.text.now.items g.extend_from_slice-in-Blocked.new.self.items g.args.self.now.next.ok.0 g.requires g.index-place.ensures g.in-Some.ensures.value g.in-Blocked.ensures.attempt tt
    (grew_ok g.extend_from_slice-in-Blocked.result g.extend_from_slice-in-Blocked.new.self.items _ g.args.text.now.items g.extend_from_slice-in-Blocked.ensures.items)

pub returns-in-HistoryFull-clause-told : goal.returns-in-HistoryFull-clause-told
returns-in-HistoryFull-clause-told g =
    turn_told g.extend_from_slice-in-HistoryFull.result g.args.self.now.book g.act.new.self g.args.self.now.next.items g.args.script.now g.args.worker g.index-place.result.now _ g.in-Some.command HistoryFull
    g.args.text.now.items g.extend_from_slice-in-HistoryFull.new.self.items g.args.self.now.next.ok.0 g.requires g.index-place.ensures g.in-Some.ensures.value g.in-HistoryFull.ensures.attempt tt
    (grew_ok g.extend_from_slice-in-HistoryFull.result g.extend_from_slice-in-HistoryFull.new.self.items _ g.args.text.now.items g.extend_from_slice-in-HistoryFull.ensures.items)
