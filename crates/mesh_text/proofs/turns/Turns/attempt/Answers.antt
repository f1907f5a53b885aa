use Rattle.mesh_mutator.specs.declared.attempts.Attempt.TheVariants.{Blocked, Done, HistoryFull}
use Rattle.mesh_text.proofs.LineTexts.{grew_ok}
use Rattle.mesh_text.proofs.WorkerTurns.{attempt_told}
use Rattle.mesh_text.proofs.turns.Turns.attempt.Goals as goal

pub returns-in-Done-clause-told : goal.returns-in-Done-clause-told
returns-in-Done-clause-told g =
    attempt_told g.add_reply.result g.args.self.now.book g.act.new.self g.args.self.now.next.items g.args.worker g.args.command.now (Done g.in-Done.reply)
    g.args.text.now.items g.add_reply.new.text.items g.in-Done.ensures.attempt tt g.add_reply.ensures

pub returns-in-Blocked-clause-told : goal.returns-in-Blocked-clause-told
returns-in-Blocked-clause-told g =
    attempt_told g.extend_from_slice.result g.args.self.now.book g.act.new.self g.args.self.now.next.items g.args.worker g.args.command.now Blocked
    g.args.text.now.items g.extend_from_slice.new.self.items g.in-Blocked.ensures.attempt tt
    (grew_ok g.extend_from_slice.result g.extend_from_slice.new.self.items _ g.args.text.now.items g.extend_from_slice.ensures.items)

pub returns-in-HistoryFull-clause-told : goal.returns-in-HistoryFull-clause-told
returns-in-HistoryFull-clause-told g =
    attempt_told g.extend_from_slice-in-HistoryFull.result g.args.self.now.book g.act.new.self g.args.self.now.next.items g.args.worker g.args.command.now HistoryFull
    g.args.text.now.items g.extend_from_slice-in-HistoryFull.new.self.items g.in-HistoryFull.ensures.attempt tt
    (grew_ok g.extend_from_slice-in-HistoryFull.result g.extend_from_slice-in-HistoryFull.new.self.items _ g.args.text.now.items g.extend_from_slice-in-HistoryFull.ensures.items)
