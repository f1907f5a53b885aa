use Rattle.std.proofs.Common.{subst, sym}
use Rattle.model_memory.specs.Plain.{Entry}
use Rattle.model_words.specs.declared.commands.Reply.{Reply}
use Rattle.history_number_set.specs.Ranges.{Has}
use Rattle.history_overlaps.specs.Begins.{IsNewPending}
use Rattle.history_overlaps.specs.Standing.{IsMisusedSo}
use Rattle.history_overlaps.specs.declared.misuses.NotBegun.{NotBegun}
use Rattle.history_overlaps.proofs.BeginSteps.{again_so, new_so}
use Rattle.history_overlaps.proofs.timeline.Timeline.new_begun.Goals as goal

pub returns-then-contains-clause-misused : goal.returns-then-contains-clause-misused
returns-then-contains-clause-misused c = λ word entry is_new.
    subst (λ (b : NotBegun). IsMisusedSo c.args.self.now c.args.number entry b) (sym c.broken.ensures)
    (again_so c.args.self.now c.args.number c.args.cell c.args.len word entry is_new (c.contains.ensures.0 c.if-contains.true))

pub returns-clause-begun : goal.returns-clause-begun
returns-clause-begun c = λ word entry is_new answers.
    new_so c.args.self.now (Has c.add.new.self) c.args.number c.args.cell c.args.len word entry c.new_pending.result is_new
    (subst (λ (r : Reply). IsNewPending c.args.number c.args.cell c.args.len r c.new_pending.result) (sym answers) c.new_pending.ensures)
    (λ has. let is = c.contains.ensures.1 has in let not = c.if-contains.false in cc (is, not))
    c.in_ok-add.ensures.added
