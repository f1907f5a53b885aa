use Rattle.std.specs.Ordering.{nat_cmp}
use Rattle.std.specs.BTreeMap.{get}
use Rattle.text_fields.specs.Commands.{plain_command}
use Rattle.text_words.specs.RecordedWords.{plain_entry}
use Rattle.history_overlaps.specs.Standing.{lives_of}
use Rattle.history_overlaps.proofs.BeginSteps.{access_so, few_begun_in, stray_so}
use Rattle.history_overlaps.proofs.StateAccess.{access_is_no_new}
use Rattle.history_number_set.specs.Ranges.{Has}
use Rattle.history_overlaps.specs.declared.misuses.NotBegun.TheVariants.{Fault}
use Rattle.history_overlaps.proofs.Stopped.{access_stopped, stray_within, within_limits}
use Rattle.text_devices.proofs.LineSteps.{handed_on}
use Rattle.history_overlaps.proofs.timeline.Timeline.access_begun.Goals as goal

pub returns-then-not-branch-clause-misused : goal.returns-then-not-branch-clause-misused
returns-then-not-branch-clause-misused c = λ access names.
    stray_so c.args.self.now c.args.number c.args.cell (plain_entry c.args.entry.now) (c.in_ok-begin_in.ensures.none c.if-not-branch.true).0 names c.stray.result c.stray.ensures
    (access_is_no_new (plain_command c.args.entry.now.command) access)

pub returns-clause-begun : goal.returns-clause-begun
returns-clause-begun c = λ access names. access_so c.args.self.now (get nat_cmp c.begin_in.new.lives) c.args.number c.args.cell (plain_entry c.args.entry.now)
    (c.in_ok-begin_in.ensures.begun c.if-not-branch.false) access names

pub returns-clause-few : goal.returns-clause-few
returns-clause-few c = few_begun_in (lives_of c.args.self.now) (get nat_cmp c.begin_in.new.lives) c.args.cell c.args.number (plain_entry c.args.entry.now) c.requires.few
    (c.in_ok-begin_in.ensures.begun c.if-not-branch.false)

pub returns-in_err-begin_in-clause-stopped : goal.returns-in_err-begin_in-clause-stopped
returns-in_err-begin_in-clause-stopped c =
    let fault = c.in_err-begin_in.field-0.0 in
    handed_on c.from_residual.result (Fault fault) _ c.from_residual.ensures.1
    (access_stopped c.args.self.now c.args.number c.args.cell (plain_entry c.args.entry.now) fault c.in_err-begin_in.ensures.stopped)

pub returns-then-not-branch-clause-stopped : goal.returns-then-not-branch-clause-stopped
returns-then-not-branch-clause-stopped c = λ access names.
    within_limits c.args.self.now c.args.number (plain_entry c.args.entry.now) c.stray.result
    (stray_within (Has c.args.self.now.freed) c.args.number c.args.cell c.stray.result c.stray.ensures)
