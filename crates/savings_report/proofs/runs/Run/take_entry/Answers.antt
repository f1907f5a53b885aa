use Rattle.std.proofs.Common.{◌∙◌, arith, subst, sym, ap, ◌+◌, ℕ}
use Rattle.text_words.specs.RecordedWords.{plain_entry}
use Rattle.savings_replay.specs.Calls.{call_of}
use Rattle.savings_report.specs.Runs.{Fails}
use Rattle.savings_report.specs.declared.errors.SavingsError.{SavingsError}
use Rattle.savings_report.proofs.RunSteps.{entry_of_none, entry_passed, entry_used_up}
use Rattle.savings_report.proofs.runs.Run.take_entry.Goals as goal

pub returns-then-is_full-clause-fault : goal.returns-then-is_full-clause-fault
returns-then-is_full-clause-fault c =
    subst (λ (e : SavingsError). Fails c.args.self.now c.args.line (call_of (plain_entry c.args.entry.now)) e) (sym c.too_many_calls.ensures)
    (λ options f samples at.
    let full = c.is_full.ensures.full options f samples at.is_run c.if-is_full.true in omega (arith, full, at.few, c.ranges.line.fits))

pub returns-in-Made-clause-passed : goal.returns-in-Made-clause-passed
returns-in-Made-clause-passed c = λ _.
    entry_passed c.args.self.now c.take.new.self c.args.line c.in-Some.call _ c.in_ok-take.field-0 (sym c.call_of.ensures ∙ c.in-Some.is) c.in-Made.is
    c.in_ok-take.ensures

pub returns-in-NoObject-clause-fault : goal.returns-in-NoObject-clause-fault
returns-in-NoObject-clause-fault c =
    entry_of_none c.args.self.now c.take.new.self c.args.line c.in-Some.call _ c.in_ok-take.field-0 (sym c.call_of.ensures ∙ c.in-Some.is) c.in-NoObject.is
    c.in_ok-take.ensures

pub returns-in-NoAddresses-clause-used_up : goal.returns-in-NoAddresses-clause-used_up
returns-in-NoAddresses-clause-used_up c =
    entry_used_up c.args.self.now c.take.new.self c.args.line (c.calls-number.result + 1) c.in-Some.call _ c.in_ok-take.field-0
    (sym c.call_of.ensures ∙ c.in-Some.is) c.in-NoAddresses.is (ap (λ (n : ℕ). n + 1) c.calls-number.ensures) c.in_ok-take.ensures
