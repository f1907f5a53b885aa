use Rattle.std.proofs.Common.{◌∙◌, ◌∷◌, ◌++◌, [], sym}
use Rattle.history_reading.specs.EntryInputs.{HasCome}
use Rattle.text_words.specs.RecordedWords.{plain_entry}
use Rattle.savings_report.specs.Inputs.{HasNotReported}
use Rattle.savings_report.specs.declared.errors.SavingsError.TheVariants.{Replay}
use Rattle.savings_report.proofs.FollowedInputs.{end_gone, entry_fails, entry_gone, entry_used_up, none_gone, stop_gone}
use Rattle.savings_report.proofs.Results.{none_is, passed_on, some_holds}
use Rattle.savings_report.proofs.inputs.follow.Goals as goal

pub loop-entry-init : goal.loop-entry-init
loop-entry-init g c = record { input = c.requires.open; gone = none_gone c.args.history.now c.args.run.now _ c.requires.fresh }

pub returns-in_err-entry-clause-fault : goal.returns-in_err-entry-clause-fault
returns-in_err-entry-clause-fault g c = λ options at.
    let left = g.I.Source.remaining in
    let error = c.in_err-entry.field-0.0 in
    let gone = c.loop-entry.invariant.gone in
    passed_on c.from_residual.result (Replay error) (HasNotReported options (left c.args.input.now) (left c.next.new.input)) c.from_residual.ensures.1
    (stop_gone c.loop-entry.history c.args.run.now c.loop-entry.run _ _ _ error options gone (c.in_err-entry.ensures.fault _ _ gone.come) at)

pub returns-in_err-used_up_at-clause-fault : goal.returns-in_err-used_up_at-clause-fault
returns-in_err-used_up_at-clause-fault g c = λ options at.
    let left = g.I.Source.remaining in
    let error = c.in_err-used_up_at.field-0.0 in
    let gone = c.loop-entry.invariant.gone in
    let come : HasCome c.next.new.self (left c.args.input.now) (left c.next.new.input) (gone.entries ++ plain_entry c.in-Some.entry ∷ [])
    = some_holds _ _ _ c.in-Some.is (c.in_ok-entry.ensures.entry _ _ gone.come) in
    passed_on c.from_residual-in_err-used_up_at.result error (HasNotReported options (left c.args.input.now) (left c.next.new.input))
    c.from_residual-in_err-used_up_at.ensures.1
    (entry_fails c.loop-entry.history c.next.new.self c.args.run.now c.loop-entry.run _ _ _ (plain_entry c.in-Some.entry) c.lines.result error options
    c.lines.ensures gone come c.in_err-used_up_at.ensures.fault at)

pub returns-then-is_some-clause-followed : goal.returns-then-is_some-clause-followed
returns-then-is_some-clause-followed g c = λ options at.
    let left = g.I.Source.remaining in
    let gone = c.loop-entry.invariant.gone in
    let come : HasCome c.next.new.self (left c.args.input.now) (left c.next.new.input) (gone.entries ++ plain_entry c.in-Some.entry ∷ [])
    = some_holds _ _ _ c.in-Some.is (c.in_ok-entry.ensures.entry _ _ gone.come) in
    entry_used_up c.loop-entry.history c.next.new.self c.args.run.now c.loop-entry.run c.take_entry.new.self _ _ _ (plain_entry c.in-Some.entry) c.lines.result
    c.in_ok-used_up_at.used_up_at options c.lines.ensures gone come (sym c.is_some.ensures ∙ c.if-is_some.true) c.in_ok-used_up_at.ensures.used_up at

pub loop-entry-preserved : goal.loop-entry-preserved
loop-entry-preserved g c =
    let left = g.I.Source.remaining in
    let gone = c.loop-entry.invariant.gone in
    let come : HasCome c.next.new.self (left c.args.input.now) (left c.next.new.input) (gone.entries ++ plain_entry c.in-Some.entry ∷ [])
    = some_holds _ _ _ c.in-Some.is (c.in_ok-entry.ensures.entry _ _ gone.come) in record {
      input = c.in_ok-entry.ensures.ok;
      gone = entry_gone c.loop-entry.history c.next.new.self c.args.run.now c.loop-entry.run c.take_entry.new.self _ _ _ (plain_entry c.in-Some.entry)
          c.lines.result c.lines.ensures gone come (c.in_ok-used_up_at.ensures.passed (sym c.is_some.ensures ∙ c.if-is_some.false));
    }

-- the same where bytes of the entry are dropped, inline or allocated
pub loop-entry-preserved-else-is_some : goal.loop-entry-preserved-else-is_some
loop-entry-preserved-else-is_some g c =
    let left = g.I.Source.remaining in
    let gone = c.loop-entry.invariant.gone in
    let come : HasCome c.next.new.self (left c.args.input.now) (left c.next.new.input) (gone.entries ++ plain_entry c.in-Some.entry ∷ [])
    = some_holds _ _ _ c.in-Some.is (c.in_ok-entry.ensures.entry _ _ gone.come) in record {
      input = c.in_ok-entry.ensures.ok;
      gone = entry_gone c.loop-entry.history c.next.new.self c.args.run.now c.loop-entry.run c.take_entry.new.self _ _ _ (plain_entry c.in-Some.entry)
          c.lines.result c.lines.ensures gone come (c.in_ok-used_up_at.ensures.passed (sym c.is_some.ensures ∙ c.if-is_some.false));
    }

pub loop-entry-preserved-else-is_some-2 : goal.loop-entry-preserved-else-is_some-2
loop-entry-preserved-else-is_some-2 g c =
    let left = g.I.Source.remaining in
    let gone = c.loop-entry.invariant.gone in
    let come : HasCome c.next.new.self (left c.args.input.now) (left c.next.new.input) (gone.entries ++ plain_entry c.in-Some.entry ∷ [])
    = some_holds _ _ _ c.in-Some.is (c.in_ok-entry.ensures.entry _ _ gone.come) in record {
      input = c.in_ok-entry.ensures.ok;
      gone = entry_gone c.loop-entry.history c.next.new.self c.args.run.now c.loop-entry.run c.take_entry.new.self _ _ _ (plain_entry c.in-Some.entry)
          c.lines.result c.lines.ensures gone come (c.in_ok-used_up_at.ensures.passed (sym c.is_some.ensures ∙ c.if-is_some.false));
    }

pub returns-clause-followed : goal.returns-clause-followed
returns-clause-followed g c = λ options at.
    let gone = c.loop-entry.invariant.gone in
    end_gone c.loop-entry.history c.next.new.self c.args.run.now c.loop-entry.run _ _ _ options gone
    (c.in_ok-entry.ensures.ended _ _ gone.come (none_is _ c.in_default.is)) at
