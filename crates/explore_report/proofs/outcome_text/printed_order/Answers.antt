use Rattle.std.proofs.Common.{◌≡◌, ◌∙◌, ap, get_or, sym}
use Rattle.std.proofs.lemmas.Option.{slice_get-get_or}
use Rattle.std.proofs.lemmas.Result.{IfOk-weaker}
use Rattle.explore_report.specs.OutcomeTexts.{outcome_entries, outcome_order, printed_order}
use Rattle.explore_report.specs.Sorting.{entry_values, sort_entries, unnumbered}
use Rattle.explore_report.specs.declared.outcomes.Outcome.{Outcome}
use Rattle.explore_report.proofs.OutcomeTexts.{plain_key, put_all, put_next, put_outcome}
use Rattle.explore_report.proofs.Sorting.{numbered_values, with_keys, with_values}
use Rattle.explore_report.proofs.outcome_text.printed_order.Goals as goal

pub loop-at-preserved : goal.loop-at-preserved
loop-at-preserved c =
    let none : Outcome = record { place = 0; ways = 0 } in
    let found = c.args.found.now in
    let at = c.loop-at.at in
    record {
      end = c.loop-at.invariant.end;
      numbered = c.in_ok-put.ensures.numbered;
      entries = put_next c.args.reached.now.system.states found at (get_or found at none) _ _ _ (slice_get-get_or found at none c.loop-at-test.true)
          c.loop-at.invariant.entries
          (put_outcome _ at _ c.in_ok-key.key (unnumbered c.loop-at.sorted.entries) (unnumbered c.put.new.sorted.entries) c.in_ok-key.ensures.ways
          c.in_ok-key.ensures.text c.in_ok-put.ensures.entries);
    }

pub returns : goal.returns
returns c =
    let entries = c.loop-at.sorted.entries in
    let states = c.args.reached.now.system.states in
    let found = c.args.found.now in
    let all : with_keys plain_key (unnumbered entries) ≡ sort_entries outcome_order (outcome_entries states 0 found) =
    put_all states found c.loop-at.at (with_keys plain_key (unnumbered entries)) _ c.loop-at-test.false c.loop-at.invariant.entries in
    let values : entry_values entries ≡ printed_order states found =
    sym (numbered_values entries) ∙ (sym (with_values plain_key (unnumbered entries)) ∙ ap entry_values all) in
    IfOk-weaker c.values_of.result _ _ (λ order is. is ∙ values) c.values_of.ensures
