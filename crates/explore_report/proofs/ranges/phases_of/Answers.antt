use Rattle.std.proofs.Common.{◌≡◌, ◌∙◌, List, ap, sym}
use Rattle.std.proofs.lemmas.Result.{IfOk-weaker}
use Rattle.std.specs.List.{fold}
use Rattle.explore_report.specs.PhaseRanges.{phase_entries, phases_of, rank_order}
use Rattle.explore_report.specs.Sorting.{entry_values, put_entry, sort_entries, unnumbered}
use Rattle.explore_report.specs.declared.notes.PhaseAt.{PhaseAt}
use Rattle.explore_report.proofs.Sorting.{numbered_values}
use Rattle.explore_report.proofs.ToldTexts.{drop_all}
use Rattle.explore_report.proofs.ranges.phases_of.Goals as goal

pub returns : goal.returns
returns c =
    let entries = c.loop-place.sorted.entries in
    let mesher = c.args.mesher in
    let phases = c.args.phases.now in
    let all : unnumbered entries ≡ sort_entries rank_order (phase_entries mesher phases) =
    ap (λ (left : List PhaseAt). fold (put_entry rank_order) (unnumbered entries) (phase_entries mesher left)) (sym (drop_all phases c.loop-place.place c.loop-place-test.false))
    ∙ c.loop-place.invariant.entries in
    let values : entry_values entries ≡ phases_of mesher phases = sym (numbered_values entries) ∙ ap entry_values all in
    IfOk-weaker c.values_of.result _ _ (λ known is. is ∙ values) c.values_of.ensures
