use Rattle.std.proofs.Common.{◌≡◌, false, slice_get, take}
use Rattle.std.specs.List.{list_any}
use Rattle.explore_verdict.specs.Patterns.{told_in}
use Rattle.explore_verdict.specs.Unseen.{is_met_at}
use Rattle.explore_verdict.proofs.unseen.is_seen.Given as goal

abbrev pub invariant-loop-outcome : goal.invariant-loop-outcome
invariant-loop-outcome l =
    list_any (λ outcome. is_met_at l.piece l.worker l.place (told_in (slice_get l.states.states outcome.place))) (take l.outcome-index l.outcomes) ≡ false
