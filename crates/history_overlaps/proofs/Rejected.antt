-- What rejects an order of calls: a call that ended before an earlier one began, or an entry that is no step.
use Rattle.std.proofs.Common.{◌≡◌, ℕ, ◌<◌, ◌≤◌, List, ◌∷◌, ◌++◌, arith, get_or, length, map, refl, subst}
use Rattle.std.specs.List.{All}
use Rattle.std.proofs.lemmas.List.{get_or_append_left, get_or_at, length-append, map-append}
use Rattle.model_memory.specs.Plain.{Entry}
use Rattle.model_history.specs.Recorded.{Recorded, RecordedRuns, RecordedStep, any_allocator, nothing_recorded}
use Rattle.model_history.proofs.Steps.{in_two, one_end}
use Rattle.model_intervals.specs.Intervals.{Call}
use Rattle.history_in_order.specs.Judged.{IsWrong}
use Rattle.history_in_order.specs.declared.memory.Tracked.{Tracked}
use Rattle.history_overlaps.specs.Orders.{IsLegalOrder}
use Rattle.history_overlaps.proofs.SoFar.{IsSoFar}

-- a call that ended before one of the earlier calls began
pub too_late : (memory : Tracked) (begun count : ℕ) (order rest : List Call) (call : Call) → IsSoFar memory begun count order → call.end < begun
    → IsLegalOrder (order ++ call ∷ rest) → ⊥
too_late memory begun count order rest call before late legal = let early = before.least call.end none_later in omega (arith, early, late)
  where
    none_later : All (λ c. c.begin ≤ call.end) order
    none_later k d within =
        let front = get_or_append_left order (call ∷ rest) d k within in
        let here = get_or_at order call rest d (length order) refl in
        let pair = legal.in_time k (length order) d within (let many = length-append order (call ∷ rest) in omega (arith, many)) in
        let first = subst (λ (x : Call). (get_or (order ++ call ∷ rest) (length order) d).end < x.begin → ⊥) front pair in
        let apart : call.end < (get_or order k d).begin → ⊥ = subst (λ (x : Call). x.end < (get_or order k d).begin → ⊥) here first in
        omega (arith, apart)

-- an entry that is no step after the entries of the earlier calls
pub not_taken : (memory : Tracked) (begun count : ℕ) (order rest : List Call) (call : Call) → IsSoFar memory begun count order
    → IsWrong memory call.entry.command call.entry.reply → IsLegalOrder (order ++ call ∷ rest) → ⊥
not_taken memory begun count order rest call before wrong legal =
    let entry = λ (c : Call). c.entry in
    let start = nothing_recorded any_allocator in
    let later = call.entry ∷ map entry rest in
    let run = subst (λ (entries : List Entry). RecordedRuns any_allocator start entries legal.end) (map-append entry order (call ∷ rest)) legal.legal in
    let two = in_two any_allocator start (map entry order) later legal.end run in
    let same : two.0 ≡ before.recorded = one_end any_allocator start (map entry order) two.0 before.recorded two.1 before.legal in
    wrong before.recorded before.stands two.2.0 (subst (λ (from : Recorded). RecordedStep any_allocator from call.entry.command call.entry.reply two.2.0) same two.2.1)
