-- Whether calls are a slice, from each of them.
use Rattle.std.proofs.Common.{◌≡◌, ℕ, zero, suc, ◌+◌, ◌≤◌, Bool, true, List, [], ◌∷◌, arith, subst}
use Rattle.model_intervals.specs.Intervals.{Call}
use Rattle.model_intervals.specs.OverlappingCalls.{IsAt, cell_at}
use Rattle.model_intervals.proofs.Lists.{Every}
use Rattle.history_witness.specs.Slices.{IsSlice, TakesNewAndFree, TakesStores, TakesStoresAt, is_new_or_free, latest_begin, stores_at}
use Rattle.history_witness.proofs.PlacedCalls.{Placed, placed_from}

-- what holds of each call with its place holds of the call at a place
placed_at : (P : Placed → Type 0) (place : ℕ) (calls : List Call) → Every P (placed_from place calls) → (i at : ℕ) (call : Call) → at ≡ place + i → IsAt calls i call
    → P (record { place = at; call = call })
placed_at P place [] every zero at call same is = cc is
placed_at P place [] every (suc i) at call same is = cc is
placed_at P place (first ∷ calls) every zero at call same is =
    let here : place ≡ at = omega (arith, same) in
    let call_is : first ≡ call = cc is in
    subst (λ (n : ℕ). P (record { place = n; call = call })) here (subst (λ (c : Call). P (record { place = place; call = c })) call_is every.0)
placed_at P place (first ∷ calls) every (suc i) at call same is = placed_at P (suc place) calls every.1 i at call (omega (arith, same)) is

module _ (calls : List Call) (taken : ℕ → Bool) where
  pub slice_from : Every (λ p. taken p.place ≡ true → TakesNewAndFree calls taken (cell_at p.call) × TakesStores calls taken p.call) (placed_from 0 calls) → IsSlice calls taken
  slice_from every i call is = placed_at (λ p. taken p.place ≡ true → TakesNewAndFree calls taken (cell_at p.call) × TakesStores calls taken p.call) 0 calls every i i call (omega arith) is

  pub objects_from : (cell : ℕ) → Every (λ p. is_new_or_free cell p.call.entry.command ≡ true → taken p.place ≡ true) (placed_from 0 calls) → TakesNewAndFree calls taken cell
  objects_from cell every i call is = placed_at (λ p. is_new_or_free cell p.call.entry.command ≡ true → taken p.place ≡ true) 0 calls every i i call (omega arith) is

  pub stores_from : (cell at : ℕ) (load : Call) → Every (λ p. stores_at cell at p.call.entry.command ≡ true → p.call.begin ≤ load.end
      → latest_begin cell at load.begin calls ≤ p.call.end → taken p.place ≡ true) (placed_from 0 calls) → TakesStoresAt calls taken cell at load
  stores_from cell at load every i call is = placed_at (λ p. stores_at cell at p.call.entry.command ≡ true → p.call.begin ≤ load.end
      → latest_begin cell at load.begin calls ≤ p.call.end → taken p.place ≡ true) 0 calls every i i call (omega arith) is
