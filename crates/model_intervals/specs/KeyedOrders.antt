-- Calls sorted by numbers: one order of effect from an order of each object's accesses. This project's own choice.
use Rattle.std.specs.Prelude.{◌≡◌, ℕ, ◌+◌, ◌*◌, ◌≤◌, max, ◌&&◌, nat_eq, List, [], ◌∷◌, map}
use Rattle.std.specs.List.{All, AllPairs, filter}
use Rattle.std.specs.List.Sorted.{IsPermutation}
use Rattle.model_intervals.specs.Intervals.{Call, Explains}
use Rattle.model_intervals.specs.Objects.{Object, ExplainsAccesses, IsExplainedByObject, IsMadeAt, is_access}
use Rattle.model_intervals.specs.OverlappingCalls.{IsFree, IsHistory, IsNew, cell_at}

-- a call, and the number by which it is sorted
pub record Keyed : Type 0 where
  pub key : ℕ
  pub call : Call

-- the calls alone
abbrev pub calls_of : List Keyed → List Call
calls_of keyed = map (λ p. p.call) keyed

-- the accesses of one object in their order, with their keys, where `low` is the greatest begin so far
abbrev pub keyed_from : ℕ → List Call → List Keyed
keyed_from low [] = []
keyed_from low (call ∷ order) = record { key = 3 * max low call.begin + 1; call = call } ∷ keyed_from (max low call.begin) order

-- the accesses to the object of a cell, with their keys
abbrev pub keyed_accesses : ℕ → List Keyed → List Keyed
keyed_accesses cell keyed = filter (λ p. is_access p.call.entry.command && nat_eq (cell_at p.call) cell) keyed

-- these calls, sorted by their keys. The key of a `new` is 3 * end + 2, and that of a `free` is 3 * begin. The accesses
-- to each cell's object are in the given order and have the keys of `keyed_from`
pub record AreKeyed (calls : List Call) (orders : ℕ → List Call) (keyed : List Keyed) : Type 0 where
  pub same : IsPermutation (calls_of keyed) calls
  pub rise : AllPairs (λ front back. front.key ≤ back.key) keyed
  pub news : All (λ p. IsNew p.call.entry.command → p.key ≡ 3 * p.call.end + 2) keyed
  pub frees : All (λ p. IsFree p.call.entry.command → p.key ≡ 3 * p.call.begin) keyed
  pub accesses : (cell : ℕ) → keyed_accesses cell keyed ≡ keyed_from 0 (orders cell)

-- if calls are a history that is explained object by object, and the given orders explain each object's accesses, then
-- the calls sorted by such keys are an order that explains all calls
abbrev pub KeysExplain : Type 0
KeysExplain = (calls : List Call) (orders : ℕ → List Call) (keyed : List Keyed) → IsHistory calls → IsExplainedByObject calls
    → ((i : ℕ) (call : Call) (x : Object) → IsMadeAt calls i call x → ExplainsAccesses calls x.cell x.len x.address (orders x.cell))
    → AreKeyed calls orders keyed → Explains calls (calls_of keyed)
