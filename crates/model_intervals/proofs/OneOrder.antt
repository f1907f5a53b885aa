-- If each object by itself is explained, the calls sorted by their keys are an order that explains all of them.
use Rattle.std.proofs.Common.{◌≡◌, ℕ, ◌<◌, true, nat_lt, List, refl, sym, subst, inl, inr}
use Rattle.std.specs.List.Sorted.{IsPermutation}
use Rattle.std.proofs.lemmas.Bool.{lt-ltb}
use Rattle.model_history.specs.Recorded.{many_cells}
use Rattle.model_intervals.specs.Intervals.{Call, IsLinearizable}
use Rattle.model_intervals.specs.KeyedOrders.{Keyed, calls_of}
use Rattle.model_intervals.specs.Objects.{IsExplainedByObject}
use Rattle.model_intervals.specs.OverlappingCalls.{IsHistory, cell_at}
use Rattle.model_intervals.proofs.Joined.{joined, joined_every, joined_of_cell, joined_rise, joined_same}
use Rattle.model_intervals.proofs.AccessKeys.{IsWithin}
use Rattle.model_intervals.proofs.MiddleForm.{of_cell}
use Rattle.model_intervals.proofs.CellKeys.{HasOwnKey, IsLife, is_life, life}
use Rattle.model_intervals.proofs.Filtered.{filter_all}
use Rattle.model_intervals.proofs.Lists.{every_weaker}
use Rattle.model_intervals.proofs.Places.{every_from}
use Rattle.model_intervals.proofs.CellOrders.{own_order}
use Rattle.model_intervals.proofs.SortedCalls.{AreSorted, sorted_explains}
use Rattle.model_intervals.proofs.CellStates.{Leads, CellState, Unmade}

module _ (calls : List Call) (history : IsHistory calls) (lives : ℕ → List Keyed) (are : (c : ℕ) → IsLife calls c (lives c)) where
  -- all calls, sorted by key
  abbrev keyed : List Keyed
  keyed = joined lives many_cells

  same : IsPermutation (calls_of keyed) calls
  same = subst (λ xs. IsPermutation (calls_of keyed) xs)
      (filter_all (λ call. nat_lt (cell_at call) many_cells) calls (every_weaker (λ call. cell_at call < many_cells) (λ call. nat_lt (cell_at call) many_cells ≡ true) calls
      (λ call below. lt-ltb (cell_at call) many_cells below) (every_from (λ call. cell_at call < many_cells) calls history.have_cells)))
      (joined_same lives calls (λ c. (are c).same) many_cells)

  -- the calls of each cell can be taken in this order
  taken : (c : ℕ) → (t : CellState) × Leads Unmade (of_cell c (calls_of keyed)) t
  taken c = elim (joined_of_cell lives (λ d. (are d).own) (λ d. (are d).rise) many_cells c) [
    | inl own ↦ subst (λ xs. (t : CellState) × Leads Unmade xs t) (sym own) (are c).taken
    | inr none ↦ (Unmade, subst (λ xs. Leads Unmade xs Unmade) (sym none) refl)
  ]

  joined_sorted : AreSorted calls keyed
  joined_sorted = record {
    same = same;
    rise = joined_rise lives many_cells;
    within = joined_every IsWithin lives (λ c. (are c).within) many_cells;
    keys = joined_every HasOwnKey lives (λ c. (are c).keys) many_cells;
    taken = taken;
  }

pub linearizable : (calls : List Call) → IsHistory calls → IsExplainedByObject calls → IsLinearizable calls
linearizable calls history explained =
    let lives = λ (c : ℕ). life calls history c (own_order calls history c explained) in
    let sorted = joined_sorted calls history lives (λ c. is_life calls history c (own_order calls history c explained)) in
    (calls_of (joined lives many_cells), sorted_explains calls history explained (joined lives many_cells) sorted)
