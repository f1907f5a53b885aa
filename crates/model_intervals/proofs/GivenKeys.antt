-- If orders of each object's accesses explain them, the calls sorted by the keys of these orders explain all calls.
use Rattle.std.proofs.Common.{◌≡◌, ℕ, ◌+◌, ◌*◌, ◌<◌, ◌≤◌, true, ◌&&◌, nat_eq, List, [], ◌++◌, arith, refl, sym, subst, ap, ◌∙◌, inl, inr}
use Rattle.std.specs.List.Sorted.{IsPermutation}
use Rattle.std.proofs.lemmas.Bool.{and_from, eq-eqb}
use Rattle.std.proofs.lemmas.List.Sorted.{IsPermutation-sym}
use Rattle.model_intervals.specs.Intervals.{Call, Explains}
use Rattle.model_intervals.specs.KeyedOrders.{AreKeyed, Keyed, calls_of, keyed_accesses}
use Rattle.model_intervals.specs.Objects.{Object, ExplainsAccesses, IsExplainedByObject, IsMadeAt, accesses_of, is_access}
use Rattle.model_intervals.specs.OverlappingCalls.{HasEffect, IsFree, IsHistory, IsNew, cell_at}
use Rattle.model_intervals.proofs.AccessKeys.{IsWithin, keyed_calls, keyed_within}
use Rattle.model_intervals.proofs.MiddleForm.{frees, of_cell}
use Rattle.model_intervals.proofs.CellKeys.{HasOwnKey}
use Rattle.model_intervals.proofs.Filtered.{every_filter, every_unfilter, filter_map}
use Rattle.model_intervals.proofs.Lists.{Every, Pairs, every_all, every_both, every_unmap, every_weaker}
use Rattle.model_intervals.proofs.Places.{every_from, pairs_from}
use Rattle.model_intervals.proofs.CellOrders.{CanBeTaken, look_object}
use Rattle.model_intervals.proofs.Merged.{Rises}
use Rattle.model_intervals.proofs.CellParts.{free_so, frees_of, is_new, kind, new_so, news_of}
use Rattle.model_intervals.proofs.Permuted.{every_permuted, filter_permuted}
use Rattle.model_intervals.proofs.CellStates.{Leads, CellState, Unmade}
use Rattle.model_intervals.proofs.CellTimes.{one_free, one_new}
use Rattle.model_intervals.proofs.SortedCalls.{AreSorted, keys_in_time, sorted_explains}
use Rattle.model_intervals.proofs.TimedParts.{few_same, kinds_rise, timed_parts}

-- if the key of a `new` or `free` is its own, and that of an access is within it, each key is within its call
all_within : (p : Keyed) → HasOwnKey p → (is_access p.call.entry.command ≡ true → IsWithin p) → HasEffect p.call.entry.command p.call.entry.reply → p.call.begin ≤ p.call.end
    → IsWithin p
all_within p own access effect takes = elim (kind p.call.entry.command p.call.entry.reply effect) [
  | inl is ↦ let key = own.0 is.new_is in (omega (arith, key, takes), omega (arith, key))
  | inr (inl is) ↦ access is.access_is
  | inr (inr is) ↦ let key = own.1 is.free_is in (omega (arith, key), omega (arith, key, takes))
]

module _ (calls : List Call) (orders : ℕ → List Call) (keyed : List Keyed) (history : IsHistory calls) (explained : IsExplainedByObject calls)
    (explains : (i : ℕ) (call : Call) (x : Object) → IsMadeAt calls i call x → ExplainsAccesses calls x.cell x.len x.address (orders x.cell))
    (are : AreKeyed calls orders keyed) where
  back : IsPermutation calls (calls_of keyed)
  back = IsPermutation-sym (calls_of keyed) calls are.same

  -- each order has the accesses of its cell
  order_is : (c : ℕ) → accesses_of c (calls_of keyed) ≡ orders c
  order_is c = filter_map (λ (p : Keyed). p.call) (λ call. is_access call.entry.command && nat_eq (cell_at call) c) keyed ∙ ap calls_of (are.accesses c) ∙ keyed_calls 0 (orders c)

  order_same : (c : ℕ) → IsPermutation (orders c) (accesses_of c calls)
  order_same c = subst (λ xs. IsPermutation xs (accesses_of c calls)) (order_is c)
      (filter_permuted (λ call. is_access call.entry.command && nat_eq (cell_at call) c) (calls_of keyed) calls are.same)

  -- it respects time, and the cell's calls can be taken in it
  order_fits : (c : ℕ) → Pairs (λ front back. back.end < front.begin → ⊥) (orders c) × CanBeTaken calls c (orders c)
  order_fits c = elim (look_object calls history c) [
    | inl has ↦
        let fits = subst (λ d. ExplainsAccesses calls d has.object.len has.object.address (orders d)) has.cell (explains has.place has.new has.object has.made) in
        (pairs_from (λ front back. back.end < front.begin → ⊥) (orders c) fits.in_time, has.taken (orders c) fits)
    | inr none ↦
        let empty : [] ≡ orders c = few_same [] (orders c) (IsPermutation-sym (orders c) [] (subst (λ xs. IsPermutation (orders c) xs) none.0 (order_same c))) tt in
        subst (λ xs. Pairs (λ front back. back.end < front.begin → ⊥) xs × CanBeTaken calls c xs) empty (tt, none.1)
  ]

  -- the keys of the accesses are within them
  cell_within : (c : ℕ) → Every IsWithin (keyed_accesses c keyed)
  cell_within c =
      let takes = every_permuted (λ call. call.begin ≤ call.end) (accesses_of c calls) (orders c) (IsPermutation-sym (orders c) (accesses_of c calls) (order_same c))
      (every_filter (λ call. call.begin ≤ call.end) (λ call. is_access call.entry.command && nat_eq (cell_at call) c) calls
      (every_from (λ call. call.begin ≤ call.end) calls history.take_time)) in
      subst (Every IsWithin) (sym (are.accesses c))
      (keyed_within 0 (orders c) (every_weaker (λ call. call.begin ≤ call.end) (λ call. 0 ≤ call.end) (orders c) (λ call h. omega arith) takes) takes (order_fits c).0)

  accesses_within : Every (λ p. is_access p.call.entry.command ≡ true → IsWithin p) keyed
  accesses_within = every_weaker (λ p. (c : ℕ) → (is_access p.call.entry.command && nat_eq (cell_at p.call) c) ≡ true → IsWithin p)
      (λ p. is_access p.call.entry.command ≡ true → IsWithin p) keyed
      (λ p each access. each (cell_at p.call) (and_from (is_access p.call.entry.command) (nat_eq (cell_at p.call) (cell_at p.call)) access (eq-eqb (cell_at p.call) (cell_at p.call) refl)))
      (every_all (λ c p. (is_access p.call.entry.command && nat_eq (cell_at p.call) c) ≡ true → IsWithin p) keyed
      (λ c. every_unfilter IsWithin (λ p. is_access p.call.entry.command && nat_eq (cell_at p.call) c) keyed (cell_within c)))

  keys : Every HasOwnKey keyed
  keys = every_both (λ p. IsNew p.call.entry.command → p.key ≡ 3 * p.call.end + 2) (λ p. IsFree p.call.entry.command → p.key ≡ 3 * p.call.begin) HasOwnKey keyed
      (λ p news frees. (λ new. news (new_so p.call.entry.command new), λ free. frees (free_so p.call.entry.command free)))
      (every_from (λ p. IsNew p.call.entry.command → p.key ≡ 3 * p.call.end + 2) keyed are.news)
      (every_from (λ p. IsFree p.call.entry.command → p.key ≡ 3 * p.call.begin) keyed are.frees)

  effects : Every (λ call. HasEffect call.entry.command call.entry.reply) (calls_of keyed)
  effects = every_permuted (λ call. HasEffect call.entry.command call.entry.reply) calls (calls_of keyed) back
      (every_from (λ call. HasEffect call.entry.command call.entry.reply) calls history.have_effects)

  within : Every IsWithin keyed
  within = every_both (λ p. HasOwnKey p × (is_access p.call.entry.command ≡ true → IsWithin p))
      (λ p. HasEffect p.call.entry.command p.call.entry.reply × (p.call.begin ≤ p.call.end)) IsWithin keyed
      (λ p key call. all_within p key.0 key.1 call.0 call.1)
      (every_both HasOwnKey (λ p. is_access p.call.entry.command ≡ true → IsWithin p) (λ p. HasOwnKey p × (is_access p.call.entry.command ≡ true → IsWithin p)) keyed
      (λ p own access. (own, access)) keys accesses_within)
      (every_unmap (λ (p : Keyed). p.call) (λ call. HasEffect call.entry.command call.entry.reply × (call.begin ≤ call.end)) keyed
      (every_both (λ call. HasEffect call.entry.command call.entry.reply) (λ call. call.begin ≤ call.end)
      (λ call. HasEffect call.entry.command call.entry.reply × (call.begin ≤ call.end)) (calls_of keyed) (λ call effect takes. (effect, takes)) effects
      (every_permuted (λ call. call.begin ≤ call.end) calls (calls_of keyed) back (every_from (λ call. call.begin ≤ call.end) calls history.take_time))))

  rise : Pairs Rises keyed
  rise = pairs_from Rises keyed are.rise

  -- the calls of each cell are its `new`, its accesses in the given order, and its `free`
  of_cell_is : (c : ℕ) → of_cell c (calls_of keyed) ≡ news_of c calls ++ (orders c ++ frees_of c calls)
  of_cell_is c =
      timed_parts c (calls_of keyed) effects (kinds_rise calls (calls_of keyed) history are.same (keys_in_time keyed rise within))
      ∙ ap (λ (news : List Call). news ++ (accesses_of c (calls_of keyed) ++ frees_of c (calls_of keyed)))
      (sym (few_same (news_of c calls) (news_of c (calls_of keyed))
      (filter_permuted (λ call. is_new call.entry.command && nat_eq (cell_at call) c) calls (calls_of keyed) back) (one_new calls history c)))
      ∙ ap (λ (order : List Call). news_of c calls ++ (order ++ frees_of c (calls_of keyed))) (order_is c)
      ∙ ap (λ (free : List Call). news_of c calls ++ (orders c ++ free))
      (sym (few_same (frees_of c calls) (frees_of c (calls_of keyed)) (filter_permuted (frees c) calls (calls_of keyed) back) (one_free calls history c)))

  sorted : AreSorted calls keyed
  sorted = record {
    same = are.same;
    rise = rise;
    within = within;
    keys = keys;
    taken = λ c. subst (λ xs. (t : CellState) × Leads Unmade xs t) (sym (of_cell_is c)) (order_fits c).1;
  }

  pub keys_explain : Explains calls (calls_of keyed)
  keys_explain = sorted_explains calls history explained keyed sorted
