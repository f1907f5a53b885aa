-- The accesses to an object, of the calls that are picked.
use Rattle.std.proofs.Common.{◌≡◌, ℕ, suc, ◌+◌, ◌<◌, inl, inr, Bool, true, false, List, [], ◌∷◌, map, replicate, arith, refl, sym, subst, ◌∙◌, ap, Option, Some, None, option_map}
use Rattle.std.specs.List.{filter}
use Rattle.std.specs.List.Sorted.{IsPermutation}
use Rattle.std.proofs.lemmas.List.Sorted.{IsPermutation-map, IsPermutation-sym}
use Rattle.model_intervals.specs.Completions.{picked}
use Rattle.model_intervals.specs.Intervals.{Call, RespectsTime}
use Rattle.model_intervals.specs.Objects.{ExplainsAccesses, accesses_of, bytes_behind}
use Rattle.model_intervals.specs.OverlappingCalls.{IsAt}
use Rattle.model_intervals.proofs.Filtered.{filter_all, filter_map}
use Rattle.model_intervals.proofs.Lists.{every_true}
use Rattle.history_object.specs.declared.access.Access.{Access}
use Rattle.history_object.specs.ObjectBytes.{State, bytes_of, effect, first_state}
use Rattle.history_object.specs.TimedCalls.{ExplainsTimed, Timed, RespectsTime as TimedRespectsTime, state_behind}
use Rattle.history_object.specs.TimedLaws.{those_taken}
use Rattle.history_object.proofs.Offsets.{bytes_of-first}
use Rattle.history_overlaps.specs.Accesses.{PlacedCall, is_access_of, placed_from, timed_accesses, timed_of}
use Rattle.history_overlaps.proofs.AccessOrders.{accesses_are, call_at, same_bytes, tells}
use Rattle.history_overlaps.proofs.Mapped.{all_pairs_mapped, all_pairs_unmapped, lifted}

-- ---- the picked accesses

-- the accesses of a cell, without those that are not taken
abbrev pub taken_from : (ℕ → Bool) → ℕ → ℕ → List Call → List PlacedCall
taken_from takes place cell calls = filter (λ placed. takes placed.place) (placed_from place cell calls)

-- they are the accesses among the picked calls
pub picked_accesses : (takes taken : ℕ → Bool) (place cell : ℕ) (calls : List Call)
    → ((i : ℕ) (a : Call) → IsAt calls i a → is_access_of cell a ≡ true → taken i ≡ takes (place + i))
    → map call_at (taken_from takes place cell calls) ≡ accesses_of cell (picked taken calls)
picked_accesses takes taken place cell [] same = refl
picked_accesses takes taken place cell (call ∷ calls) same =
    let later = picked_accesses takes (λ j. taken (suc j)) (suc place) cell calls
    (λ i a is access. same (suc i) a is access ∙ ap (λ (n : ℕ). takes n) (omega arith)) in
    elim (tells (is_access_of cell call)) [
      | inl access ↦
          let here : taken 0 ≡ takes place = same 0 call refl access ∙ ap (λ (n : ℕ). takes n) (omega arith) in
          elim (tells (taken 0)) [
            | inl on ↦ (let on' : takes place ≡ true = sym here ∙ on in rw (access, on, on', access) (ap (λ l. call ∷ l) later))
            | inr off ↦ (let off' : takes place ≡ false = sym here ∙ off in rw (access, off, off') later)
          ]
      | inr other ↦ elim (tells (taken 0)) [
        | inl on ↦ rw (other, on, other) later
        | inr off ↦ rw (other, off) later
      ]
    ]

-- where all accesses to the object are taken, they are all accesses to it
pub all_accesses : (taken : ℕ → Bool) (cell : ℕ) (calls : List Call) → ((i : ℕ) (a : Call) → IsAt calls i a → is_access_of cell a ≡ true → taken i ≡ true)
    → accesses_of cell (picked taken calls) ≡ accesses_of cell calls
all_accesses taken cell calls on =
    sym (picked_accesses (λ n. true) taken 0 cell calls on)
    ∙ ap (λ l. map call_at l) (filter_all (λ (placed : PlacedCall). true) (placed_from 0 cell calls)
    (every_true (λ (placed : PlacedCall). true ≡ true) (placed_from 0 cell calls) (λ placed. refl)))
    ∙ accesses_are 0 cell calls

-- ---- one order for another

module _ (address cell len : ℕ) (placed : List PlacedCall) (calls : List Call) (are : map call_at placed ≡ accesses_of cell calls) where
  -- an order of the calls of a judge, as one of the accesses
  pub placed_explained : (order : List (Timed Access)) → ExplainsTimed effect (first_state len) (map (timed_of address) placed) order
      → (own : List Call) × ExplainsAccesses calls cell len address own
  placed_explained order h =
      let l = lifted (timed_of address) placed order (IsPermutation-sym order (map (timed_of address) placed) h.same) in
      let behind = subst (λ xs. state_behind effect (first_state len) xs ≡ Some h.last) (sym l.2) h.answers in (
        map call_at l.0,
        record {
          same = subst (λ xs. IsPermutation (map call_at l.0) xs) are (IsPermutation-map call_at l.0 placed (IsPermutation-sym placed l.0 l.1));
          in_time = all_pairs_mapped call_at (λ front back. back.end < front.begin → ⊥) l.0
              (all_pairs_unmapped (timed_of address) (λ front back. back.end < front.begin → ⊥) l.0 (subst (λ xs. TimedRespectsTime xs) (sym l.2) h.in_time));
          last = bytes_of h.last;
          answers = subst (λ (bytes : List ℕ). bytes_behind address bytes (map call_at l.0) ≡ Some (bytes_of h.last)) (bytes_of-first len)
              (sym (same_bytes address l.0 (first_state len)) ∙ ap (λ s. option_map bytes_of s) behind);
        },
      )

  -- and the other way round
  pub explained_placed : (own : List Call) → ExplainsAccesses calls cell len address own
      → (order : List (Timed Access)) × ExplainsTimed effect (first_state len) (map (timed_of address) placed) order
  explained_placed own h =
      let l = lifted call_at placed own (subst (λ xs. IsPermutation xs own) (sym are) (IsPermutation-sym own (accesses_of cell calls) h.same)) in
      let behind = subst (λ xs. bytes_behind address (replicate len 0) xs ≡ Some h.last) (sym l.2) h.answers in
      let state = some_state (state_behind effect (first_state len) (map (timed_of address) l.0)) h.last
      (same_bytes address l.0 (first_state len) ∙ ap (λ (bytes : List ℕ). bytes_behind address bytes (map call_at l.0)) (bytes_of-first len) ∙ behind) in (
        map (timed_of address) l.0,
        record {
          same = IsPermutation-map (timed_of address) l.0 placed (IsPermutation-sym placed l.0 l.1);
          in_time = all_pairs_mapped (timed_of address) (λ front back. back.end < front.begin → ⊥) l.0
              (all_pairs_unmapped call_at (λ front back. back.end < front.begin → ⊥) l.0 (subst (λ xs. RespectsTime xs) (sym l.2) h.in_time));
          last = state.0;
          answers = state.1;
        },
      )
    where
      some_state : (s : Option State) (last : List ℕ) → option_map bytes_of s ≡ Some last → (state : State) × (s ≡ Some state)
      some_state None last is = cc
      some_state (Some state) last is = (state, refl)

-- ---- the calls of a judge whose numbers are taken

module _ (takes taken : ℕ → Bool) (address cell len : ℕ) (calls : List Call)
    (same : (i : ℕ) (a : Call) → IsAt calls i a → is_access_of cell a ≡ true → taken i ≡ takes (0 + i)) where
  judged_are : those_taken takes (timed_accesses cell address calls) ≡ map (timed_of address) (taken_from takes 0 cell calls)
  judged_are = filter_map (timed_of address) (λ timed. takes timed.number) (placed_from 0 cell calls)

  pub picked_explained : (order : List (Timed Access)) → ExplainsTimed effect (first_state len) (those_taken takes (timed_accesses cell address calls)) order
      → (own : List Call) × ExplainsAccesses (picked taken calls) cell len address own
  picked_explained order h = placed_explained address cell len (taken_from takes 0 cell calls) (picked taken calls) (picked_accesses takes taken 0 cell calls same) order
      (subst (λ xs. ExplainsTimed effect (first_state len) xs order) judged_are h)

  pub explained_picked : (own : List Call) → ExplainsAccesses (picked taken calls) cell len address own
      → (order : List (Timed Access)) × ExplainsTimed effect (first_state len) (those_taken takes (timed_accesses cell address calls)) order
  explained_picked own h =
      let found = explained_placed address cell len (taken_from takes 0 cell calls) (picked taken calls) (picked_accesses takes taken 0 cell calls same) own h in
      (found.0, subst (λ xs. ExplainsTimed effect (first_state len) xs found.0) (sym judged_are) found.1)
