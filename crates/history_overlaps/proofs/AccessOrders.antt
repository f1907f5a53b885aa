-- Orders of the accesses to an object, and orders of the calls of its judge.
use Rattle.std.proofs.Common.{◌≡◌, ℕ, zero, suc, ◌+◌, ◌<◌, ◌⊎◌, inl, inr, Bool, true, false, List, [], ◌∷◌, ◌++◌, length, map, replicate, arith, refl, sym, subst, ◌∙◌, ap, Option, Some, None, option_map, option_and_then, slice_get}
use Rattle.std.specs.List.Sorted.{IsPermutation}
use Rattle.std.proofs.lemmas.List.Sorted.{IsPermutation-map, IsPermutation-sym}
use Rattle.model_intervals.specs.Intervals.{Call, RespectsTime}
use Rattle.model_intervals.specs.Objects.{ExplainsAccesses, accesses_of, bytes_behind, effect_on}
use Rattle.history_object.specs.declared.access.Access.{Access}
use Rattle.history_object.specs.ObjectBytes.{State, bytes_of, effect, first_state}
use Rattle.history_object.proofs.Accessed.{effect_is_access}
use Rattle.history_object.proofs.Offsets.{bytes_of-first}
use Rattle.history_object.specs.TimedCalls.{ExplainsTimed, Timed, RespectsTime as TimedRespectsTime, state_behind}
use Rattle.history_overlaps.specs.Accesses.{PlacedCall, access_of, is_access_of, placed_from, timed_accesses, timed_of}
use Rattle.history_overlaps.proofs.AccessBytes.{same_access}
use Rattle.history_overlaps.proofs.Mapped.{all_pairs_mapped, all_pairs_unmapped, lifted}

-- a test is true or false
pub tells : (b : Bool) → (b ≡ true) ⊎ (b ≡ false)
tells true = inl refl
tells false = inr refl

abbrev pub call_at : PlacedCall → Call
call_at placed = placed.call

-- ---- the accesses with their places

-- without their places, they are the accesses
pub accesses_are : (place cell : ℕ) (calls : List Call) → map call_at (placed_from place cell calls) ≡ accesses_of cell calls
accesses_are place cell [] = refl
accesses_are place cell (call ∷ calls) = elim (tells (is_access_of cell call)) [
  | inl is ↦ rw is (ap (λ l. call ∷ l) (accesses_are (suc place) cell calls))
  | inr is ↦ rw is (accesses_are (suc place) cell calls)
]

pub placed_append : (place cell : ℕ) (calls more : List Call)
    → placed_from place cell (calls ++ more) ≡ placed_from place cell calls ++ placed_from (place + length calls) cell more
placed_append place cell [] more = ap (λ (n : ℕ). placed_from n cell more) (omega arith)
placed_append place cell (call ∷ calls) more =
    let later = placed_append (suc place) cell calls more ∙ ap (λ (n : ℕ). placed_from (suc place) cell calls ++ placed_from n cell more) (omega arith) in
    elim (tells (is_access_of cell call)) [
      | inl is ↦ rw is (ap (λ l. record { place = place; call = call } ∷ l) later)
      | inr is ↦ rw is later
    ]

-- what is known of one of them: its place, and that it is an access
pub record IsPlacedOf (place cell : ℕ) (calls : List Call) (placed : PlacedCall) : Type 0 where
  pub at : ℕ
  pub place_is : placed.place ≡ place + at
  pub there : slice_get calls at ≡ Some placed.call
  pub accesses : is_access_of cell placed.call ≡ true

placed_later : (place cell : ℕ) (call : Call) (calls : List Call) (placed : PlacedCall) → IsPlacedOf (suc place) cell calls placed → IsPlacedOf place cell (call ∷ calls) placed
placed_later place cell call calls placed h = record { at = suc h.at; place_is = (let e = h.place_is in omega (arith, e)); there = h.there; accesses = h.accesses }

-- each is an access at its place
pub placed_at : (place cell : ℕ) (calls : List Call) (k : ℕ) (placed : PlacedCall) → slice_get (placed_from place cell calls) k ≡ Some placed
    → IsPlacedOf place cell calls placed
placed_at place cell [] zero placed is = cc
placed_at place cell [] (suc k) placed is = cc
placed_at place cell (call ∷ calls) zero placed is = elim (tells (is_access_of cell call)) [
  | inl access ↦
      let at = subst (λ (l : List PlacedCall). slice_get l 0 ≡ Some placed) (with_access access) is in
      let same : record { place = place; call = call } ≡ placed = cc at in
      subst (λ (p : PlacedCall). IsPlacedOf place cell (call ∷ calls) p) same (record { at = 0; place_is = omega arith; there = refl; accesses = access })
  | inr other ↦ placed_later place cell call calls placed
      (placed_at (suc place) cell calls 0 placed (subst (λ (l : List PlacedCall). slice_get l 0 ≡ Some placed) (without_access other) is))
]
  where
    with_access : is_access_of cell call ≡ true → placed_from place cell (call ∷ calls) ≡ record { place = place; call = call } ∷ placed_from (suc place) cell calls
    with_access access = rw access refl

    without_access : is_access_of cell call ≡ false → placed_from place cell (call ∷ calls) ≡ placed_from (suc place) cell calls
    without_access other = rw other refl
placed_at place cell (call ∷ calls) (suc k) placed is = elim (tells (is_access_of cell call)) [
  | inl access ↦ placed_later place cell call calls placed
      (placed_at (suc place) cell calls k placed (subst (λ (l : List PlacedCall). slice_get l (suc k) ≡ Some placed) (with_access access) is))
  | inr other ↦ placed_later place cell call calls placed
      (placed_at (suc place) cell calls (suc k) placed (subst (λ (l : List PlacedCall). slice_get l (suc k) ≡ Some placed) (without_access other) is))
]
  where
    with_access : is_access_of cell call ≡ true → placed_from place cell (call ∷ calls) ≡ record { place = place; call = call } ∷ placed_from (suc place) cell calls
    with_access access = rw access refl

    without_access : is_access_of cell call ≡ false → placed_from place cell (call ∷ calls) ≡ placed_from (suc place) cell calls
    without_access other = rw other refl

-- ---- one order for another

module _ (address : ℕ) where
  -- the bytes behind the calls of a judge are those behind the accesses
  pub same_bytes : (order : List PlacedCall) (state : State)
      → option_map bytes_of (state_behind effect state (map (timed_of address) order)) ≡ bytes_behind address (bytes_of state) (map call_at order)
  same_bytes [] state = refl
  same_bytes (placed ∷ order) state =
      let access = access_of address placed.call.entry.command placed.call.entry.reply in
      let does = effect_is_access state access ∙ same_access address placed.call.entry.command placed.call.entry.reply (bytes_of state) in
      chained (effect state access) (effect_on address (bytes_of state) placed.call) does
      (λ n. state_behind effect n (map (timed_of address) order)) (λ bytes. bytes_behind address bytes (map call_at order)) (λ next. same_bytes order next)
    where
      chained : (next : Option State) (after : Option (List ℕ)) → option_map bytes_of next ≡ after → (f : State → Option State) (g : List ℕ → Option (List ℕ))
          → ((n : State) → option_map bytes_of (f n) ≡ g (bytes_of n)) → option_map bytes_of (option_and_then f next) ≡ option_and_then g after
      chained None after same f g each = ap (λ a. option_and_then g a) same
      chained (Some next) after same f g each = each next ∙ ap (λ a. option_and_then g a) same

  -- an order of the accesses with their places, as an order of the calls of a judge
  pub record IsOrderOf (cell len : ℕ) (calls : List Call) (order : List (Timed Access)) : Type 0 where
    pub placed : List PlacedCall
    pub permuted : IsPermutation (placed_from 0 cell calls) placed
    pub timed : map (timed_of address) placed ≡ order
    pub explains : ExplainsAccesses calls cell len address (map call_at placed)

  -- accesses of a cell that a judge of timed calls explains
  pub explained_in_order : (cell len : ℕ) (calls : List Call) (order : List (Timed Access)) → ExplainsTimed effect (first_state len) (timed_accesses cell address calls) order
      → IsOrderOf cell len calls order
  explained_in_order cell len calls order h =
      let placed = placed_from 0 cell calls in
      let l = lifted (timed_of address) placed order (IsPermutation-sym order (map (timed_of address) placed) h.same) in
      let behind = subst (λ xs. state_behind effect (first_state len) xs ≡ Some h.last) (sym l.2) h.answers in record {
        placed = l.0;
        permuted = l.1;
        timed = l.2;
        explains = record {
          same = subst (λ xs. IsPermutation (map call_at l.0) xs) (accesses_are 0 cell calls)
              (IsPermutation-map call_at l.0 placed (IsPermutation-sym placed l.0 l.1));
          in_time = all_pairs_mapped call_at (λ front back. back.end < front.begin → ⊥) l.0
              (all_pairs_unmapped (timed_of address) (λ front back. back.end < front.begin → ⊥) l.0 (subst (λ xs. TimedRespectsTime xs) (sym l.2) h.in_time));
          last = bytes_of h.last;
          answers = subst (λ (bytes : List ℕ). bytes_behind address bytes (map call_at l.0) ≡ Some (bytes_of h.last)) (bytes_of-first len)
              (sym (same_bytes l.0 (first_state len)) ∙ ap (λ s. option_map bytes_of s) behind);
        };
      }

  pub accesses_explained : (cell len : ℕ) (calls : List Call) (order : List (Timed Access)) → ExplainsTimed effect (first_state len) (timed_accesses cell address calls) order
      → (own : List Call) × ExplainsAccesses calls cell len address own
  accesses_explained cell len calls order h = let found = explained_in_order cell len calls order h in (map call_at found.placed, found.explains)

  -- and the other way round
  pub timed_explained : (cell len : ℕ) (calls own : List Call) → ExplainsAccesses calls cell len address own
      → (order : List (Timed Access)) × ExplainsTimed effect (first_state len) (timed_accesses cell address calls) order
  timed_explained cell len calls own h =
      let placed = placed_from 0 cell calls in
      let l = lifted call_at placed own (subst (λ xs. IsPermutation xs own) (sym (accesses_are 0 cell calls)) (IsPermutation-sym own (accesses_of cell calls) h.same)) in
      let behind = subst (λ xs. bytes_behind address (replicate len 0) xs ≡ Some h.last) (sym l.2) h.answers in
      let state = some_state (state_behind effect (first_state len) (map (timed_of address) l.0)) h.last
      (same_bytes l.0 (first_state len) ∙ ap (λ (bytes : List ℕ). bytes_behind address bytes (map call_at l.0)) (bytes_of-first len) ∙ behind) in (
        map (timed_of address) l.0,
        record {
          same = IsPermutation-map (timed_of address) l.0 placed (IsPermutation-sym placed l.0 l.1);
          in_time = all_pairs_mapped (timed_of address) (λ front back. back.end < front.begin → ⊥) l.0
              (all_pairs_unmapped call_at (λ front back. back.end < front.begin → ⊥) l.0 (subst (λ xs. RespectsTime xs) (sym l.2) h.in_time));
          last = state.0;
          answers = state.1;
        },
      )
    where
      some_state : (s : Option State) (last : List ℕ) → option_map bytes_of s ≡ Some last → (state : State) × (s ≡ Some state)
      some_state None last is = cc
      some_state (Some state) last is = (state, refl)
