-- Where the elements of a list stand in another order of them.
use Rattle.std.proofs.Common.{◌≡◌, ◌≢◌, ℕ, ◌<◌, true, false, if◌then◌else◌, nat_eq, List, [], ◌∷◌, length, get_or, slice_get, slice_set, ap, refl, sym, ◌∙◌, arith, inl, inr}
use Rattle.std.specs.List.{swap}
use Rattle.std.specs.List.Sorted.{IsPermutation}
use Rattle.std.proofs.lemmas.Bool.Decides.{eqb_tells, nat_tests}
use Rattle.std.proofs.lemmas.List.{length-set}
use Rattle.std.proofs.lemmas.List.Sorted.{IsPermutation-keeps}
use Rattle.std.proofs.lemmas.Option.{slice_get-get_or}
use Rattle.history_object.proofs.Places.{get_set_here, get_set_other}

-- the one list has the elements of the other, at the places that these functions give, each the other way round
pub record IsMoved {X : Type 0} (xs ys : List X) : Type 0 where
  pub to : ℕ → ℕ
  pub from : ℕ → ℕ
  pub there : (k : ℕ) → slice_get ys k ≡ slice_get xs (to k)
  pub back : (k : ℕ) → from (to k) ≡ k
  pub forth : (k : ℕ) → to (from k) ≡ k

-- a place behind an exchange of two
abbrev turned : ℕ → ℕ → ℕ → ℕ
turned i j k = if nat_eq k j then i else (if nat_eq k i then j else k)

turned_back : (i j k : ℕ) → turned i j (turned i j k) ≡ k
turned_back i j k = grind (arith, nat_tests)

-- the three cases of a place
data Turn (i j k : ℕ) : Type 0 where
  Second : k ≡ j → turned i j k ≡ i → Turn i j k
  First : k ≢ j → k ≡ i → turned i j k ≡ j → Turn i j k
  Other : k ≢ j → k ≢ i → turned i j k ≡ k → Turn i j k

turn : (i j k : ℕ) → Turn i j k
turn i j k = elim (eqb_tells k j) [
  | inl second ↦ (let test : nat_eq k j ≡ true = second.0 in Second second.1 (rw test refl))
  | inr not ↦ (
      let test : nat_eq k j ≡ false = not.0 in
      elim (eqb_tells k i) [
        | inl first ↦ (let test' : nat_eq k i ≡ true = first.0 in First not.1 first.1 (rw test (rw test' refl)))
        | inr other ↦ (let test' : nat_eq k i ≡ false = other.0 in Other not.1 other.1 (rw test (rw test' refl)))
      ])
]

-- an element behind an exchange
exchanged : {X : Type 0} → (xs : List X) (d : X) (i j k : ℕ) → i < length xs → j < length xs
    → slice_get (slice_set (slice_set xs i (get_or xs j d)) j (get_or xs i d)) k ≡ slice_get xs (turned i j k)
exchanged {X} xs d i j k at_i at_j = elim (turn i j k) [
  | Second same is ↦ ap (λ m. slice_get (slice_set (slice_set xs i (get_or xs j d)) j (get_or xs i d)) m) same
      ∙ (get_set_here (slice_set xs i (get_or xs j d)) j (get_or xs i d) (simp length-set (omega (arith, at_j)))
      ∙ (sym (slice_get-get_or xs i d at_i) ∙ ap (λ m. slice_get xs m) (sym is)))
  | First not same is ↦ get_set_other (slice_set xs i (get_or xs j d)) j k (get_or xs i d) (λ e. not (sym e))
      ∙ (ap (λ m. slice_get (slice_set xs i (get_or xs j d)) m) same
      ∙ (get_set_here xs i (get_or xs j d) at_i ∙ (sym (slice_get-get_or xs j d at_j) ∙ ap (λ m. slice_get xs m) (sym is))))
  | Other not not' is ↦ get_set_other (slice_set xs i (get_or xs j d)) j k (get_or xs i d) (λ e. not (sym e))
      ∙ (get_set_other xs i k (get_or xs j d) (λ e. not' (sym e)) ∙ ap (λ m. slice_get xs m) (sym is))
]

swapped : {X : Type 0} → (xs : List X) (i j k : ℕ) → i < length xs → j < length xs → slice_get (swap xs i j) k ≡ slice_get xs (turned i j k)
swapped [] i j k at_i at_j = absurd (omega (arith, at_i))
swapped (x ∷ xs) i j k at_i at_j = exchanged (x ∷ xs) x i j k at_i at_j

pub is_moved : {X : Type 0} → (xs ys : List X) → IsPermutation xs ys → IsMoved xs ys
is_moved {X} xs ys same = IsPermutation-keeps xs (λ l. IsMoved xs l) itself step ys same
  where
    itself : IsMoved xs xs
    itself = record { to = λ k. k; from = λ k. k; there = λ k. refl; back = λ k. refl; forth = λ k. refl }

    step : (l : List X) (i j : ℕ) → i < length l → j < length l → IsMoved xs l → IsMoved xs (swap l i j)
    step l i j at_i at_j moved = record {
      to = λ k. moved.to (turned i j k);
      from = λ k. turned i j (moved.from k);
      there = λ k. swapped l i j k at_i at_j ∙ moved.there (turned i j k);
      back = λ k. ap (λ m. turned i j m) (moved.back (turned i j k)) ∙ turned_back i j k;
      forth = λ k. ap moved.to (turned_back i j (moved.from k)) ∙ moved.forth k;
    }
