-- Seats are settled, or one differs.
use Rattle.std.proofs.Common.{◌≡◌, ◌≢◌, ℕ, zero, suc, ◌<◌, List, [], ◌∷◌, slice_get, slice_index_or, ap, refl, arith, ◌⊎◌, inl, inr, Some}
use Rattle.std.proofs.lemmas.Bool.Decides.{nat_tests}
use Rattle.model_memory.proofs.Calls.{same_call}
use Rattle.model_memory.specs.Plain.{Entry}
use Rattle.model_memory.specs.SeatLaws.{SomeDiffers}
use Rattle.model_memory.specs.Seats.{AreSettled, Call, DifferFirstAt, calls_of}

-- the place after equal calls at which the later ones differ first
later_differ : (x y : Call) (xs ys : List Call) (i : ℕ) → x ≡ y → DifferFirstAt xs ys i → DifferFirstAt (x ∷ xs) (y ∷ ys) (suc i)
later_differ x y xs ys i same at_i = record {
  same_before = before;
  other = at_i.other;
}
  where
    before : (k : ℕ) → k < suc i → slice_get (x ∷ xs) k ≡ slice_get (y ∷ ys) k
    before zero below = ap Some same
    before (suc k) below = at_i.same_before k (omega (arith, below))

-- lists whose first calls differ do so at the first place
first_differ : (theirs ours : List Call) → slice_get theirs 0 ≢ slice_get ours 0 → DifferFirstAt theirs ours 0
first_differ theirs ours other = record { same_before = λ k below. absurd (omega (arith, below)); other = other }

-- two lists of calls are one, or differ first at a place
pub first_difference : (theirs ours : List Call) → (theirs ≡ ours) ⊎ ((i : ℕ) × DifferFirstAt theirs ours i)
first_difference [] [] = inl refl
first_difference [] (y ∷ ys) = inr (0, first_differ [] (y ∷ ys) (λ e. cc e))
first_difference (x ∷ xs) [] = inr (0, first_differ (x ∷ xs) [] (λ e. cc e))
first_difference (x ∷ xs) (y ∷ ys) = grind (arith, nat_tests, same_call x y, first_differ (x ∷ xs) (y ∷ ys), first_difference xs ys, later_differ x y xs ys)

-- all seats are settled, or one differs
pub settle_or_differ : (count : ℕ) (seats : List (List Call)) (entries : List Entry) → AreSettled count seats entries ⊎ SomeDiffers count seats entries
settle_or_differ zero seats entries = inl (λ w below. absurd (omega (arith, below)))
settle_or_differ (suc n) seats entries =
    grind (arith, nat_tests, settle_or_differ n seats entries, first_difference (slice_index_or seats n []) (calls_of n entries))
