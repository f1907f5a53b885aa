-- Slots of two groups joined.
use Rattle.std.proofs.lemmas.Bool.Decides.{nat_tests}
use Rattle.std.proofs.Common.{◌≡◌, ℕ, zero, suc, ◌<◌, ◌≤◌, List, [], ◌∷◌, Option, Some, None, length, slice_index_or, refl, sym, arith}
use Rattle.std.proofs.lemmas.List.{ext_get_or}
use Rattle.model_heap.specs.Mesh.{either_slot, united}
use Rattle.model_heap.specs.Table.{Slot}

-- so many slots are united
pub record AreUnited (old new others : List (Option Slot)) (count : ℕ) : Type 0 where
  pub long : length new ≡ length old
  pub below : (j : ℕ) → j < count → slice_index_or new j None ≡ either_slot (slice_index_or old j None) (slice_index_or others j None)
  pub above : (j : ℕ) → count ≤ j → slice_index_or new j None ≡ slice_index_or old j None

none_right : (x : Option Slot) → x ≡ either_slot x None
none_right None = refl
none_right (Some y) = refl

-- the slot of both groups
pub united_slot : (xs ys : List (Option Slot)) (k : ℕ) → slice_index_or (united xs ys) k None ≡ either_slot (slice_index_or xs k None) (slice_index_or ys k None)
united_slot [] ys k = refl
united_slot (x ∷ xs) [] zero = none_right x
united_slot (x ∷ xs) [] (suc k) = none_right (slice_index_or xs k None)
united_slot (x ∷ xs) (y ∷ ys) zero = refl
united_slot (x ∷ xs) (y ∷ ys) (suc k) = united_slot xs ys k

-- they are as many as before
pub united_long : (xs ys : List (Option Slot)) → length xs ≡ length ys → length (united xs ys) ≡ length xs
united_long [] ys same = sym same
united_long (x ∷ xs) [] same = refl
united_long (x ∷ xs) (y ∷ ys) same = let rest = united_long xs ys (omega (arith, same)) in omega (arith, rest)

-- the slots joined one by one
pub united_by_slots : (old new others : List (Option Slot)) → length new ≡ length old → length old ≡ length others
    → ((k : ℕ) → k < length old → slice_index_or new k None ≡ either_slot (slice_index_or old k None) (slice_index_or others k None)) → new ≡ united old others
united_by_slots old new others long same each =
    grind (arith, nat_tests, ext_get_or None new (united old others), united_long old others same, united_slot old others)
