-- Bytes that are the same, and tests that fail.
use Rattle.std.proofs.Common.{◌≡◌, ℕ, ◌≤◌, Bool, true, false, nat_le, List, [], ◌∷◌, refl}
use Rattle.std.specs.Str.{bytes_eq}
use Rattle.std.proofs.lemmas.Bool.{and_parts, eq-eqb, leb-true}
use Rattle.model_jobs.specs.JobFiles.{are_same, is_between}

-- a test that can't hold fails
pub fails : (b : Bool) → (b ≡ true → ⊥) → b ≡ false
fails true h = absurd (h refl)
fails false h = refl

-- bytes are the same as themselves
pub same_bytes : (bytes : List ℕ) → are_same bytes bytes ≡ true
same_bytes [] = refl
same_bytes (b ∷ bs) = rw (eq-eqb b b refl, same_bytes bs) refl

-- what `==` of two slices tests
pub pointwise_same : (xs ys : List ℕ) → bytes_eq xs ys ≡ are_same xs ys
pointwise_same [] [] = refl
pointwise_same [] (y ∷ ys) = refl
pointwise_same (x ∷ xs) [] = refl
pointwise_same (x ∷ xs) (y ∷ ys) = rw (pointwise_same xs ys) refl

-- the test of a range tells it
pub between_by_test : (least most n : ℕ) → is_between least most n ≡ true → (least ≤ n) × (n ≤ most)
between_by_test least most n passes = let parts = and_parts (nat_le least n) (nat_le n most) passes in (leb-true least n parts.0, leb-true n most parts.1)
