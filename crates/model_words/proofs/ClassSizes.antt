-- Which requests have a class.
use Rattle.std.proofs.Common.{◌≡◌, ℕ, ◌<◌, ◌≤◌, nat_le, List, [], ◌∷◌, find, option_map, arith, inl, inr, Some, None}
use Rattle.std.proofs.lemmas.Bool.Decides.{leb_tells}
use Rattle.model_words.specs.Classes.{Row, class_for, table}

-- each row is of a size below the length
abbrev AreShort : ℕ → List Row → Type 0
AreShort len [] = Unit {0}
AreShort len (r ∷ rows) = (r.size < len) × AreShort len rows

-- where no row holds a length, all are of smaller sizes
rows_short : (len : ℕ) (rows : List Row) → option_map (λ r. r.size) (find (λ r. nat_le len r.size) rows) ≡ None → AreShort len rows
rows_short len [] h = tt
rows_short len (r ∷ rows) h = elim (leb_tells len r.size) [
  | inl fits ↦ let clash : Some r.size ≡ None = rw fits.0 at h in absurd (cc clash)
  | inr short ↦ (short.1, rows_short len rows (rw short.0 at h))
]

-- each row is of at most this size
abbrev AreUpTo : ℕ → List Row → Type 0
AreUpTo most [] = Unit {0}
AreUpTo most (r ∷ rows) = (r.size ≤ most) × AreUpTo most rows

-- where a row holds a length, it is at most the rows' greatest size
rows_up_to : (len most class : ℕ) (rows : List Row) → AreUpTo most rows → option_map (λ r. r.size) (find (λ r. nat_le len r.size) rows) ≡ Some class
    → len ≤ most
rows_up_to len most class [] up_to h = absurd (cc)
rows_up_to len most class (r ∷ rows) up_to h = elim (leb_tells len r.size) [
  | inl fits ↦ omega (arith, fits.1, up_to.0)
  | inr short ↦ rows_up_to len most class rows up_to.1 (rw short.0 at h)
]

-- no class holds a request of more than 2048 bytes
pub class_none : (len : ℕ) → class_for len ≡ None → 2048 < len
class_none len h = (rows_short len table h).1.1.1.1.1.1.1.1.1.0

-- a class holds requests of up to 2048 bytes
pub class_some : (len class : ℕ) → class_for len ≡ Some class → len ≤ 2048
class_some len class h = rows_up_to len 2048 class table
    (omega arith, (omega arith, (omega arith, (omega arith, (omega arith, (omega arith, (omega arith, (omega arith, (omega arith, (omega arith, tt)))))))))) h
