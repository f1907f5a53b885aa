-- What a test tells that was passed, or was not.
use Rattle.std.proofs.Common.{◌≡◌, Bool, true, false, refl, ◌⊎◌, inl, inr, ℕ, ◌≤◌, not, ◌&&◌, nat_eq, arith, suc, ◌<◌, nat_lt, sym}
use Rattle.std.proofs.lemmas.Bool.Decides.{eqb_tells, leb_tells}

-- a test is true or false
pub tells : (b : Bool) → (b ≡ true) ⊎ (b ≡ false)
tells true = inl refl
tells false = inr refl

-- both tests hold
pub both_hold : (a b : Bool) → (a && b) ≡ true → (a ≡ true) × (b ≡ true)
both_hold true b h = (refl, h)
both_hold false b h = absurd (cc)

-- not zero, and so positive
pub positive : (len : ℕ) → nat_eq len 0 ≡ false → 1 ≤ len
positive len h = elim (eqb_tells len 0) [
  | inl none ↦ let clash : true ≡ false = rw none.0 at h in absurd (cc)
  | inr some ↦ let apart = some.1 in omega (arith, apart)
]

-- what a test of equal numbers tells
pub equal : (a b : ℕ) → nat_eq a b ≡ true → a ≡ b
equal a b h = elim (eqb_tells a b) [ inl same ↦ same.1 | inr other ↦ let clash : false ≡ true = rw other.0 at h in absurd (cc clash) ]

pub unequal : (a b : ℕ) → nat_eq a b ≡ false → a ≡ b → ⊥
unequal a b h is = elim (eqb_tells a b) [ inl same ↦ let clash : true ≡ false = rw same.0 at h in cc clash | inr other ↦ other.1 is ]

-- what a test of order tells
pub less : (a b : ℕ) → nat_lt a b ≡ true → a < b
less a b h = elim (leb_tells (suc a) b) [ inl below ↦ below.1 | inr past ↦ let clash : false ≡ true = rw past.0 at h in absurd (cc clash) ]

pub not_less : (a b : ℕ) → nat_lt a b ≡ false → a < b → ⊥
not_less a b h is = elim (leb_tells (suc a) b) [
  | inl below ↦ let clash : true ≡ false = rw below.0 at h in cc clash
  | inr past ↦ let high = past.1 in omega (arith, high, is)
]

-- what a test that isn't passed tells
pub negated : (b : Bool) → not b ≡ true → b ≡ false
negated true h = sym h
negated false h = refl

pub unnegated : (b : Bool) → not b ≡ false → b ≡ true
unnegated true h = refl
unnegated false h = sym h
