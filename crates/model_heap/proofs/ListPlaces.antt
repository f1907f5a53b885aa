-- What a test of a list's elements tells of its places.
use Rattle.std.proofs.Common.{◌≡◌, ℕ, zero, suc, Bool, true, false, List, [], ◌∷◌, find, slice_get, refl, inl, inr, Some, None}
use Rattle.std.specs.List.{list_any}
use Rattle.model_words.proofs.Tests.{tells}

-- an element of a list that passes a test
pub record Passes (X : Type 0) (test : X → Bool) (xs : List X) : Type 0 where
  pub i : ℕ
  pub x : X
  pub there : slice_get xs i ≡ Some x
  pub passes : test x ≡ true

-- no element of the list passes the test
abbrev pub NonePasses : (X : Type 0) → (X → Bool) → List X → Type 0
NonePasses X test xs = (i : ℕ) (x : X) → slice_get xs i ≡ Some x → test x ≡ false

-- one more in front
later_passes : (X : Type 0) (test : X → Bool) (y : X) (xs : List X) → Passes X test xs → Passes X test (y ∷ xs)
later_passes X test y xs one = record { i = suc one.i; x = one.x; there = one.there; passes = one.passes }

-- none of a list with one more in front
more_pass : (X : Type 0) (test : X → Bool) (y : X) (xs : List X) → test y ≡ false → NonePasses X test xs → NonePasses X test (y ∷ xs)
more_pass X test y xs first rest zero x there = let here : Some y ≡ Some x = there in let same : y ≡ x = cc here in rw (← same) first
more_pass X test y xs first rest (suc i) x there = rest i x there

-- some element passes
pub any_passes : (X : Type 0) (test : X → Bool) (xs : List X) → list_any test xs ≡ true → Passes X test xs
any_passes X test [] h = absurd (cc)
any_passes X test (y ∷ xs) h = elim (tells (test y)) [
  | inl pass ↦ record { i = 0; x = y; there = refl; passes = pass }
  | inr fail ↦ let later : list_any test xs ≡ true = rw fail at h in later_passes X test y xs (any_passes X test xs later)
]

-- none passes
pub none_passes : (X : Type 0) (test : X → Bool) (xs : List X) → list_any test xs ≡ false → NonePasses X test xs
none_passes X test [] h = λ i x there. absurd (cc)
none_passes X test (y ∷ xs) h = elim (tells (test y)) [
  | inl pass ↦ absurd (let clash : true ≡ false = rw pass at h in cc clash)
  | inr fail ↦ let later : list_any test xs ≡ false = rw fail at h in more_pass X test y xs fail (none_passes X test xs later)
]

-- the element found is in the list and passes
pub found_passes : (X : Type 0) (test : X → Bool) (xs : List X) (x : X) → find test xs ≡ Some x → (i : ℕ) × (slice_get xs i ≡ Some x) × (test x ≡ true)
found_passes X test [] x h = absurd (cc)
found_passes X test (y ∷ xs) x h = elim (tells (test y)) [
  | inl pass ↦ let is : Some y ≡ Some x = rw pass at h in let here : y ≡ x = cc is in (0, is, rw (← here) pass)
  | inr fail ↦ let later : find test xs ≡ Some x = rw fail at h in let rest = found_passes X test xs x later in (suc rest.0, rest.1, rest.2)
]

-- where none is found none passes
pub none_found_passes : (X : Type 0) (test : X → Bool) (xs : List X) → find test xs ≡ None → NonePasses X test xs
none_found_passes X test [] h = λ i x there. absurd (cc)
none_found_passes X test (y ∷ xs) h = elim (tells (test y)) [
  | inl pass ↦ absurd (let clash : Some y ≡ None = rw pass at h in cc clash)
  | inr fail ↦ let later : find test xs ≡ None = rw fail at h in more_pass X test y xs fail (none_found_passes X test xs later)
]
