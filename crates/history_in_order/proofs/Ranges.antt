-- Which addresses an object has, and which object has an address.
use Rattle.std.proofs.Common.{◌≡◌, ℕ, zero, suc, ◌+◌, ◌<◌, ◌≤◌, Bool, true, false, nat_lt, List, [], ◌∷◌, length, slice_index_or, ap, subst, refl, sym, ◌∙◌, arith, inl, inr, Option, Some, None}
use Rattle.std.proofs.lemmas.Bool.{le-leb, true≢false}
use Rattle.std.proofs.lemmas.Bool.Decides.{leb_tells}
use Rattle.std.proofs.lemmas.Grind.{common_steps}
use Rattle.std.specs.Ordering.{is_gt, is_lt, nat_cmp}
use Rattle.std.specs.BTreeMap.{is_at}
use Rattle.model_memory.specs.Memory.{Object, has_address, holder_from}

-- an object has the addresses from its own on, as many as it has bytes
pub has_within : (o : Object) (x : ℕ) → has_address o x ≡ true → (o.address ≤ x) × (x < o.address + length o.bytes)
has_within o x h = elim (leb_tells o.address x) [
  | inl from ↦ elim (leb_tells (suc x) (o.address + length o.bytes)) [
    | inl to ↦ (from.1, let t = to.1 in omega (arith, t))
    | inr past ↦ absurd (true≢false (sym h ∙ rw (from.0, past.0) refl))
  ]
  | inr before ↦ absurd (true≢false (sym h ∙ rw before.0 refl))
]

pub within_has : (o : Object) (x : ℕ) → o.address ≤ x → x < o.address + length o.bytes → has_address o x ≡ true
within_has o x from to = rw (le-leb o.address x from, le-leb (suc x) (o.address + length o.bytes) (omega (arith, to))) refl

-- an object without an address lies before or behind it
pub lacks : (o : Object) (x : ℕ) → ((o.address ≤ x) × (x < o.address + length o.bytes) → ⊥) → has_address o x ≡ false
lacks o x none = go (has_address o x) refl
  where
    go : (b : Bool) → has_address o x ≡ b → b ≡ false
    go true h = absurd (none (has_within o x h))
    go false h = refl

-- two objects of one address and length have the same addresses
pub has_same : (o p : Object) (x : ℕ) → p.address ≡ o.address → length p.bytes ≡ length o.bytes → has_address p x ≡ has_address o x
has_same o p x address len = rw (address, len) refl

passed : (k : ℕ) (o : Object) (os : List (Option Object)) (address : ℕ) → has_address o address ≡ false
    → holder_from k (Some o ∷ os) address ≡ holder_from (k + 1) os address
passed k o os address h = rw h refl

-- no object of the list has the address
pub no_holder : (k : ℕ) (os : List (Option Object)) (address : ℕ)
    → ((j : ℕ) (o : Object) → slice_index_or os j None ≡ Some o → has_address o address ≡ false) → holder_from k os address ≡ None
no_holder k [] address h = refl
no_holder k (None ∷ os) address h = no_holder (k + 1) os address (λ j o at. h (suc j) o at)
no_holder k (Some o ∷ os) address h = passed k o os address (h 0 o refl) ∙ no_holder (k + 1) os address (λ j p at. h (suc j) p at)

-- one object of the list has it
pub one_holder : (k : ℕ) (os : List (Option Object)) (address i : ℕ) (o : Object) → slice_index_or os i None ≡ Some o → has_address o address ≡ true
    → ((j : ℕ) (p : Object) → slice_index_or os j None ≡ Some p → has_address p address ≡ true → j ≡ i) → holder_from k os address ≡ Some (k + i)
one_holder k [] address i o at has only = absurd (cc at)
one_holder k (None ∷ os) address zero o at has only = absurd (cc at)
one_holder k (None ∷ os) address (suc i) o at has only =
    let sum : k + 1 + i ≡ k + suc i = omega arith in
    one_holder (k + 1) os address i o at has (λ j p at' has'. let same = only (suc j) p at' has' in omega (arith, same)) ∙ ap (λ (n : ℕ). Some n) sum
one_holder k (Some p ∷ os) address zero o at has only =
    let here : has_address p address ≡ true = subst (λ (x : Object). has_address x address ≡ true) (sym (cc at)) has in
    let sum : k ≡ k + 0 = omega arith in rw here (ap (λ (n : ℕ). Some n) sum)
one_holder k (Some p ∷ os) address (suc i) o at has only =
    let sum : k + 1 + i ≡ k + suc i = omega arith in
    let other = lacks p address (λ within. let same = only 0 p refl (within_has p address within.0 within.1) in absurd (omega (arith, same))) in
    passed k p os address other
    ∙ one_holder (k + 1) os address i o at has (λ j q at' has'. let same = only (suc j) q at' has' in omega (arith, same)) ∙ ap (λ (n : ℕ). Some n) sum

-- the order of keys is that of numbers
pub not_greater : (a b : ℕ) → a ≤ b → is_gt (nat_cmp a b) ≡ false
not_greater a b h = grind (arith, common_steps)

pub at_most : (a b : ℕ) → is_gt (nat_cmp a b) ≡ false → a ≤ b
at_most a b h = grind (arith, common_steps)

pub not_less : (a b : ℕ) → is_lt (nat_cmp a b) ≡ false → b ≤ a
not_less a b h = grind (arith, common_steps)

-- a key that isn't the query's
pub other_key : (k q : ℕ) → (q ≡ k → ⊥) → is_at (nat_cmp k) q ≡ false
other_key k q h = grind (arith, common_steps)

-- what a test of two numbers tells
pub behind_by_test : (a b : ℕ) → nat_lt a b ≡ true → a < b
behind_by_test a b h = elim (leb_tells (suc a) b) [ inl is ↦ (let i = is.1 in omega (arith, i)) | inr not ↦ absurd (true≢false (sym h ∙ not.0)) ]

pub before_by_test : (a b : ℕ) → nat_lt a b ≡ false → b ≤ a
before_by_test a b h = elim (leb_tells (suc a) b) [ inl is ↦ absurd (true≢false (sym is.0 ∙ h)) | inr not ↦ (let n = not.1 in omega (arith, n)) ]
