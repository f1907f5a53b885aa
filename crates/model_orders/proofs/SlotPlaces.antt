-- Which offsets of a span are those of a slot's live bytes.
use Rattle.std.proofs.Common.{◌≡◌, ℕ, ◌+◌, ◌*◌, ◌/◌, ◌%◌, ◌<◌, ◌≤◌, true, false, ◌&&◌, ◌⊎◌, inl, inr, nat_eq, nat_lt, sym, subst, ap, ◌∙◌, arith}
use Rattle.std.proofs.lemmas.Bool.{and_cases, and_parts, cases_order, eqb-true, eqb-false, ltb-true, ltb-false}
use Rattle.std.proofs.lemmas.Nat.{div-add-mod', mod_below, mul-le}

-- an offset at which this test is true is one of the first `len k` bytes of slot `k`
pub in_slot : (len : ℕ → ℕ) (class k place : ℕ) → (nat_lt (place % class) (len (place / class)) && nat_eq (place / class) k) ≡ true
    → (k * class ≤ place) × (place < k * class + len k)
in_slot len class k place both =
    let parts = and_parts _ _ both in
    let same : place / class ≡ k = eqb-true (place / class) k parts.1 in
    let short : place % class < len k = subst (λ q. place % class < len q) same (ltb-true (place % class) (len (place / class)) parts.0) in
    let whole : k * class + place % class ≡ place = ap (λ q. q * class + place % class) (sym same) ∙ div-add-mod' place class in
    (omega arith, omega arith)

-- an offset at which it is false is none of them
pub out_of_slot : (len : ℕ → ℕ) (class k place : ℕ) → 0 < class → len k ≤ class
    → (nat_lt (place % class) (len (place / class)) && nat_eq (place / class) k) ≡ false → (place < k * class) ⊎ (k * class + len k ≤ place)
out_of_slot len class k place some within none =
    let whole : place / class * class + place % class ≡ place = div-add-mod' place class in
    let rest : place % class < class = mod_below place class some in
    elim (cases_order (place / class) k) [
      | inl same ↦ elim (and_cases (nat_lt (place % class) (len (place / class))) (nat_eq (place / class) k) none) [
        | inl long ↦ let past : len k ≤ place % class = subst (λ q. len q ≤ place % class) same (ltb-false (place % class) (len (place / class)) long) in
            let product : place / class * class ≡ k * class = ap (λ q. q * class) same in
            inr (omega arith)
        | inr other ↦ absurd (eqb-false (place / class) k other same)
      ]
      | inr order ↦ elim order [
        | inl less ↦ let product : (place / class + 1) * class ≤ k * class = mul-le (place / class + 1) class k class (omega arith) (omega arith) in inl (omega arith)
        | inr more ↦ let product : (k + 1) * class ≤ place / class * class = mul-le (k + 1) class (place / class) class (omega arith) (omega arith) in inr (omega arith)
      ]
    ]
