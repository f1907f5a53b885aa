-- The digits of an address.
use Rattle.std.proofs.Common.{◌≡◌, ℕ, suc, ◌/◌, ◌%◌, ◌+◌, ◌<◌, ◌≤◌, List, [], ◌∷◌, ◌++◌, append_assoc, length, length-append, ap, refl, sym, ◌∙◌, arith, inl, inr}
use Rattle.std.proofs.lemmas.Bool.{le-leb}
use Rattle.std.proofs.lemmas.Bool.Decides.{leb_tells}
use Rattle.model_jobs.proofs.Fields.{fewer_digits, hex_within}
use Rattle.model_jobs.specs.Texts.{address_text, hex_digit}
use Rattle.text_words.specs.Addresses.{wide_text}

-- a number of one digit
pub one_digit : (n : ℕ) → n < 16 → wide_text n ≡ hex_digit n ∷ []
unfolding wide_text
one_digit n low = rw (le-leb (suc n) 16 (omega (arith, low))) refl

-- a number of more digits
pub more_digits : (n : ℕ) → 16 ≤ n → n < 18446744073709551616 → wide_text n ≡ wide_text (n / 16) ++ hex_digit (n % 16) ∷ []
unfolding wide_text
more_digits n high small = elim (leb_tells (suc n) 16) [
  | inl low ↦ (let l = low.1 in absurd (omega (arith, l, high)))
  | inr not ↦ let fits : n / 16 < 1152921504606846976 = omega (arith, small) in rw not.0 (ap (λ (digits : List ℕ). digits ++ hex_digit (n % 16) ∷ []) (sym (fewer_digits 14 (n / 16) fits)))
]

-- how many digits they are
pub one_length : (n : ℕ) → n < 16 → length (wide_text n) ≡ 1
one_length n low = ap (λ (digits : List ℕ). length digits) (one_digit n low)

pub more_length : (n : ℕ) → 16 ≤ n → n < 18446744073709551616 → length (wide_text n) ≡ length (wide_text (n / 16)) + 1
more_length n high small =
    ap (λ (digits : List ℕ). length digits) (more_digits n high small) ∙ length-append (wide_text (n / 16)) (hex_digit (n % 16) ∷ [])

-- one digit behind the others
pub digits_told : (old mid new : List ℕ) (n digit : ℕ) → 16 ≤ n → n < 18446744073709551616 → mid ≡ old ++ wide_text (n / 16) → digit ≡ hex_digit (n % 16)
    → new ≡ mid ++ digit ∷ [] → new ≡ old ++ wide_text n
digits_told old mid new n digit high small first last then_all =
    then_all ∙ ap (λ (bytes : List ℕ). bytes ++ digit ∷ []) first ∙ append_assoc old (wide_text (n / 16)) (digit ∷ [])
    ∙ ap (λ (d : ℕ). old ++ (wide_text (n / 16) ++ d ∷ [])) last ∙ ap (λ (digits : List ℕ). old ++ digits) (sym (more_digits n high small))

-- there are 16 digits at most
pub few_digits : (n : ℕ) → length (wide_text n) ≤ 16
unfolding wide_text
few_digits n = omega (arith, (hex_within 15 n).2)

-- a number of 32 bits is spelt as the address of a job
pub address_digits : (n : ℕ) → n < 4294967296 → wide_text n ≡ address_text n
unfolding wide_text
address_digits n small = fewer_digits 14 n (omega (arith, small)) ∙ fewer_digits 13 n (omega (arith, small)) ∙ fewer_digits 12 n (omega (arith, small))
    ∙ fewer_digits 11 n (omega (arith, small)) ∙ fewer_digits 10 n (omega (arith, small)) ∙ fewer_digits 9 n (omega (arith, small))
    ∙ fewer_digits 8 n (omega (arith, small)) ∙ fewer_digits 7 n (omega (arith, small))
