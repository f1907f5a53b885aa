-- A decimal field, and the number that it spells.
use Rattle.std.proofs.Common.{◌≡◌, ℕ, ◌+◌, ◌%◌, ◌^◌, ◌<◌, ◌≤◌, true, false, ◌&&◌, if◌then◌else◌, List, [], ◌∷◌, ◌++◌, Ok, Err, length, get_or, refl, sym, ap, ◌∙◌, arith, ⊎_elim, length-append}
use Rattle.std.specs.Fmt.{decimal}
use Rattle.std.specs.List.{fold, list_all}
use Rattle.std.proofs.lemmas.Bool.{and_parts, true≢false, cases_lt}
use Rattle.std.proofs.lemmas.Fmt.{decimal_by_steps, digits_decimal, decimal-digits_value}
use Rattle.std.proofs.lemmas.List.{get_or_append_left}
use Rattle.std.proofs.lemmas.List.Sums.{fold-append}
use Rattle.std.proofs.lemmas.Str.Parse.{IsDigitsTest, FoldsDigits, IsNumeralModel, numerals_by_fold}
use Rattle.model_jobs.proofs.FieldReadings.{same_by_test}
use Rattle.model_jobs.specs.JobFiles.{are_same, is_between, with_decimal, decimal_value, number_in}
use Rattle.model_words.specs.declared.faults.FaultKind.TheVariants.{Number}
use Rattle.text_fields.specs.Fields.{is_decimal_digit}
use Rattle.text_fields.proofs.Sames.{fails, same_bytes, between_by_test}

-- decimal digits give their number back
value_of_decimal : (n : ℕ) → n < 2 ^ 64 → decimal_value (decimal n) ≡ n
value_of_decimal = decimal_by_steps (λ n digits. fold with_decimal 0 digits ≡ n) (λ n small. omega arith)
    (λ n digits large so_far. rw (fold-append with_decimal 0 digits ((48 + n % 10) ∷ []), so_far) (omega arith))

-- the field spells no number of 64 bits
abbrev pub IsNoNumber : List ℕ → Type 0
IsNoNumber field = (n : ℕ) → n < 2 ^ 64 → field ≡ decimal n → ⊥

-- a field of decimal digits
abbrev pub AreDigits : List ℕ → Type 0
AreDigits field = list_all is_decimal_digit field ≡ true

tells : IsDigitsTest AreDigits
tells = grind arith

folds : FoldsDigits (λ n digits. fold with_decimal n digits)
folds = grind arith

numerals : IsNumeralModel AreDigits decimal_value
numerals = numerals_by_fold AreDigits tells (λ n digits. fold with_decimal n digits) folds

-- digits without a leading zero spell their number
pub digits_spell : (field : List ℕ) → AreDigits field → 1 ≤ length field → ((2 ≤ length field) × (get_or field 0 0 ≡ 48) → ⊥) → decimal_value field < 2 ^ 64
    → field ≡ decimal (decimal_value field)
digits_spell field are some first small = sym (decimal-digits_value numerals field are (omega arith) (λ e. ⊎_elim
    (λ (l : length field < 2). omega arith) (λ (m : 2 ≤ length field). absurd (first (m, e))) (cases_lt (length field) 2)) small)

-- what isn't all digits spells no number
pub other_bytes : (field : List ℕ) → list_all is_decimal_digit field ≡ false → IsNoNumber field
other_bytes field other n small is = true≢false (sym (digits_decimal numerals n small) ∙ ap (list_all is_decimal_digit) (sym is) ∙ other)

-- nor do digits of a number that is too great
pub too_many : (field : List ℕ) → 2 ^ 64 ≤ decimal_value field → IsNoNumber field
too_many field large n small is = omega (arith, value_of_decimal n small, ap decimal_value is)

-- the first digit of a number
first_of : (n : ℕ) → n < 2 ^ 64 → (0 < length (decimal n)) × (0 < n → 48 < get_or (decimal n) 0 0) × (n < 10 → length (decimal n) ≡ 1)
first_of = decimal_by_steps (λ m ds. (0 < length ds) × (0 < m → 48 < get_or ds 0 0) × (m < 10 → length ds ≡ 1)) (λ m l. (omega arith, λ a. omega arith, λ a. refl))
    (λ m ds large h. (omega (arith, length-append ds ((48 + m % 10) ∷ [])), λ a. (let front : get_or (ds ++ ((48 + m % 10) ∷ [])) 0 0 ≡ get_or ds 0 0 = get_or_append_left ds ((48 + m % 10) ∷ []) 0 0 h.0 in omega (arith, front, h.1 (omega arith))), λ a. absurd (omega arith)))

-- no field spells no number
pub no_byte : (field : List ℕ) → length field ≡ 0 → IsNoNumber field
no_byte field none n small is = omega (arith, (first_of n small).0, ap length is)

-- nor do digits behind a leading zero
pub zero_first : (field : List ℕ) → 2 ≤ length field → get_or field 0 0 ≡ 48 → IsNoNumber field
zero_first field long lead n small is = grind (arith, first_of)

-- a field that spells a number is read as it, in its range
pub number_spelt : (least most : ℕ) (field : List ℕ) (n : ℕ) → n < 2 ^ 64 → field ≡ decimal n
    → number_in least most field ≡ (if is_between least most n then Ok n else Err Number)
number_spelt least most field n small is = rw (is, value_of_decimal n small, same_bytes (decimal n)) refl

-- a field that spells none is refused
pub number_unspelt : (least most : ℕ) (field : List ℕ) → most < 2 ^ 64 → IsNoNumber field → number_in least most field ≡ Err Number
number_unspelt least most field small none =
    rw (fails (are_same (decimal (decimal_value field)) field && is_between least most (decimal_value field)) (λ passes.
    let parts = and_parts (are_same (decimal (decimal_value field)) field) (is_between least most (decimal_value field)) passes in
    let ends = between_by_test least most (decimal_value field) parts.1 in
    none (decimal_value field) (omega (arith, ends.1, small)) (sym (same_by_test (decimal (decimal_value field)) field parts.0)))) refl
