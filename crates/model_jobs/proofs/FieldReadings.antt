-- What a field that was read says of its number: the field is the number's spelling, and the number is in its range.
use Rattle.std.proofs.lemmas.Bool.Decides.{nat_tests}
use Rattle.std.proofs.Common.{◌≡◌, ℕ, ◌+◌, ◌*◌, ◌/◌, ◌%◌, ◌<◌, ◌≤◌, Bool, true, false, ◌&&◌, not, if◌then◌else◌, nat_eq, nat_le, List, [], ◌∷◌, map, Some, Ok, Err, length, refl, sym, subst, arith, inl, inr}
use Rattle.std.specs.Prelude.{IsSome, ◌⊎◌}
use Rattle.std.specs.Fmt.{decimal}
use Rattle.std.specs.List.{All}
use Rattle.std.proofs.lemmas.Bool.{le-leb, lt-leb, and_parts, leb-true, true≢false}
use Rattle.std.proofs.lemmas.List.Elements.{All-cons, All-nil}
use Rattle.model_words.proofs.Tests.{equal}
use Rattle.model_words.specs.Classes.{row_of}
use Rattle.model_jobs.specs.JobFiles.{are_same, is_between, decimal_value, number_in, hex_value, hex_number, address_in, byte_from, bytes_from, bytes_in, byte_in, word_in, class_in, words_in}
use Rattle.model_jobs.specs.Texts.{hex_digit, address_text, byte_text, bytes_text}
use Rattle.model_words.specs.declared.faults.FaultKind.TheVariants.{Number, Hex}
use Rattle.model_words.proofs.Chains.{went_on, or_refuse_went, refuse_if_went}
use Rattle.model_jobs.proofs.Fields.{between_by_test}

-- which branch gave the value
pub if_tells : {A : Type 0} (b : Bool) (x y z : A) → (if b then x else y) ≡ z → ((b ≡ true) × (x ≡ z)) ⊎ ((b ≡ false) × (y ≡ z))
if_tells true x y z h = inl (refl, h)
if_tells false x y z h = inr (refl, h)

-- a value that a test let pass
pub let_pass : {A E : Type 0} (e : E) (b : Bool) (x y : A) → (if b then Ok x else Err e) ≡ Ok y → (b ≡ true) × (x ≡ y)
let_pass e true x y h = (refl, cc h)
let_pass e false x y h = absurd (cc h)

-- bytes that pass the test are the same
pub same_by_test : (xs ys : List ℕ) → are_same xs ys ≡ true → xs ≡ ys
same_by_test [] [] h = refl
same_by_test [] (y ∷ ys) h = absurd (true≢false (sym h))
same_by_test (x ∷ xs) [] h = absurd (true≢false (sym h))
same_by_test (x ∷ xs) (y ∷ ys) h = grind (arith, nat_tests, and_parts (nat_eq x y) (are_same xs ys) h, equal x y, same_by_test xs ys)

-- a decimal field that was read is the spelling of its number
pub number_told : (least most : ℕ) (field : List ℕ) (n : ℕ) → number_in least most field ≡ Ok n → (field ≡ decimal n) × (least ≤ n) × (n ≤ most)
number_told least most field n h = grind (arith, nat_tests, let_pass, and_parts, between_by_test, same_by_test (decimal (decimal_value field)) field)

-- an address that was read is the spelling of its number
pub address_told : (field : List ℕ) (address : ℕ) → address_in field ≡ Ok address → (field ≡ address_text address) × (address ≤ 268435455)
address_told field address h = grind (
  arith,
  nat_tests,
  let_pass Number (are_same (address_text (hex_number field)) field && nat_le (hex_number field) 268435455) (hex_number field) address h,
  and_parts,
  same_by_test (address_text (hex_number field)) field,
  leb-true,
)

-- a hexadecimal digit that was read is the spelling of its value
pub digit_told : (byte v : ℕ) → hex_value byte ≡ Some v → (byte ≡ hex_digit v) × (v < 16)
digit_told byte v h = grind (arith, nat_tests, if_tells, between_by_test, le-leb, lt-leb)

-- two hexadecimal digits that were read are the spelling of their byte
pub digits_told : (high low byte : ℕ) → byte_from high low ≡ Ok byte
    → (high ≡ hex_digit (byte / 16)) × (low ≡ hex_digit (byte % 16)) × (byte ≤ 255)
digits_told high low byte h =
    let first = or_refuse_went Hex (hex_value high) _ byte h in let second = or_refuse_went Hex (hex_value low) _ byte first.then in
    let up = digit_told high first.value first.is in let down = digit_told low second.value second.is in
    let is : 16 * first.value + second.value ≡ byte = cc second.then in
    let quotient : byte / 16 ≡ first.value = omega (arith, is, down.1) in let rest : byte % 16 ≡ second.value = omega (arith, is, down.1) in
    (rw quotient up.0, rw rest down.0, omega (arith, is, up.1, down.1))

-- a byte that was read is spelt by its field
pub byte_told : (field : List ℕ) (byte : ℕ) → byte_in field ≡ Ok byte → (field ≡ byte_text byte) × (byte ≤ 255)
byte_told (high ∷ low ∷ []) byte h = let told = digits_told high low byte h in (cc (told.0, told.1), told.2)
byte_told field byte h = absurd (cc h)

-- bytes that were read are spelt by their digits
pub digits_of_bytes_told : (digits bytes : List ℕ) → bytes_from digits ≡ Ok bytes → (digits ≡ bytes_text bytes) × All (λ b. b ≤ 255) bytes
digits_of_bytes_told [] bytes h = grind (arith, nat_tests, All-nil)
digits_of_bytes_told (high ∷ []) bytes h = absurd (cc h)
digits_of_bytes_told (high ∷ low ∷ digits) bytes h =
    let byte = went_on (byte_from high low) _ bytes h in let later = went_on (bytes_from digits) _ bytes byte.then in
    let front = digits_told high low byte.value byte.is in let rest = digits_of_bytes_told digits later.value later.is in
    let is : byte.value ∷ later.value ≡ bytes = cc later.then in
    subst (λ (bs : List ℕ). (high ∷ low ∷ digits ≡ bytes_text bs) × All (λ b. b ≤ 255) bs) is
    (cc (front.0, front.1, rest.0), All-cons (λ b. b ≤ 255) byte.value later.value front.2 rest.1)

-- a test that is not refused where it fails holds
pub not_refused : (b : Bool) → not b ≡ false → b ≡ true
not_refused true h = refl
not_refused false h = absurd (true≢false h)

-- a field of bytes that was read is the spelling of its bytes
pub bytes_told : (field bytes : List ℕ) → bytes_in 32 field ≡ Ok bytes
    → (field ≡ bytes_text bytes) × (1 ≤ length bytes) × (length bytes ≤ 32) × All (λ b. b ≤ 255) bytes
bytes_told field bytes h =
    let read = went_on (bytes_from field) _ bytes h in let digits = digits_of_bytes_told field read.value read.is in
    let room = refuse_if_went Hex (not (is_between 1 32 (length read.value))) _ bytes read.then in
    let ends = between_by_test 1 32 (length read.value) (not_refused (is_between 1 32 (length read.value)) room.0) in
    let is : read.value ≡ bytes = cc room.1 in
    subst (λ (bs : List ℕ). (field ≡ bytes_text bs) × (1 ≤ length bs) × (length bs ≤ 32) × All (λ b. b ≤ 255) bs) is (digits.0, ends.0, ends.1, digits.1)

-- a class that was read is one of the table, and is spelt by its field
pub class_told : (field : List ℕ) (class : ℕ) → class_in field ≡ Ok class → (field ≡ decimal class) × IsSome (row_of class)
class_told field class h = grind (arith, number_told)

-- words that were read are spelt by their fields
pub words_told : (fields : List (List ℕ)) (words : List ℕ) → words_in fields ≡ Ok words
    → (fields ≡ map decimal words) × All (λ w. w ≤ 18446744073709551615) words
words_told [] words h = grind (arith, nat_tests, All-nil)
words_told (f ∷ fs) words h =
    let word = went_on (word_in f) _ words h in let later = went_on (words_in fs) _ words word.then in
    let front = number_told 0 18446744073709551615 f word.value word.is in let rest = words_told fs later.value later.is in
    let is : word.value ∷ later.value ≡ words = cc later.then in
    subst (λ (ws : List ℕ). (f ∷ fs ≡ map decimal ws) × All (λ w. w ≤ 18446744073709551615) ws) is
    (cc (front.0, rest.0), All-cons (λ w. w ≤ 18446744073709551615) word.value later.value front.2 rest.1)
