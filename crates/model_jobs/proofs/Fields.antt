-- The fields of a line, read back.
use Rattle.std.proofs.Common.{◌≡◌, ℕ, zero, suc, ◌+◌, ◌*◌, ◌/◌, ◌%◌, ◌^◌, ◌<◌, ◌≤◌, true, nat_le, List, [], ◌∷◌, ◌++◌, Some, Ok, length, refl, arith}
use Rattle.std.specs.List.{All, fold, list_all}
use Rattle.std.specs.Fmt.{decimal}
use Rattle.std.proofs.lemmas.Grind.{common_steps}
use Rattle.std.proofs.lemmas.Bool.Decides.{nat_tests}
use Rattle.std.proofs.lemmas.Bool.{le-leb, lt-leb, leb-true, eq-eqb, and_parts}
use Rattle.std.proofs.lemmas.Nat.{div_below}
use Rattle.std.proofs.Math.Nat.{pow-suc}
use Rattle.std.proofs.lemmas.Fmt.{decimal_by_steps, length-decimal-le}
use Rattle.std.proofs.lemmas.List.Sums.{fold-append}
use Rattle.model_jobs.specs.JobFiles.{are_same, is_between, with_decimal, decimal_value, number_in, hex_value, with_hex, address_in, byte_from, bytes_from, bytes_in, byte_in}
use Rattle.model_jobs.specs.Texts.{hex_digit, hex_from, address_text, byte_text, bytes_text}

-- bytes are the same as themselves
pub same_bytes : (bytes : List ℕ) → are_same bytes bytes ≡ true
same_bytes [] = refl
same_bytes (b ∷ bs) = rw (eq-eqb b b refl, same_bytes bs) refl

-- every byte is from `least` to `most`
abbrev pub AreWithin : ℕ → ℕ → List ℕ → Type 0
AreWithin least most [] = Unit {0}
AreWithin least most (b ∷ bs) = (least ≤ b) × (b ≤ most) × AreWithin least most bs

-- two lists in a range, one after the other
pub within_append : (least most : ℕ) (xs ys : List ℕ) → AreWithin least most xs → AreWithin least most ys → AreWithin least most (xs ++ ys)
within_append least most [] ys left right = right
within_append least most (x ∷ xs) ys left right = (left.0, left.1, within_append least most xs ys left.2 right)

-- the test of a range tells it
pub between_by_test : (least most n : ℕ) → is_between least most n ≡ true → (least ≤ n) × (n ≤ most)
between_by_test least most n passes = let parts = and_parts (nat_le least n) (nat_le n most) passes in (leb-true least n parts.0, leb-true n most parts.1)

-- the test of each byte tells it
pub within_by_test : (least most : ℕ) (bytes : List ℕ) → list_all (is_between least most) bytes ≡ true → AreWithin least most bytes
within_by_test least most [] passes = tt
within_by_test least most (b ∷ bs) passes = grind (arith, nat_tests, and_parts, between_by_test, within_by_test least most bs)

-- decimal digits give their number back
pub value_of_decimal : (n : ℕ) → n < 2 ^ 64 → decimal_value (decimal n) ≡ n
value_of_decimal = decimal_by_steps (λ n digits. fold with_decimal 0 digits ≡ n) (λ n small. omega arith)
    (λ n digits large so_far. rw (fold-append with_decimal 0 digits ((48 + n % 10) ∷ []), so_far) (omega arith))

-- a decimal field is read as its number
pub number_back : (least most n : ℕ) → n < 2 ^ 64 → least ≤ n → n ≤ most → number_in least most (decimal n) ≡ Ok n
number_back least most n small low high = grind (arith, nat_tests, value_of_decimal n small, same_bytes (decimal n), le-leb least n low, le-leb n most high)

-- the digits of a number are printable
pub decimal_within : (n : ℕ) → n < 2 ^ 64 → AreWithin 33 126 (decimal n) × (1 ≤ length (decimal n))
decimal_within = decimal_by_steps (λ n digits. AreWithin 33 126 digits × (1 ≤ length digits))
    (λ n small. ((omega arith, omega arith, tt), omega arith))
    (λ n digits large so_far. (within_append 33 126 digits ((48 + n % 10) ∷ []) so_far.0 (omega arith, omega arith, tt), grind (arith, common_steps, so_far.1)))

-- a number of 64 bits has at most 20 digits
pub decimal_short : (n : ℕ) → n < 2 ^ 64 → length (decimal n) ≤ 20
decimal_short n small = length-decimal-le 20 n (omega arith) (omega arith) small

-- a hexadecimal digit is printable
pub digit_within : (n : ℕ) → n < 16 → (48 ≤ hex_digit n) × (hex_digit n ≤ 102)
digit_within n small = grind (arith, nat_tests)

-- a hexadecimal digit gives its value back
pub value_of_digit : (n : ℕ) → n < 16 → hex_value (hex_digit n) ≡ Some n
value_of_digit n small =
    grind (arith, nat_tests, le-leb 48 (48 + n), le-leb (48 + n) 57, le-leb 48 (87 + n), lt-leb (87 + n) 57, le-leb 97 (87 + n), le-leb (87 + n) 102)

-- a number with one more hexadecimal digit
pub with_digit : (n d : ℕ) → d < 16 → with_hex n (hex_digit d) ≡ 16 * n + d
with_digit n d small = grind (arith, nat_tests, le-leb (suc (48 + d)) 97, lt-leb (suc (87 + d)) 97)

-- hexadecimal digits give their number back
pub value_of_hex : (more n : ℕ) → n < 16 ^ suc more → fold with_hex 0 (hex_from more n) ≡ n
value_of_hex zero n small = rw (with_digit 0 (n % 16) (omega arith)) (omega arith)
value_of_hex (suc more) n small = grind (arith, nat_tests, with_digit, fold-append, value_of_hex more (n / 16), div_below, pow-suc)

-- an address is read as its number
pub address_back : (address : ℕ) → address ≤ 268435455 → address_in (address_text address) ≡ Ok address
address_back address most = grind (arith, nat_tests, value_of_hex 7 address, same_bytes (address_text address), le-leb address 268435455 most)

-- a number that fits fewer digits is spelt in as many
pub fewer_digits : (more n : ℕ) → n < 16 ^ suc more → hex_from (suc more) n ≡ hex_from more n
fewer_digits zero n small = grind (arith, nat_tests, le-leb (suc n) 16)
fewer_digits (suc more) n small = grind (arith, nat_tests, fewer_digits more (n / 16), div_below n 16 (16 ^ suc more), pow-suc 16 (suc more))

-- the digits of an address are printable, and at most so many and one
pub hex_within : (more n : ℕ) → AreWithin 33 126 (hex_from more n) × (1 ≤ length (hex_from more n)) × (length (hex_from more n) ≤ more + 1)
hex_within zero n = grind (arith, nat_tests, digit_within (n % 16))
hex_within (suc more) n = grind (arith, within_append, common_steps, hex_within more (n / 16))

-- two hexadecimal digits give their byte back
pub value_of_byte : (byte : ℕ) → byte ≤ 255 → byte_from (hex_digit (byte / 16)) (hex_digit (byte % 16)) ≡ Ok byte
value_of_byte byte most = grind (arith, nat_tests, value_of_digit (byte / 16), value_of_digit (byte % 16))

-- a byte is read as its number
pub byte_back : (byte : ℕ) → byte ≤ 255 → byte_in (byte_text byte) ≡ Ok byte
byte_back byte most = value_of_byte byte most

-- every byte of a list is below 256
abbrev pub AreBytes : List ℕ → Type 0
AreBytes bytes = AreWithin 0 255 bytes

-- digits give their bytes back
pub values_of_bytes : (bytes : List ℕ) → AreBytes bytes → bytes_from (bytes_text bytes) ≡ Ok bytes
values_of_bytes [] are = refl
values_of_bytes (b ∷ bs) are = rw (value_of_byte b are.1, values_of_bytes bs are.2) refl

-- bytes whose elements are at most so large
pub within_from_all : (most : ℕ) (bytes : List ℕ) → All (λ b. b ≤ most) bytes → AreWithin 0 most bytes
within_from_all most [] all = tt
within_from_all most (b ∷ bs) all = (omega arith, all 0 0 (omega arith), within_from_all most bs (λ k d h. all (suc k) d (omega (arith, h))))

-- bytes are read as their numbers
pub bytes_back : (bytes : List ℕ) → 1 ≤ length bytes → length bytes ≤ 32 → All (λ b. b ≤ 255) bytes → bytes_in 32 (bytes_text bytes) ≡ Ok bytes
bytes_back bytes some most all =
    rw (values_of_bytes bytes (within_from_all 255 bytes all), le-leb 1 (length bytes) some, le-leb (length bytes) 32 most) refl

-- the digits of a byte are printable
pub byte_within : (byte : ℕ) → byte ≤ 255 → AreWithin 33 126 (byte_text byte)
byte_within byte most = grind (arith, nat_tests, digit_within (byte / 16), digit_within (byte % 16))

-- the digits of bytes are printable, two of each
pub bytes_within : (bytes : List ℕ) → AreBytes bytes → AreWithin 33 126 (bytes_text bytes) × (length (bytes_text bytes) ≡ 2 * length bytes)
bytes_within [] are = (tt, refl)
bytes_within (b ∷ bs) are = let later = bytes_within bs are.2 in
    (within_append 33 126 (byte_text b) (bytes_text bs) (byte_within b are.1) later.0, omega (arith, later.1))
