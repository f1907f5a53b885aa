-- Fields of hexadecimal digits: a number, and bytes of two digits each.
use Rattle.std.proofs.Common.{◌≡◌, ◌≢◌, ℕ, zero, suc, ◌+◌, ◌*◌, ◌/◌, ◌%◌, ◌^◌, ◌<◌, ◌≤◌, true, false, ◌&&◌, if◌then◌else◌, nat_le, Bool, List, [], ◌∷◌, ◌++◌, Option, Some, None, Result, Ok, Err, length, get_or, drop, ap, refl, sym, ◌∙◌, arith, inl, inr, append-nil, append_assoc, length-append}
use Rattle.std.specs.Prelude.{◌⊎◌, is_err, is_some, nat_lt, not}
use Rattle.std.specs.List.{fold, list_all}
use Rattle.std.proofs.lemmas.Bool.Decides.{leb_tells}
use Rattle.std.proofs.lemmas.Bool.{le-leb, lt-leb, and_parts, leb-true, true≢false}
use Rattle.std.proofs.lemmas.Nat.{div_below}
use Rattle.std.proofs.lemmas.List.Folds.{list_all-append}
use Rattle.std.proofs.Math.Nat.{pow-suc}
use Rattle.model_jobs.proofs.Fields.{fewer_digits, value_of_digit}
use Rattle.model_jobs.proofs.FieldReadings.{digit_told, same_by_test}
use Rattle.model_jobs.specs.JobFiles.{are_same, hex_value, with_hex, hex_number, byte_from, bytes_from, bytes_in, is_between, is_empty}
use Rattle.model_jobs.specs.Texts.{hex_digit, hex_from}
use Rattle.model_words.specs.Words.{◌>>=◌, or_refuse, refuse_if}
use Rattle.model_words.specs.declared.faults.FaultKind.{FaultKind}
use Rattle.model_words.specs.declared.faults.FaultKind.TheVariants.{Number, Hex}
use Rattle.text_fields.specs.Fields.{hex_in, is_hex_digit}
use Rattle.text_fields.proofs.Digits.{grows}
use Rattle.text_fields.proofs.Sames.{fails, same_bytes}

-- a number with one more hexadecimal digit
with_digit : (n d : ℕ) → d < 16 → with_hex n (hex_digit d) ≡ 16 * n + d
with_digit n d small = grind arith

-- the spelling of a value is a digit
digit_is : (d : ℕ) → d < 16 → is_hex_digit (hex_digit d) ≡ true
digit_is d small = ap is_some (value_of_digit d small)

-- which branch gave the value
if_tells : {A : Type 0} (b : Bool) (x y z : A) → (if b then x else y) ≡ z → ((b ≡ true) × (x ≡ z)) ⊎ ((b ≡ false) × (y ≡ z))
if_tells true x y z h = inl (refl, h)
if_tells false x y z h = inr (refl, h)

-- the value of an option that has one
value_of : (o : Option ℕ) → is_some o ≡ true → (v : ℕ) × (o ≡ Some v)
value_of None h = absurd (true≢false (sym h))
value_of (Some v) h = (v, refl)

-- every digit of a number is one
all_digits : (more n : ℕ) → list_all is_hex_digit (hex_from more n) ≡ true
all_digits zero n = rw (digit_is (n % 16) (omega arith)) refl
all_digits (suc more) n = grind (arith, list_all-append, all_digits more (n / 16))

-- a digit is spelt as it is
one_digit : (more d : ℕ) → d < 16 → hex_from more d ≡ hex_digit d ∷ []
one_digit zero d small = let same : d % 16 ≡ d = omega (arith, small) in ap (λ (n : ℕ). hex_digit n ∷ []) same
one_digit (suc more) d small = rw (le-leb (suc d) 16 small) refl

-- one more digit of a number above 0 is spelt behind its digits
one_more_digit : (more n d : ℕ) → 1 ≤ n → d < 16 → 16 * n + d < 16 ^ suc more → hex_from more (16 * n + d) ≡ hex_from more n ++ hex_digit d ∷ []
one_more_digit zero n d some below small = absurd (omega (arith, some, small))
one_more_digit (suc more) n d some below small = grind (arith, fewer_digits)

-- digits behind a number above 0 are spelt behind its digits
digits_behind : (more n : ℕ) (digits : List ℕ) → 1 ≤ n → list_all is_hex_digit digits ≡ true → fold with_hex n digits < 16 ^ suc more
    → hex_from more (fold with_hex n digits) ≡ hex_from more n ++ digits
digits_behind more n [] some are small = sym (append-nil (hex_from more n))
digits_behind more n (b ∷ bs) some are small =
    let parts = and_parts (is_hex_digit b) (list_all is_hex_digit bs) are in
    let value = value_of (hex_value b) parts.0 in let told = digit_told b value.0 value.1 in
    let step : with_hex n b ≡ 16 * n + value.0 = ap (λ (c : ℕ). with_hex n c) told.0 ∙ with_digit n value.0 told.1 in
    let large : 16 * n + value.0 ≤ fold with_hex n (b ∷ bs) = omega (arith, grows with_hex (λ m d. omega arith) (with_hex n b) bs, step) in
    let later = digits_behind more (with_hex n b) bs (omega (arith, step, some)) parts.1 small in
    let one : hex_from more (with_hex n b) ≡ hex_from more n ++ b ∷ [] =
    ap (hex_from more) step ∙ one_more_digit more n value.0 some told.1 (omega (arith, large, small)) ∙ ap (λ (c : ℕ). hex_from more n ++ c ∷ []) (sym told.0) in
    later ∙ ap (λ (front : List ℕ). front ++ bs) one ∙ append_assoc (hex_from more n) (b ∷ []) bs

-- what isn't the spelling of a number in the range is refused
refused : (more most : ℕ) (field : List ℕ) → (field ≡ hex_from more (hex_number field) → hex_number field ≤ most → ⊥) → hex_in more most field ≡ Err Number
refused more most field other =
    rw (fails (are_same (hex_from more (hex_number field)) field && nat_le (hex_number field) most) (λ passes.
    let parts = and_parts (are_same (hex_from more (hex_number field)) field) (nat_le (hex_number field) most) passes in
    other (sym (same_by_test (hex_from more (hex_number field)) field parts.0)) (leb-true (hex_number field) most parts.1))) refl

pub not_digits : (more most : ℕ) (field : List ℕ) → list_all is_hex_digit field ≡ false → hex_in more most field ≡ Err Number
not_digits more most field other = refused more most field (λ is small.
    true≢false (sym (all_digits more (hex_number field)) ∙ ap (list_all is_hex_digit) (sym is) ∙ other))

pub too_great : (more most : ℕ) (field : List ℕ) → most < hex_number field → hex_in more most field ≡ Err Number
too_great more most field large = refused more most field (λ is small. omega (arith, large, small))

-- a spelling has a digit
some_digit : (more n : ℕ) → 1 ≤ length (hex_from more n)
some_digit zero n = omega arith
some_digit (suc more) n = elim (leb_tells (suc n) 16) [
  | inl low ↦ rw low.0 (omega arith)
  | inr high ↦ rw high.0 (omega (arith, length-append (hex_from more (n / 16)) (hex_digit (n % 16) ∷ [])))
]

pub no_digit : (more most : ℕ) (field : List ℕ) → length field ≡ 0 → hex_in more most field ≡ Err Number
no_digit more most field none = refused more most field (λ is small. omega (arith, none, some_digit more (hex_number field), ap (λ (f : List ℕ). length f) is))

-- the digit of a value above 0 isn't that of 0, and the other way round
other_digit : (d : ℕ) → 1 ≤ d → hex_digit d ≢ 48
other_digit d some zero_digit = grind arith

above_zero : (d : ℕ) → hex_digit d ≢ 48 → 1 ≤ d
above_zero zero other = absurd (other refl)
above_zero (suc d) other = omega arith

-- the first byte of two lists of which the first has one
front_first : (xs ys : List ℕ) → 1 ≤ length xs → get_or (xs ++ ys) 0 0 ≡ get_or xs 0 0
front_first [] ys some = absurd (omega (arith, some))
front_first (x ∷ xs) ys some = refl

-- a number above 0 is spelt without a leading zero
first_digit : (more n : ℕ) → 1 ≤ n → n < 16 ^ suc more → (get_or (hex_from more n) 0 0 ≢ 48) × (1 ≤ length (hex_from more n))
first_digit zero n some small = (other_digit (n % 16) (omega (arith, some, small)), omega arith)
first_digit (suc more) n some small = elim (leb_tells (suc n) 16) [
  | inl low ↦ rw low.0 (other_digit n some, omega arith)
  | inr high ↦
      let front = first_digit more (n / 16) (omega (arith, high.1)) (div_below n 16 (16 ^ suc more) (omega arith) (omega (arith, small, pow-suc 16 (suc more)))) in
      rw high.0 (
        rw (front_first (hex_from more (n / 16)) (hex_digit (n % 16) ∷ []) front.1) front.0,
        omega (arith, front.1, length-append (hex_from more (n / 16)) (hex_digit (n % 16) ∷ [])),
      )
]

no_leading_zero : (more n : ℕ) → n < 16 ^ suc more → 2 ≤ length (hex_from more n) → get_or (hex_from more n) 0 0 ≡ 48 → ⊥
no_leading_zero more zero small long zero_first = omega (arith, long, ap (λ (f : List ℕ). length f) (one_digit more 0 (omega arith)))
no_leading_zero more (suc n) small long zero_first = (first_digit more (suc n) (omega arith) small).0 zero_first

pub leading_zero : (more most : ℕ) (field : List ℕ) → most < 16 ^ suc more → 2 ≤ length field → get_or field 0 0 ≡ 48 → hex_in more most field ≡ Err Number
leading_zero more most field fits long zero_first = grind (arith, refused, no_leading_zero)

-- digits behind a first digit that isn't 0
spelt_behind : (more d : ℕ) (digits : List ℕ) → 1 ≤ d → d < 16 → list_all is_hex_digit digits ≡ true → fold with_hex d digits < 16 ^ suc more
    → hex_from more (fold with_hex d digits) ≡ hex_digit d ∷ digits
spelt_behind more d digits some below are small = digits_behind _ _ _ some are small ∙ ap (λ (front : List ℕ). front ++ digits) (one_digit _ _ below)

-- the spelling of its number is read as it
spelt_so : (more most : ℕ) (field : List ℕ) → hex_from more (hex_number field) ≡ field → hex_number field ≤ most → hex_in more most field ≡ Ok (hex_number field)
spelt_so more most field spelt small =
    rw ((ap (λ (f : List ℕ). are_same f field) spelt ∙ same_bytes field), le-leb (hex_number field) most small) refl

-- a field of digits without a leading zero is read as its number
pub hex_spelt : (more most : ℕ) (field : List ℕ) → most < 16 ^ suc more → 1 ≤ length field → ((2 ≤ length field) × (get_or field 0 0 ≡ 48) → ⊥)
    → list_all is_hex_digit field ≡ true → hex_number field ≤ most → hex_in more most field ≡ Ok (hex_number field)
hex_spelt more most [] fits some first are small = absurd (omega (arith, some))
hex_spelt more most (b ∷ []) fits some first are small = grind (arith, one_digit)
hex_spelt more most (b ∷ c ∷ cs) fits some first are small =
    let parts = and_parts (is_hex_digit b) (list_all is_hex_digit (c ∷ cs)) are in
    let value = value_of (hex_value b) parts.0 in let told = digit_told b value.0 value.1 in
    let above : 1 ≤ value.0 = above_zero value.0 (λ e. first (omega arith, told.0 ∙ e)) in
    let front : with_hex 0 b ≡ value.0 = ap (λ (c : ℕ). with_hex 0 c) told.0 ∙ with_digit 0 value.0 told.1 ∙ omega arith in
    let number : hex_number (b ∷ c ∷ cs) ≡ fold with_hex value.0 (c ∷ cs) = ap (λ (n : ℕ). fold with_hex n (c ∷ cs)) front in
    let spelt = spelt_behind more value.0 (c ∷ cs) above told.1 parts.1 (omega (arith, number, small, fits)) in
    spelt_so more most (b ∷ c ∷ cs) (ap (hex_from more) number ∙ spelt ∙ ap (λ (d : ℕ). d ∷ c ∷ cs) (sym told.0)) small

-- the one kind of fault that two digits can have, and bytes of digits
pair_kind : (a b : Option ℕ) (kind : FaultKind) → (or_refuse Hex a >>= λ h. or_refuse Hex b >>= λ l. Ok (16 * h + l)) ≡ Err kind → kind ≡ Hex
pair_kind None b kind h = cc h
pair_kind (Some x) None kind h = cc h
pair_kind (Some x) (Some y) kind h = absurd (cc h)

later_kind : (first : Result ℕ FaultKind) (later : Result (List ℕ) FaultKind) (kind : FaultKind) → ((k : FaultKind) → first ≡ Err k → k ≡ Hex)
    → ((k : FaultKind) → later ≡ Err k → k ≡ Hex) → (first >>= λ byte. later >>= λ bytes. Ok (byte ∷ bytes)) ≡ Err kind → kind ≡ Hex
later_kind (Err e) later kind p q h = let is : e ≡ kind = cc h in sym is ∙ p e refl
later_kind (Ok byte) (Err e) kind p q h = let is : e ≡ kind = cc h in sym is ∙ q e refl
later_kind (Ok byte) (Ok bytes) kind p q h = absurd (cc h)

only_hex : (digits : List ℕ) (kind : FaultKind) → bytes_from digits ≡ Err kind → kind ≡ Hex
only_hex [] kind h = absurd (cc h)
only_hex (high ∷ []) kind h = cc h
only_hex (high ∷ low ∷ digits) kind h =
    later_kind (byte_from high low) (bytes_from digits) kind (λ k e. pair_kind (hex_value high) (hex_value low) k e) (λ k e. only_hex digits k e) h

-- bytes behind bytes that were read
abbrev pub behind_bytes : List ℕ → Result (List ℕ) FaultKind → Result (List ℕ) FaultKind
behind_bytes bytes read = read >>= λ later. Ok (bytes ++ later)

-- one more byte in front of the later ones
one_byte : (bytes : List ℕ) (byte : ℕ) (read : Result (List ℕ) FaultKind)
    → behind_bytes bytes (read >>= λ later. Ok (byte ∷ later)) ≡ behind_bytes (bytes ++ byte ∷ []) read
one_byte bytes byte (Err e) = refl
one_byte bytes byte (Ok later) = ap Ok (sym (append_assoc bytes (byte ∷ []) later))

-- one more byte of a field was read
pub byte_read : (field bytes rest : List ℕ) (byte : ℕ) → bytes_from field ≡ behind_bytes bytes (bytes_from rest) → 2 ≤ length rest
    → byte_from (get_or rest 0 0) (get_or rest 1 0) ≡ Ok byte → bytes_from field ≡ behind_bytes (bytes ++ byte ∷ []) (bytes_from (drop 2 rest))
byte_read field bytes rest byte so_far some is = grind (arith, one_byte)

-- more bytes than `most` were read
many_bytes : (most : ℕ) (field bytes : List ℕ) (read : Result (List ℕ) FaultKind) → bytes_from field ≡ behind_bytes bytes read → most < length bytes
    → ((k : FaultKind) → read ≡ Err k → k ≡ Hex) → bytes_in most field ≡ Err Hex
many_bytes most field bytes (Err k) so_far many only = rw (so_far, only k refl) refl
many_bytes most field bytes (Ok later) so_far many only =
    let long : most < length (bytes ++ later) = omega (arith, length-append bytes later, many) in
    rw (so_far, le-leb 1 (length (bytes ++ later)) (omega (arith, long)), lt-leb (length (bytes ++ later)) most (omega (arith, long))) refl

pub too_many_bytes : (most : ℕ) (field bytes rest : List ℕ) (byte : ℕ) → bytes_from field ≡ behind_bytes bytes (bytes_from rest) → 2 ≤ length rest
    → byte_from (get_or rest 0 0) (get_or rest 1 0) ≡ Ok byte → most ≤ length bytes → bytes_in most field ≡ Err Hex
too_many_bytes most field bytes rest byte so_far some is full =
    many_bytes most field _ _ (byte_read field _ _ _ so_far some is) (omega (arith, length-append bytes (byte ∷ []), full)) (only_hex (drop 2 rest))

-- all bytes of a field were read
pub bytes_read : (most : ℕ) (field bytes : List ℕ) → bytes_from field ≡ behind_bytes bytes (bytes_from []) → 1 ≤ length bytes → length bytes ≤ most
    → bytes_in most field ≡ Ok bytes
bytes_read most field bytes so_far some few = rw (so_far ∙ ap Ok (append-nil bytes), le-leb 1 (length bytes) some, le-leb (length bytes) most few) refl

-- the front of a field was read as so many bytes, at most `most`
pub record HasFront (field rest : List ℕ) (count most : ℕ) : Type 0 where
  pub bytes : List ℕ
  pub read : bytes_from field ≡ behind_bytes bytes (bytes_from rest)
  pub long : length bytes ≡ count
  pub few : count ≤ most

none_behind : (read : Result (List ℕ) FaultKind) → read ≡ behind_bytes [] read
none_behind (Err e) = refl
none_behind (Ok bytes) = refl

-- nothing was read yet
pub no_front : (field : List ℕ) (most : ℕ) → HasFront field field 0 most
no_front field most = record { bytes = []; read = none_behind (bytes_from field); long = refl; few = omega arith }

-- one more byte was read
pub longer_front : (field rest : List ℕ) (count most byte : ℕ) → HasFront field rest count most → 2 ≤ length rest
    → byte_from (get_or rest 0 0) (get_or rest 1 0) ≡ Ok byte → count < most → HasFront field (drop 2 rest) (count + 1) most
longer_front field rest count most byte front some is below = record {
  bytes = front.bytes ++ byte ∷ [];
  read = byte_read field front.bytes rest byte front.read some is;
  long = omega (arith, length-append front.bytes (byte ∷ []), front.long);
  few = omega (arith, below);
}

-- two bytes that aren't digits come next
pub front_of_no_digits : (field rest : List ℕ) (count most : ℕ) (kind : FaultKind) → HasFront field rest count most → 2 ≤ length rest
    → byte_from (get_or rest 0 0) (get_or rest 1 0) ≡ Err kind → is_err (bytes_in most field) ≡ true
front_of_no_digits field [] count most kind front some is = absurd (omega (arith, some))
front_of_no_digits field (high ∷ []) count most kind front some is = absurd (omega (arith, some))
front_of_no_digits field (high ∷ low ∷ digits) count most kind front some is =
    let none : bytes_from (high ∷ low ∷ digits) ≡ Err kind = ap (λ (byte : Result ℕ FaultKind). byte >>= λ b. bytes_from digits >>= λ bytes. Ok (b ∷ bytes)) is in
    let all : bytes_from field ≡ Err kind = front.read ∙ ap (behind_bytes front.bytes) none in
    ap (λ (read : Result (List ℕ) FaultKind). is_err (read >>= λ bytes. refuse_if Hex (not (is_between 1 most (length bytes))) >>= λ _. Ok bytes)) all

-- one byte too many comes next
pub front_of_too_many : (field rest : List ℕ) (count most byte : ℕ) → HasFront field rest count most → 2 ≤ length rest
    → byte_from (get_or rest 0 0) (get_or rest 1 0) ≡ Ok byte → most ≤ count → is_err (bytes_in most field) ≡ true
front_of_too_many field rest count most byte front some is full =
    ap (λ (read : Result (List ℕ) FaultKind). is_err read)
    (too_many_bytes most field front.bytes rest byte front.read some is (omega (arith, front.long, full)))

no_bytes : (bytes : List ℕ) → length bytes ≡ 0 → bytes ≡ []
no_bytes [] none = refl
no_bytes (b ∷ bytes) none = absurd (omega (arith, none))

-- the whole field was read, or all but one digit
pub front_of_all : (field rest : List ℕ) (count most : ℕ) → HasFront field rest count most → length rest < 2
    → (is_empty rest && nat_lt 0 count) ≡ not (is_err (bytes_in most field))
front_of_all field [] zero most front short =
    let none = no_bytes front.bytes front.long in
    let all : bytes_from field ≡ Ok [] = front.read ∙ ap (λ (bytes : List ℕ). behind_bytes bytes (Ok [])) none in
    ap (λ (read : Result (List ℕ) FaultKind). not (is_err (read >>= λ bytes. refuse_if Hex (not (is_between 1 most (length bytes))) >>= λ _. Ok bytes))) (sym all)
front_of_all field [] (suc count) most front short =
    rw (le-leb 1 (suc count) (omega arith)) (ap (λ (read : Result (List ℕ) FaultKind). not (is_err read)) (sym (bytes_read most field front.bytes front.read (omega (arith, front.long)) (omega (arith, front.long, front.few)))))
front_of_all field (high ∷ []) count most front short =
    ap (λ (read : Result (List ℕ) FaultKind). not (is_err (read >>= λ bytes. refuse_if Hex (not (is_between 1 most (length bytes))) >>= λ _. Ok bytes))) (sym front.read)
front_of_all field (high ∷ low ∷ digits) count most front short = absurd (omega (arith, short))
