-- Which seat is missing, and where calls first differ.
use Rattle.std.proofs.Common.{◌≡◌, ◌≢◌, ℕ, zero, suc, ◌+◌, ◌<◌, ◌≤◌, ◌⊎◌, Bool, true, false, not, ◌||◌, List, [], ◌∷◌, length, map, nat_lt, nat_le, find, slice_get, ap, refl, sym, ◌∙◌, arith, inl, inr, Option, Some, None}
use Rattle.std.proofs.lemmas.Bool.Decides.{nat_tests, eqb_tells, leb_tells}
use Rattle.std.specs.List.{list_any, range_with_len}
use Rattle.model_memory.proofs.FirstPlaces.{told_once, neither_below}
use Rattle.model_memory.specs.Seats.{commands_of, Call, DifferFirstAt, SeatDiffers, calls_of, has_seat, has_stranger, is_number, missing_or, missing_seat}
use Rattle.model_memory.specs.Plain.{Entry}
use Rattle.model_memory.specs.SeatLaws.{AreSeatedBelow, HasStranger, IsLeastUnseated, IsCountWithStranger}

-- where no number of a range passes the test, each fails it
none_passes : (test : ℕ → Bool) (a n k : ℕ) → find test (range_with_len a n) ≡ None → a ≤ k → k < a + n → test k ≡ false
none_passes test a zero k h low high = absurd (omega (arith, low, high))
none_passes test a (suc n) k h low high = grind (arith, nat_tests, none_passes test (a + 1) n k)

-- where nothing is missing there is no misplaced seat, and no stranger
none_missing : (count : ℕ) (strangers : Bool) (misplaced : Option ℕ) → missing_or count strangers misplaced ≡ None
    → (misplaced ≡ None) × (strangers ≡ false)
none_missing count true None h = cc
none_missing count false None h = (refl, refl)
none_missing count strangers (Some k) h = cc

-- a truth value is not false where its negation is
clash : (b : Bool) → not b ≡ false → b ≡ false → ⊥
clash true _ e = cc
clash false h _ = cc

-- a number that passes is this one
its_number : (k : ℕ) (x : Option ℕ) → not (is_number k x) ≡ false → x ≡ Some k
its_number k None h = cc
its_number k (Some number) h = grind (arith, nat_tests, clash (is_number k (Some number)) h)

-- where nothing is missing each place has its own seat, and there is no stranger
pub all_seated : (count : ℕ) (numbers : List ℕ) (entries : List Entry) → missing_seat count numbers entries ≡ None
    → ((k : ℕ) → k < count → slice_get numbers k ≡ Some k) × (has_stranger count numbers entries ≡ false)
all_seated count numbers entries h =
    let none = none_missing count (has_stranger count numbers entries) (find (λ k. not (has_seat numbers k)) (range_with_len 0 count)) h in
    ((λ k below. its_number k (slice_get numbers k) (none_passes (λ j. not (has_seat numbers j)) 0 count k none.0 (omega arith) (omega (arith, below)))), none.1)

-- the number that a range is found to have is the first of it that passes
range_found : (test : ℕ → Bool) (a n k : ℕ) → find test (range_with_len a n) ≡ Some k
    → (k < a + n) × (test k ≡ true) × ((j : ℕ) → a ≤ j → j < k → test j ≡ false)
range_found test a zero k h = cc
range_found test a (suc n) k h = grind (arith, nat_tests, range_found test (a + 1) n k)

-- a range is found to have the first number of it that passes
found_in_range : (test : ℕ → Bool) (a n k : ℕ) → a ≤ k → k < a + n → test k ≡ true → ((j : ℕ) → a ≤ j → j < k → test j ≡ false)
    → find test (range_with_len a n) ≡ Some k
found_in_range test a zero k low high pass before = absurd (omega (arith, low, high))
found_in_range test a (suc n) k low high pass before = grind (arith, nat_tests, found_in_range test (a + 1) n k)

-- a range has no number that passes where each fails
none_in_range : (test : ℕ → Bool) (a n : ℕ) → ((j : ℕ) → a ≤ j → j < a + n → test j ≡ false) → find test (range_with_len a n) ≡ None
none_in_range test a zero fails = refl
none_in_range test a (suc n) fails = grind (arith, nat_tests, none_in_range test (a + 1) n)

-- a seat with its own number passes, and no other does
seat_passes : (k : ℕ) (x : Option ℕ) → x ≡ Some k → not (is_number k x) ≡ false
seat_passes k None h = cc
seat_passes k (Some number) h = elim (eqb_tells number k) [ inl same ↦ rw same.0 refl | inr other ↦ absurd (other.1 (cc h)) ]

-- a seat without its own number does not pass
seat_fails : (k : ℕ) (x : Option ℕ) → x ≢ Some k → not (is_number k x) ≡ true
seat_fails k None h = refl
seat_fails k (Some number) h = elim (eqb_tells number k) [ inl same ↦ absurd (h (ap Some same.1)) | inr other ↦ rw other.0 refl ]

-- a seat that does not pass is another's
not_its_number : (k : ℕ) (x : Option ℕ) → not (is_number k x) ≡ true → x ≢ Some k
not_its_number k x h is = let passes = seat_passes k x is in let same : true ≡ false = sym h ∙ passes in cc same

-- an entry of a worker without a seat is found
stranger_found : (count : ℕ) (entries : List Entry) → list_any (λ entry. nat_le count entry.worker) entries ≡ true
    → (i : ℕ) × (entry : Entry) × (slice_get entries i ≡ Some entry) × (count ≤ entry.worker)
stranger_found count [] h = cc
stranger_found count (entry ∷ entries) h = elim (leb_tells count entry.worker) [
  | inl above ↦ (zero, entry, refl, above.1)
  | inr below ↦ let later : list_any (λ e. nat_le count e.worker) entries ≡ true = rw below.0 at h in
      let rest = stranger_found count entries later in (suc rest.0, rest.1, rest.2, rest.3)
]

-- where an entry is of a worker without a seat, one is found
stranger_any : (count i : ℕ) (entry : Entry) (entries : List Entry) → slice_get entries i ≡ Some entry → count ≤ entry.worker
    → list_any (λ entry. nat_le count entry.worker) entries ≡ true
stranger_any count i entry [] h above = cc
stranger_any count zero entry (e ∷ entries) h above = grind (arith, nat_tests)
stranger_any count (suc i) entry (e ∷ entries) h above = grind (arith, nat_tests, stranger_any count i entry entries h above)

-- the test of a stranger finds one
has_one : (count : ℕ) (numbers : List ℕ) (entries : List Entry) → has_stranger count numbers entries ≡ true → HasStranger count numbers entries
has_one count numbers entries h = grind (arith, nat_tests, stranger_found count entries)

-- where there is a stranger the test holds
one_told : (count : ℕ) (numbers : List ℕ) (entries : List Entry) → HasStranger count numbers entries → has_stranger count numbers entries ≡ true
one_told count numbers entries (inl more) = grind (arith, nat_tests)
one_told count numbers entries (inr entry) = rw (stranger_any count entry.0 entry.1 entries entry.2 entry.3) (either_true (nat_lt count (length numbers)))
  where
    either_true : (b : Bool) → (b || true) ≡ true
    either_true true = refl
    either_true false = refl

-- where a place is missing it is the least misplaced one, or the count where there is none and there are strangers
some_missing : (count : ℕ) (strangers : Bool) (misplaced : Option ℕ) (w : ℕ) → missing_or count strangers misplaced ≡ Some w
    → (misplaced ≡ Some w) ⊎ ((misplaced ≡ None) × (strangers ≡ true) × (w ≡ count))
some_missing count strangers (Some k) w h = inl h
some_missing count true None w h = inr (refl, refl, cc h)
some_missing count false None w h = cc

-- a place that is missing is the least without its own seat, or the count where there is a stranger
pub missing_least : (count : ℕ) (numbers : List ℕ) (entries : List Entry) (w : ℕ) → missing_seat count numbers entries ≡ Some w
    → IsLeastUnseated count numbers w ⊎ IsCountWithStranger count numbers entries w
missing_least count numbers entries w h =
    elim (some_missing count (has_stranger count numbers entries) (find (λ k. not (has_seat numbers k)) (range_with_len 0 count)) w h) [
      | inl found ↦ let first = range_found (λ k. not (has_seat numbers k)) 0 count w found in
          inl (omega (arith, first.0), λ k below. its_number k (slice_get numbers k) (first.2 k (omega arith) below), not_its_number w (slice_get numbers w) first.1)
      | inr none ↦ inr (
        none.2,
        λ k below. its_number k (slice_get numbers k) (none_passes (λ j. not (has_seat numbers j)) 0 count k none.0 (omega arith) (omega (arith, below))),
        has_one count numbers entries none.1,
      )
    ]

-- no seat is misplaced where each place has its own
none_misplaced : (count : ℕ) (numbers : List ℕ) → AreSeatedBelow numbers count → find (λ k. not (has_seat numbers k)) (range_with_len 0 count) ≡ None
none_misplaced count numbers seated = grind (arith, nat_tests, none_in_range, seat_passes)

-- the least place without its own seat is missing, and so is the count where there is a stranger
pub least_missing : (count : ℕ) (numbers : List ℕ) (entries : List Entry) (w : ℕ)
    → IsLeastUnseated count numbers w ⊎ IsCountWithStranger count numbers entries w → missing_seat count numbers entries ≡ Some w
least_missing count numbers entries w (inl least) =
    rw (found_in_range (λ k. not (has_seat numbers k)) 0 count w (omega arith) (omega (arith, least.0)) (seat_fails w (slice_get numbers w) least.2)
    (λ j low high. seat_passes j (slice_get numbers j) (least.1 j high))) refl
least_missing count numbers entries w (inr stranger) =
    rw (none_misplaced count numbers stranger.1, one_told count numbers entries stranger.2) (ap Some (sym stranger.0))

-- no seat is missing where each place has its own and there is no stranger
pub seated_none : (count : ℕ) (numbers : List ℕ) (entries : List Entry) → AreSeatedBelow numbers count → (HasStranger count numbers entries → ⊥)
    → missing_seat count numbers entries ≡ None
seated_none count numbers entries seated none = grind (arith, nat_tests, none_misplaced count numbers seated, has_one count numbers entries)

-- where the test of a stranger does not hold there is none
pub no_stranger : (count : ℕ) (numbers : List ℕ) (entries : List Entry) → has_stranger count numbers entries ≡ false → HasStranger count numbers entries → ⊥
no_stranger count numbers entries h some = let is = one_told count numbers entries some in let clash : true ≡ false = sym is ∙ h in cc clash

-- two lists of calls have one first difference
pub one_difference : (theirs ours : List Call) (i j : ℕ) → DifferFirstAt theirs ours i → DifferFirstAt theirs ours j → i ≡ j
one_difference theirs ours i j at_i at_j = grind (arith, nat_tests, neither_below i j)

-- seats differ from the entries first at one call of one seat
pub differ_once : (seats : List (List Call)) (entries : List Entry) (w i v j : ℕ) → SeatDiffers seats entries w i → SeatDiffers seats entries v j
    → (w ≡ v) × (i ≡ j)
differ_once seats entries = grind (arith, nat_tests, told_once (SeatDiffers seats entries))

-- the calls of a worker's entries have the worker's commands
pub calls_commands : (worker : ℕ) (entries : List Entry) → map (λ call. call.command) (calls_of worker entries) ≡ commands_of worker entries
calls_commands worker [] = refl
calls_commands worker (entry ∷ entries) = grind (arith, nat_tests, calls_commands worker entries)
