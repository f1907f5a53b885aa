-- Words and the sets that they hold.
use Rattle.std.proofs.Common.{◌≡◌, ◌≢◌, ℕ, zero, suc, ◌+◌, ◌-◌, ◌*◌, ◌/◌, ◌%◌, ◌^◌, ◌<◌, ◌≤◌, Bool, true, false, cond, not, ◌&&◌, ◌||◌, nat_eq, Option, None, Some, List, ◌∷◌, filter, length, replicate, slice_set, slice_index, ap, refl, sym, ◌∙◌, arith, inl, inr}
use Rattle.std.proofs.lemmas.List.{get_or-set_other, get_or-set_same, get_or_past}
use Rattle.std.proofs.lemmas.Bool.Decides.{eqb_tells, leb_tells}
use Rattle.std.specs.Int.{bit_at}
use Rattle.std.specs.List.{range_with_len, list_any}
use Rattle.std.specs.Ordering.{nat_cmp, eq_by_cmp}
use Rattle.std.specs.Cmp.{unsigned_tied, nat_cmp_total}
use Rattle.std.specs.FinMap.{nat_cmp-IsAntisymmetric}
use Rattle.std.specs.FinSet.{FinSet, contains, insert, remove, empty, contains-insert, contains-remove, contains-from_list_nat, contains-empty, same_set}
use Rattle.std.proofs.Common.{w64, take, drop, ◌++◌}
use Rattle.std.proofs.Math.Seq.{take-append_seam}
use Rattle.std.proofs.Math.Nat.{div-le_self}
use Rattle.std.proofs.lemmas.Nat.{shr-shr}
use Rattle.std.specs.Int.{trailing_zeros}
use Rattle.std.proofs.lemmas.Nat.Bits.{bit_at-zero, bit_at_above, bit_at-trailing_zeros}
use Rattle.mesh_bins.specs.Words.{bit, has, set_of, IsFirst, IsLeast, PutsBit, IsMarked}

-- no word has a bit past the end
has_past : (words : List ℕ) (n : ℕ) → 64 * length words ≤ n → has words n ≡ false
has_past words n past =
    ap (λ (w : ℕ). bit w (n % 64)) (get_or_past words (n / 64) 0 (omega (arith, past))) ∙ ap (λ (b : ℕ). nat_eq b 1) (bit_at-zero (n % 64))

-- whether a filtered list has a number, its first element first
kept : (p : ℕ → Bool) (a n : ℕ) (rest : List ℕ) → list_any (λ y. nat_eq y n) (filter p (a ∷ rest)) ≡ (p a && nat_eq a n || list_any (λ y. nat_eq y n) (filter p rest))
kept p a n rest = go (p a)
  where
    go : (b : Bool) → list_any (λ y. nat_eq y n) (cond b (a ∷ filter p rest) (filter p rest)) ≡ (b && nat_eq a n || list_any (λ y. nat_eq y n) (filter p rest))
    go true = refl
    go false = refl

and_false : (b : Bool) → (b && false) ≡ false
and_false true = refl
and_false false = refl

or_false : (b : Bool) → (b || false) ≡ b
or_false true = refl
or_false false = refl

and_true : (b : Bool) → (b && true) ≡ b
and_true true = refl
and_true false = refl

-- a number outside the range is not in its filtered list
out_of_range : (p : ℕ → Bool) (a k n : ℕ) → ((i : ℕ) → i < k → a + i ≢ n) → list_any (λ y. nat_eq y n) (filter p (range_with_len a k)) ≡ false
out_of_range p a zero n out = refl
out_of_range p a (suc k) n out = kept p a n (range_with_len (a + 1) k) ∙ elim (eqb_tells a n) [
  | inl same ↦ absurd (out 0 (omega arith) (let e = same.1 in omega (arith, e)))
  | inr other ↦ rw (other.0, and_false (p a)) (out_of_range p (a + 1) k n (λ i below e. out (suc i) (omega (arith, below)) (omega (arith, e))))
]

-- one in the range is in the list where it passes
in_range : (p : ℕ → Bool) (a k n : ℕ) → a ≤ n → n < a + k → list_any (λ y. nat_eq y n) (filter p (range_with_len a k)) ≡ p n
in_range p a zero n above below = absurd (omega (arith, above, below))
in_range p a (suc k) n above below = kept p a n (range_with_len (a + 1) k) ∙ elim (eqb_tells a n) [
  | inl same ↦ rw (same.0, and_true (p a), out_of_range p (a + 1) k n (λ i low e. let at = same.1 in omega (arith, at, e)))
      (or_false (p a) ∙ ap p same.1)
  | inr other ↦ rw (other.0, and_false (p a)) (in_range p (a + 1) k n (let apart = other.1 in omega (arith, apart, above)) (omega (arith, below)))
]

-- the set has a number where the words have its bit
pub contains-set_of : (words : List ℕ) (n : ℕ) → contains (set_of words) n ≡ has words n
unfolding set_of
contains-set_of words n = contains-from_list_nat (filter (has words) (range_with_len 0 (64 * length words))) n ∙ elim (leb_tells (64 * length words) n) [
  | inl past ↦ out_of_range (has words) 0 (64 * length words) n (λ i below e. let far = past.1 in omega (arith, far, below, e)) ∙ sym (has_past words n past.1)
  | inr within ↦ in_range (has words) 0 (64 * length words) n (omega arith) (let low = within.1 in omega (arith, low))
]

-- a number is tied with itself alone
pub tied_same : (v : ℕ) → eq_by_cmp nat_cmp v v ≡ true
tied_same v = unsigned_tied v v ∙ elim (eqb_tells v v) [ inl same ↦ same.0 | inr other ↦ absurd (other.1 refl) ]

pub tied_other : (v w : ℕ) → v ≢ w → eq_by_cmp nat_cmp v w ≡ false
tied_other v w ne = unsigned_tied v w ∙ elim (eqb_tells v w) [ inl same ↦ absurd (ne same.1) | inr other ↦ other.0 ]

-- a bit that is set is a number that is inserted
pub set_of-insert : (old new : List ℕ) (n : ℕ) → PutsBit old new n true → set_of new ≡ insert (set_of old) n
set_of-insert old new n puts = same_set nat_cmp_total nat_cmp-IsAntisymmetric _ _ (λ q. contains-set_of new q ∙ each q ∙ sym (contains-insert nat_cmp_total (set_of old) n q))
  where
    each : (q : ℕ) → has new q ≡ (eq_by_cmp nat_cmp q n || contains (set_of old) q)
    each q = elim (eqb_tells q n) [
      | inl same ↦ rw (same.1, tied_same n) puts.here
      | inr other ↦ rw (tied_other q n other.1) (puts.others q other.1 ∙ sym (contains-set_of old q))
    ]

-- a bit that is cleared is a number that is removed
pub set_of-remove : (old new : List ℕ) (n : ℕ) → PutsBit old new n false → set_of new ≡ remove (set_of old) n
set_of-remove old new n puts = same_set nat_cmp_total nat_cmp-IsAntisymmetric _ _ (λ q. contains-set_of new q ∙ each q ∙ sym (contains-remove nat_cmp_total (set_of old) n q))
  where
    each : (q : ℕ) → has new q ≡ (not (eq_by_cmp nat_cmp q n) && contains (set_of old) q)
    each q = elim (eqb_tells q n) [
      | inl same ↦ rw (same.1, tied_same n) puts.here
      | inr other ↦ rw (tied_other q n other.1) (puts.others q other.1 ∙ sym (contains-set_of old q))
    ]

zero_at : (k i : ℕ) → slice_index (replicate k 0) i ≡ 0
zero_at zero i = refl
zero_at (suc k) zero = refl
zero_at (suc k) (suc i) = zero_at k i

-- no bit of zero words is set
pub has_zeros : (k n : ℕ) → has (replicate k 0) n ≡ false
has_zeros k n = ap (λ (w : ℕ). bit w (n % 64)) (zero_at k (n / 64)) ∙ ap (λ (b : ℕ). nat_eq b 1) (bit_at-zero (n % 64))

-- zero words hold the empty set
pub set_of-zeros : (k : ℕ) → set_of (replicate k 0) ≡ empty
set_of-zeros k = same_set nat_cmp_total nat_cmp-IsAntisymmetric _ _ (λ q. contains-set_of (replicate k 0) q ∙ has_zeros k q ∙ sym (contains-empty nat_cmp q))

-- a list written over as long as it was
pub refilled : (len : ℕ) (old new : List ℕ) → len ≡ length old → length new ≡ length old → take len (new ++ drop (length new) old) ≡ new
refilled len old new is long = rw (is, ← long) (take-append_seam new (drop (length new) old))

-- words that were lent as a slice are those that were written there
pub written_is : (len : ℕ) (old lent new : List ℕ) → len ≡ length old → lent ≡ old → length new ≡ length lent → take len (new ++ drop (length new) old) ≡ new
written_is len old lent new is same long = refilled len old new is (long ∙ ap length same)

-- so a number was added to their set
pub inserted_is : (len n : ℕ) (old lent new : List ℕ) (set : FinSet nat_cmp) → len ≡ length old → lent ≡ old → length new ≡ length lent → PutsBit lent new n true
    → set_of old ≡ set → set_of (take len (new ++ drop (length new) old)) ≡ insert set n
inserted_is len n old lent new set is same long puts at =
    ap set_of (written_is len old lent new is same long) ∙ set_of-insert old new n (rw same at puts) ∙ ap (λ (s : FinSet nat_cmp). insert s n) at

-- or taken out of it
pub removed_is : (len n : ℕ) (old lent new : List ℕ) (set : FinSet nat_cmp) → len ≡ length old → lent ≡ old → length new ≡ length lent → PutsBit lent new n false
    → set_of old ≡ set → set_of (take len (new ++ drop (length new) old)) ≡ remove set n
removed_is len n old lent new set is same long puts at =
    ap set_of (written_is len old lent new is same long) ∙ set_of-remove old new n (rw same at puts) ∙ ap (λ (s : FinSet nat_cmp). remove s n) at

-- one word with one bit put
pub puts_in_word : (words : List ℕ) (n word : ℕ) (value : Bool) → n / 64 < length words → bit word (n % 64) ≡ value
    → ((k : ℕ) → k < 64 → k ≢ n % 64 → bit_at word k ≡ bit_at (slice_index words (n / 64)) k) → PutsBit words (slice_set words (n / 64) word) n value
puts_in_word words n word value inside here others = grind (arith, get_or-set_same, get_or-set_other)

-- the bits of a word from a place on
bit_shifted : (word from k : ℕ) → bit_at (word / 2 ^ from) k ≡ bit_at word (from + k)
bit_shifted word from k = ap (λ (n : ℕ). n % 2) (shr-shr word from k)

-- a word of which nothing is left after a shift has no bit there
pub least_none : (word from : ℕ) → word / 2 ^ from ≡ 0 → IsLeast (bit word) from 64 None
least_none word from none m above below = grind (arith, bit_shifted word from (m - from))

-- and else its least bit is as many places up as the rest has zeros below
pub least_some : (word from : ℕ) → 0 < word / 2 ^ from → word < 2 ^ 64 → from < 64 → IsLeast (bit word) from 64 (Some (from + trailing_zeros w64 (word / 2 ^ from)))
least_some word from some fits low =
    let rest = bit_at-trailing_zeros w64 (word / 2 ^ from) some (let less = div-le_self word (2 ^ from) in omega (arith, less, fits)) in
    let z : ℕ = trailing_zeros w64 (word / 2 ^ from) in
    let here : bit_at word (from + z) ≡ 1 = sym (bit_shifted word from z) ∙ rest.1 in
    record {
      above = omega arith;
      below = elim (leb_tells 64 (from + z)) [
        | inl past ↦ absurd (let none : bit_at word (from + z) ≡ 0 = bit_at_above word 64 (from + z) fits past.1 in omega (arith, here, none))
        | inr within ↦ within.1
      ];
      passes = ap (λ (b : ℕ). nat_eq b 1) here;
      first = λ m above below.
          let at : from + (m - from) ≡ m = omega (arith, above) in
          ap (λ (k : ℕ). bit word k) (sym at) ∙ ap (λ (b : ℕ). nat_eq b 1) (sym (bit_shifted word from (m - from)) ∙ rest.2 (m - from) (omega (arith, above, below)));
    }

-- no number from one on is a bit of the words, up to another
abbrev pub ArePassed : List ℕ → ℕ → ℕ → Type 0
ArePassed words from end = (m : ℕ) → from ≤ m → m < end → has words m ≡ false

has_in : (words : List ℕ) (j k m : ℕ) → k < 64 → m ≡ 64 * j + k → has words m ≡ bit (slice_index words j) k
has_in words j k m below is = grind arith

-- the least bit of a word is that of the words where all before it are passed
pub found_in_word : (words : List ℕ) (from end j low k n : ℕ) → ArePassed words from (64 * j + low) → from ≤ 64 * j + low → low < 64
    → IsFirst (bit (slice_index words j)) low 64 k → 64 * j + 64 ≤ end → n ≡ 64 * j + k → IsFirst (has words) from end n
found_in_word words from end j low k n passed start small least inside is = grind arith

-- a word without a bit from the place on is passed
pub passed_word : (words : List ℕ) (from j low : ℕ) → ArePassed words from (64 * j + low) → IsLeast (bit (slice_index words j)) low 64 None
    → ArePassed words from (64 * (j + 1))
passed_word words from j low passed none m high under = grind arith

-- words that are zero are passed
pub passed_zeros : (words : List ℕ) (from j n : ℕ) → ArePassed words from (64 * j) → ((i : ℕ) → j ≤ i → i < n → slice_index words i ≡ 0)
    → ArePassed words from (64 * n)
passed_zeros words from j n passed zeros m high under = grind arith

-- a word that the summary doesn't mark is zero
pub unmarked : (words summary : List ℕ) (j : ℕ) → IsMarked words summary → has summary j ≡ false → slice_index words j ≡ 0
unmarked words summary j marked none = grind arith

-- one that it marks has a bit
pub marked_some : (words summary : List ℕ) (j : ℕ) → IsMarked words summary → slice_index words j < 2 ^ 64 → has summary j ≡ true
    → IsLeast (bit (slice_index words j)) 0 64 None → ⊥
marked_some words summary j marked fits is none = grind (arith, bit_at-trailing_zeros w64 (slice_index words j))

-- every word but one is as it was
abbrev pub AreOthers : List ℕ → List ℕ → ℕ → Type 0
AreOthers words new at = (j : ℕ) → j ≢ at → slice_index new j ≡ slice_index words j

other_mark : (words new summary : List ℕ) (j at : ℕ) → IsMarked words summary → AreOthers words new at → j ≢ at → has summary j ≡ not (nat_eq (slice_index new j) 0)
other_mark words new summary j at marked others apart = marked j ∙ ap (λ (w : ℕ). not (nat_eq w 0)) (sym (others j apart))

-- the summary after a bit of a word is set
pub marked_insert : (words new summary after : List ℕ) (n : ℕ) → IsMarked words summary → AreOthers words new (n / 64)
    → has new n ≡ true → PutsBit summary after (n / 64) true → IsMarked new after
marked_insert words new summary after n marked rest some puts j = grind arith

-- after a word's last bit is cleared
pub marked_cleared : (words new summary after : List ℕ) (n : ℕ) → IsMarked words summary → AreOthers words new (n / 64)
    → slice_index new (n / 64) ≡ 0 → PutsBit summary after (n / 64) false → IsMarked new after
marked_cleared words new summary after n marked rest none puts j = grind arith

-- a word that has a bit after one was cleared had one
was_some : (words new : List ℕ) (n : ℕ) → PutsBit words new n false → slice_index new (n / 64) < 2 ^ 64 → slice_index new (n / 64) ≢ 0 → slice_index words (n / 64) ≢ 0
was_some words new n puts fits some none =
    let low = bit_at-trailing_zeros w64 (slice_index new (n / 64)) (omega (arith, some)) fits in
    let k : ℕ = trailing_zeros w64 (slice_index new (n / 64)) in
    let is : has new (64 * (n / 64) + k) ≡ true = has_in new (n / 64) k (64 * (n / 64) + k) low.0 refl ∙ ap (λ (b : ℕ). nat_eq b 1) low.1 in
    elim (eqb_tells (64 * (n / 64) + k) n) [
      | inl same ↦ let two : true ≡ false = sym is ∙ ap (has new) same.1 ∙ puts.here in cc two
      | inr other ↦ let two : true ≡ false = sym is ∙ puts.others (64 * (n / 64) + k) other.1 ∙ has_in words (n / 64) k (64 * (n / 64) + k) low.0 refl
          ∙ ap (λ (w : ℕ). bit w k) none ∙ ap (λ (b : ℕ). nat_eq b 1) (bit_at-zero k) in cc two
    ]

-- after a bit of a word is cleared that has others
pub marked_kept : (words new summary : List ℕ) (n : ℕ) → IsMarked words summary → AreOthers words new (n / 64) → PutsBit words new n false
    → slice_index new (n / 64) < 2 ^ 64 → slice_index new (n / 64) ≢ 0 → IsMarked new summary
marked_kept words new summary n marked rest puts fits some j = elim (eqb_tells j (n / 64)) [
  | inl same ↦ rw same.1 (marked (n / 64) ∙ elim (eqb_tells (slice_index words (n / 64)) 0) [
    | inl none ↦ absurd (was_some words new n puts fits some none.1)
    | inr old ↦ elim (eqb_tells (slice_index new (n / 64)) 0) [ inl none ↦ absurd (some none.1) | inr now ↦ ap not old.0 ∙ sym (ap not now.0) ]
  ])
  | inr other ↦ other_mark words new summary j (n / 64) marked rest other.1
]

-- the least number that a set has, where the words have it
pub least_contained : (words : List ℕ) (s : FinSet nat_cmp) (from end : ℕ) (r : Option ℕ) → set_of words ≡ s → IsLeast (has words) from end r
    → IsLeast (contains s) from end r
least_contained words s from end None is none = λ m above below. ap (λ (t : FinSet nat_cmp). contains t m) (sym is) ∙ contains-set_of words m ∙ none m above below
least_contained words s from end (Some n) is least = grind (arith, contains-set_of)

-- all below a number is passed before it
pub passed_start : (words : List ℕ) (from : ℕ) → ArePassed words from (64 * (from / 64) + from % 64)
passed_start words from m above below = absurd (omega (arith, above, below))

-- the least bit of the words past a word that has none, by the summary
pub found_by_summary : (words summary : List ℕ) (from marks end j next k n : ℕ) → IsMarked words summary → ArePassed words from (64 * j) → from ≤ 64 * j
    → IsFirst (has summary) j marks next → 64 * next + 64 ≤ end → IsFirst (bit (slice_index words next)) 0 64 k → n ≡ 64 * next + k → IsFirst (has words) from end n
found_by_summary words summary from marks end j next k n marked passed start least inside low is =
    let all : ArePassed words from (64 * next + 0) = (λ m h l. passed_zeros words from j next passed (λ i h l. unmarked words summary i marked (least.first i h l)) m h (omega (arith, l))) in
    found_in_word words from end next 0 k n all (omega (arith, start, least.above)) (omega arith) low inside is

-- nothing there where the summary has nothing
pub none_by_summary : (words summary : List ℕ) (from marks end j : ℕ) → IsMarked words summary → ArePassed words from (64 * j) → IsLeast (has summary) j marks None
    → end ≤ 64 * marks → IsLeast (has words) from end None
none_by_summary words summary from marks end j marked passed none few m above below =
    passed_zeros words from j marks passed (λ i h l. unmarked words summary i marked (none i h l)) m above (omega (arith, below, few))

-- a word that the summary marks is one of the words
pub marked_inside : (words summary : List ℕ) (j : ℕ) → IsMarked words summary → has summary j ≡ true → j < length words
marked_inside words summary j marked is = grind (arith, get_or_past)

-- zero words have no marks
pub marked_zeros : (k l : ℕ) → IsMarked (replicate k 0) (replicate l 0)
marked_zeros k l j = has_zeros l j ∙ sym (ap (λ (w : ℕ). not (nat_eq w 0)) (zero_at k j))
