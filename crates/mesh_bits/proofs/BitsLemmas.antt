-- The set that four words hold.
use Rattle.std.proofs.Common.{◌≡◌, ◌≢◌, ℕ, zero, suc, ◌+◌, ◌-◌, ◌*◌, ◌/◌, ◌%◌, ◌^◌, ◌<◌, ◌≤◌, Bool, true, false, cond, not, nat_eq, Option, None, Some, IfSome, take, w64, bit_and, List, [], ◌∷◌, map, length, replicate, slice_set, slice_index, count_by, get_or, set, ap, refl, sym, ◌∙◌, arith, inl, inr, add-zero, add_assoc}
use Rattle.std.proofs.Math.Nat.{pow-suc}
use Rattle.std.proofs.lemmas.List.Sums.{sum_by-cons}
use Rattle.std.proofs.lemmas.List.{get_or-set_other, get_or-set_same, get_or-replicate}
use Rattle.std.proofs.Math.ListN.{length-set, length-replicate}
use Rattle.std.proofs.lemmas.Bool.Decides.{eqb_tells}
use Rattle.std.specs.Int.{bit_at, bit_not}
use Rattle.std.specs.Int.Bits.{and_self, and_zero_r}
use Rattle.std.proofs.lemmas.Nat.{and_mod, and_shr}
use lib.Count.{ones, ones_in, ones_step}
use Rattle.std.specs.List.{range_with_len}
use Rattle.std.proofs.lemmas.List.FromFn.{length-map-range_with_len, get_or-map-range_with_len, fill_by_all, sum_by-map-range_with_len_more, take-map-range_with_len}
use Rattle.std.proofs.lemmas.Nat.Bits.{bit_at-zero, bit_at-suc, bit_at-lt, bit_at_lowest, bit_at_not}
use Rattle.mesh_bits.specs.Bits.{has, members, is_member, member_count, clear_count, low_ones, PutsBit, IsBitmap}

-- the set is as long as its width
pub length_members : (words : List ℕ) (width : ℕ) → length (members words width) ≡ width
length_members words width = length-map-range_with_len (has words) 0 width

-- a number below the length of the set is below its width
pub below_width : (words : List ℕ) (width i : ℕ) (set : List Bool) → members words width ≡ set → i < length set → i < width
below_width words width i set e h = let same : length set ≡ width = sym (ap length e) ∙ length_members words width in omega (arith, same, h)

-- a number below the width is in the set where its bit is set
pub member_has : (words : List ℕ) (width i : ℕ) → i < width → is_member (members words width) i ≡ has words i
member_has words width i h = get_or-map-range_with_len (has words) 0 width i i false h (omega arith)

-- a list with one element set is the one with the new bits
pub members_put : (old new : List ℕ) (width i : ℕ) (bit : Bool) → i < width → width ≤ 256 → PutsBit old new i bit
    → members new width ≡ slice_set (members old width) i bit
members_put old new width i bit h most puts =
    sym (fill_by_all (has new) (set (members old width) i bit) width false (length-set (members old width) i bit ∙ length_members old width)
    each)
  where
    len : i < length (members old width)
    len = rw (length_members old width) h

    each : (k : ℕ) → k < width → get_or (set (members old width) i bit) k false ≡ has new k
    each k below = elim (eqb_tells k i) [
      | inl same ↦ rw same.1 (get_or-set_same (members old width) i bit false len ∙ sym puts.here)
      | inr apart ↦ get_or-set_other (members old width) i k bit false apart.1 ∙ member_has _ _ _ below ∙ sym (puts.others k (omega arith) apart.1)
    ]

-- the bits from the width on stay clear where one below it is put
pub clear_put : (old new : List ℕ) (width i : ℕ) (bit : Bool) → i < width → IsBitmap old width → PutsBit old new i bit → IsBitmap new width
clear_put old new width i bit h was puts = grind arith

-- a bit of a set is read
pub ruleset bit_read = (below_width, member_has)

-- one is put
pub ruleset bit_put = (below_width, members_put, clear_put)

-- one word with one bit put
pub puts_in_word : (words : List ℕ) (i word : ℕ) (bit : Bool) → i / 64 < length words → nat_eq (bit_at word (i % 64)) 1 ≡ bit
    → ((k : ℕ) → k < 64 → k ≢ i % 64 → bit_at word k ≡ bit_at (slice_index words (i / 64)) k) → PutsBit words (slice_set words (i / 64) word) i bit
puts_in_word words i word bit inside here others = grind (arith, get_or-set_same, get_or-set_other)

zero_word : (k : ℕ) → slice_index (0 ∷ 0 ∷ 0 ∷ 0 ∷ []) k ≡ 0
zero_word zero = refl
zero_word (suc zero) = refl
zero_word (suc (suc zero)) = refl
zero_word (suc (suc (suc zero))) = refl
zero_word (suc (suc (suc (suc k)))) = refl

-- no bit of zero words is set
pub has_zeros : (i : ℕ) → has (0 ∷ 0 ∷ 0 ∷ 0 ∷ []) i ≡ false
has_zeros i = rw (zero_word (i / 64), bit_at-zero (i % 64)) refl

-- zero words hold the empty set
pub members_zeros : (width : ℕ) → members (0 ∷ 0 ∷ 0 ∷ 0 ∷ []) width ≡ replicate width false
members_zeros width = sym (fill_by_all (has (0 ∷ 0 ∷ 0 ∷ 0 ∷ [])) (replicate width false) width false (length-replicate width false)
    (λ k h. get_or-replicate width k false false h ∙ sym (has_zeros k)))

-- how many of k numbers from a on pass
passing : (ℕ → Bool) → ℕ → ℕ → ℕ
passing f a zero = 0
passing f a (suc k) = cond (f a) 1 0 + passing f (a + 1) k

ones_none : ones 0 ≡ 0
unfolding ones ones_in
ones_none = refl

half_lt : (k n : ℕ) → n < 2 ^ suc k → n / 2 < 2 ^ k
half_lt k n h = let e : 2 ^ suc k ≡ 2 ^ k * 2 = pow-suc 2 k in omega (arith, e, h)

-- a number of k bits has its ones among them
ones_low : (k n : ℕ) → n < 2 ^ k → ones n ≡ low_ones k n
unfolding low_ones
ones_low zero n h = let none : n ≡ 0 = omega (arith, h) in rw none ones_none
ones_low (suc k) n h = ones_step n ∙ ap (λ (x : ℕ). n % 2 + x) (ones_low k (n / 2) (half_lt k n h))

-- a bit as a number
bit_worth : (n : ℕ) → cond (nat_eq (n % 2) 1) 1 0 ≡ n % 2
bit_worth n = elim (eqb_tells (n % 2) 1) [ inl one ↦ rw one.0 (sym one.1) | inr other ↦ rw other.0 (omega arith) ]

-- a range that reads the bits of n counts its low ones
passing_low : (f : ℕ → Bool) (a k n : ℕ) → ((i j : ℕ) → i < k → a + i ≡ j → f j ≡ nat_eq (bit_at n i) 1) → passing f a k ≡ low_ones k n
unfolding passing low_ones
passing_low f a zero n h = refl
passing_low f a (suc k) n h =
    let lowest : f a ≡ nat_eq (n % 2) 1 = h 0 a (omega arith) (omega arith) ∙ ap (λ (x : ℕ). nat_eq x 1) (bit_at_lowest n) in
    let rest : passing f (a + 1) k ≡ low_ones k (n / 2) = passing_low f (a + 1) k (n / 2)
    (λ i j below e. h (suc i) j (omega arith) (omega arith) ∙ ap (λ (x : ℕ). nat_eq x 1) (bit_at-suc n i)) in
    omega (arith, (ap (λ (b : Bool). cond b 1 0) lowest ∙ bit_worth n), rest)

-- a range in two parts
passing_split : (f : ℕ → Bool) (a m k b n : ℕ) → a + m ≡ b → m + k ≡ n → passing f a n ≡ passing f a m + passing f b k
unfolding passing
passing_split f a zero k b n h e = grind arith
passing_split f a (suc m) k b n h e =
    let len : n ≡ suc (m + k) = omega arith in
    let rest : passing f (a + 1) (m + k) ≡ passing f (a + 1) m + passing f b k = passing_split f (a + 1) m k b (m + k) (omega arith) refl in
    rw (len, rest) (sym (add_assoc (cond (f a) 1 0) (passing f (a + 1) m) (passing f b k)))

-- a range in which nothing passes
passing_none : (f : ℕ → Bool) (a k : ℕ) → ((j : ℕ) → a ≤ j → j < a + k → f j ≡ false) → passing f a k ≡ 0
unfolding passing
passing_none f a zero h = refl
passing_none f a (suc k) h = rw (h a (omega arith) (omega arith), passing_none f (a + 1) k (λ j above below. h j (omega arith) (omega arith))) refl

-- the count of a range's truths
count_passing : (f : ℕ → Bool) (a k : ℕ) → count_by (λ b. b) (map f (range_with_len a k)) ≡ passing f a k
unfolding passing
count_passing f a zero = refl
count_passing f a (suc k) = sum_by-cons (λ b. cond b 1 0) (f a) (map f (range_with_len (a + 1) k)) ∙ ap (λ (x : ℕ). cond (f a) 1 0 + x) (count_passing f (a + 1) k)

-- the ones of word j are the members among its 64 numbers
word_ones : (words : List ℕ) (j a : ℕ) → 64 * j ≡ a → slice_index words j < 2 ^ 64 → passing (has words) a 64 ≡ ones (slice_index words j)
word_ones words j a from fits =
    passing_low _ _ _ _ (λ i n below e. let word : n / 64 ≡ j = omega arith in let bit : n % 64 ≡ i = omega arith in rw (word, bit) refl)
    ∙ sym (ones_low _ _ fits)

-- the words' ones are the set's members
pub member_count_words : (words : List ℕ) (width : ℕ) → ((j : ℕ) → slice_index words j < 2 ^ 64) → IsBitmap words width
    → ones (slice_index words 0) + ones (slice_index words 1) + ones (slice_index words 2) + ones (slice_index words 3)
    ≡ member_count (members words width)
member_count_words words width fit sound =
    let most : width ≤ 256 = sound.most in
    let above : passing (has words) width (256 - width) ≡ 0 = passing_none (has words) width (256 - width)
    (λ j low high. sound.clear_above j low (omega arith)) in
    let at_width : passing (has words) 0 256 ≡ passing (has words) 0 width + passing (has words) width (256 - width)
    = passing_split (has words) 0 width (256 - width) width 256 (omega arith) (omega arith) in
    let at_64 : passing (has words) 0 256 ≡ passing (has words) 0 64 + passing (has words) 64 192
    = passing_split (has words) 0 64 192 64 256 refl refl in
    let at_128 : passing (has words) 64 192 ≡ passing (has words) 64 64 + passing (has words) 128 128
    = passing_split (has words) 64 64 128 128 192 refl refl in
    let at_192 : passing (has words) 128 128 ≡ passing (has words) 128 64 + passing (has words) 192 64
    = passing_split (has words) 128 64 64 192 128 refl refl in
    let count : member_count (members words width) ≡ passing (has words) 0 width = count_passing (has words) 0 width in
    let w0 = word_ones words 0 0 refl (fit 0) in
    let w1 = word_ones words 1 64 refl (fit 1) in
    let w2 = word_ones words 2 128 refl (fit 2) in
    let w3 = word_ones words 3 192 refl (fit 3) in
    omega (arith, above, at_width, at_64, at_128, at_192, count, w0, w1, w2, w3)

-- one more number is one more clear number, or not
pub clear_count_more : (words : List ℕ) (i : ℕ) → clear_count (members words (i + 1)) ≡ clear_count (members words i) + cond (not (has words i)) 1 0
clear_count_more words i = sum_by-map-range_with_len_more (λ b. cond (not b) 1 0) (has words) 0 i i (omega arith)

-- a clear bit below the width is a number that is not in the set
pub found_clear : (words : List ℕ) (width : ℕ) (set : List Bool) (r : Option ℕ) → members words width ≡ set
    → IfSome r (λ i. (i < width) × (has words i ≡ false)) → IfSome r (λ i. (i < length set) × (is_member set i ≡ false))
found_clear words width set None e h = tt
found_clear words width set (Some i) e h = grind (arith, length_members, member_has)

-- the clear numbers below a number of the set are the clear bits below it
pub found_place : (words : List ℕ) (width : ℕ) (set : List Bool) (place : ℕ) (r : Option ℕ) → members words width ≡ set
    → IfSome r (λ i. (i < width) × (has words i ≡ false)) → IfSome r (λ i. clear_count (members words i) ≡ place)
    → IfSome r (λ i. clear_count (take i set) ≡ place)
found_place words width set place None e h g = tt
found_place words width set place (Some i) e h g =
    ap (λ s. clear_count (take i s)) (sym e) ∙ ap clear_count (take-map-range_with_len (has words) 0 width i (omega (arith, h.0))) ∙ g

clear_and_members : (set : List Bool) → clear_count set + member_count set ≡ length set
clear_and_members [] = refl
clear_and_members (true ∷ set) =
    omega (arith, sum_by-cons (λ b. cond (not b) 1 0) true set, sum_by-cons (λ b. cond b 1 0) true set, clear_and_members set)
clear_and_members (false ∷ set) =
    omega (arith, sum_by-cons (λ b. cond (not b) 1 0) false set, sum_by-cons (λ b. cond b 1 0) false set, clear_and_members set)

-- a word's numbers that are not in the set are its bits that are not ones
pub clear_count_word : (words : List ℕ) (j a : ℕ) → 64 * j ≡ a → slice_index words j < 2 ^ 64
    → clear_count (members words (a + 64)) + ones (slice_index words j) ≡ clear_count (members words a) + 64
clear_count_word words j a from fits =
    let parts : passing (has words) 0 (a + 64) ≡ passing (has words) 0 a + passing (has words) a 64
    = passing_split (has words) 0 a 64 a (a + 64) (omega arith) refl in
    let all = clear_and_members (members words (a + 64)) ∙ length_members words (a + 64) in
    let below = clear_and_members (members words a) ∙ length_members words a in
    omega (arith, count_passing (has words) 0 (a + 64), count_passing (has words) 0 a, parts, word_ones words j a from fits, all, below)

-- how many of one more bit are set
low_ones_more : (k n : ℕ) → low_ones (suc k) n ≡ low_ones k n + bit_at n k
unfolding low_ones
low_ones_more zero n = let lowest = bit_at_lowest n in omega (arith, lowest)
low_ones_more (suc k) n = omega (arith, low_ones_more k (n / 2), bit_at-suc n k)

-- no bit of zero is
pub low_ones_none : (k : ℕ) → low_ones k 0 ≡ 0
unfolding low_ones
low_ones_none zero = refl
low_ones_none (suc k) = let rest = low_ones_none k in omega (arith, rest)

-- nor is one below the lowest
pub low_ones_below : (k n : ℕ) → ((i : ℕ) → i < k → bit_at n i ≡ 0) → low_ones k n ≡ 0
unfolding low_ones
low_ones_below zero n none = refl
low_ones_below (suc k) n none =
    let rest : low_ones k (n / 2) ≡ 0 = low_ones_below k (n / 2) (λ i below. sym (bit_at-suc n i) ∙ none (suc i) (omega (arith, below))) in
    omega (arith, sym (bit_at_lowest n) ∙ none 0 (omega arith), rest)

-- a bit that is set in the other bits of a word is clear in the word
pub clear_bit_of : (words : List ℕ) (i j k : ℕ) → 64 * j + k ≡ i → k < 64 → slice_index words j < 2 ^ 64 → has words i ≡ nat_eq (1 - bit_at (bit_not w64 (slice_index words j)) k) 1
clear_bit_of words i j k is below fits = grind (arith, bit_at_not w64 (slice_index words j) k fits below)

-- a clear bit as a number
clear_worth : (words : List ℕ) (j k : ℕ) → k < 64 → slice_index words j < 2 ^ 64
    → cond (not (has words (64 * j + k))) 1 0 ≡ bit_at (bit_not w64 (slice_index words j)) k
clear_worth words j k below fits =
    let bit : ℕ = bit_at (bit_not w64 (slice_index words j)) k in
    ap (λ (b : Bool). cond (not b) 1 0) (clear_bit_of _ _ _ _ refl below fits) ∙ worth bit (bit_at-lt (bit_not w64 (slice_index words j)) k)
  where
    worth : (b : ℕ) → b < 2 → cond (not (nat_eq (1 - b) 1)) 1 0 ≡ b
    worth zero few = refl
    worth (suc zero) few = refl
    worth (suc (suc b)) few = absurd (omega (arith, few))

-- a word without its lowest set bit
abbrev pub lowered : ℕ → ℕ
lowered n = bit_and n (n - 1)

lowered_odd : (n : ℕ) → n % 2 ≡ 1 → (lowered n % 2 ≡ 0) × (lowered n / 2 ≡ n / 2)
lowered_odd n odd =
    let half : (n - 1) / 2 ≡ n / 2 = omega (arith, odd) in (
      and_mod n (n - 1) 1 ∙ ap (λ (b : ℕ). bit_and (n % 2) b) (omega (arith, odd)) ∙ and_zero_r (n % 2),
      and_shr n (n - 1) 1 ∙ ap (λ (b : ℕ). bit_and (n / 2) b) half ∙ and_self (n / 2),
    )

lowered_even : (n : ℕ) → 0 < n → n % 2 ≡ 0 → (lowered n % 2 ≡ 0) × (lowered n / 2 ≡ lowered (n / 2))
lowered_even n some even = grind (arith, and_mod n (n - 1) 1, and_shr n (n - 1) 1)

-- the bits that are left of a word without its lowest one
pub record IsLowered (k old new : ℕ) : Type 0 where
  pub is : bit_at new k ≡ 1 → bit_at old k ≡ 1
  pub place : bit_at new k ≡ 1 → low_ones k new + 1 ≡ low_ones k old

no_lowest : (n : ℕ) → n % 2 ≡ 0 → bit_at n 0 ≡ 1 → ⊥
no_lowest n even is = let lowest = bit_at_lowest n in omega (arith, even, is, lowest)

pub is_lowered : (k n : ℕ) → 0 < n → IsLowered k n (lowered n)
unfolding low_ones
is_lowered zero n some = elim (eqb_tells (n % 2) 1) [
  | inl odd ↦ let new = lowered_odd n odd.1 in
      record { is = λ bit. absurd (no_lowest (lowered n) new.0 bit); place = λ bit. absurd (no_lowest (lowered n) new.0 bit) }
  | inr other ↦ let apart = other.1 in let new = lowered_even n some (omega (arith, apart)) in
      record { is = λ bit. absurd (no_lowest (lowered n) new.0 bit); place = λ bit. absurd (no_lowest (lowered n) new.0 bit) }
]
is_lowered (suc k) n some = elim (eqb_tells (n % 2) 1) [
  | inl odd ↦
      let new = lowered_odd n odd.1 in
      let first = odd.1 in let none = new.0 in
      record {
        is = λ bit. bit_at-suc n k ∙ ap (λ (h : ℕ). bit_at h k) (sym new.1) ∙ sym (bit_at-suc (lowered n) k) ∙ bit;
        place = λ bit. omega (arith, first, none, ap (low_ones k) new.1);
      }
  | inr other ↦
      let even : n % 2 ≡ 0 = omega (arith, other.1) in
      let new = lowered_even n some even in
      let half = is_lowered k (n / 2) (omega (arith, some, even)) in
      let down : bit_at (lowered n) (suc k) ≡ bit_at (lowered (n / 2)) k = bit_at-suc (lowered n) k ∙ ap (λ (h : ℕ). bit_at h k) new.1 in
      record {
        is = λ bit. bit_at-suc n k ∙ half.is (sym down ∙ bit);
        place = λ bit. let below = half.place (sym down ∙ bit) in omega (arith, even, new.0, ap (low_ones k) new.1, below);
      }
]

-- a word has one bit more than without its lowest one
pub lowered_count : (k n : ℕ) → 0 < n → n < 2 ^ k → low_ones k (lowered n) + 1 ≡ low_ones k n
unfolding low_ones
lowered_count zero n some fits = absurd (omega (arith, some, fits))
lowered_count (suc k) n some fits = elim (eqb_tells (n % 2) 1) [
  | inl odd ↦
      let new = lowered_odd n odd.1 in
      let first = odd.1 in let none = new.0 in
      omega (arith, first, none, ap (low_ones k) new.1)
  | inr other ↦
      let even : n % 2 ≡ 0 = omega (arith, other.1) in
      let new = lowered_even n some even in
      omega (arith, even, new.0, ap (low_ones k) new.1, lowered_count k (n / 2) (omega (arith, some, even)) (half_lt k n fits))
]

-- the clear numbers below a bit of a word are those below the word, and its clear bits below that one
pub clear_count_bits : (words : List ℕ) (j k : ℕ) → k ≤ 64 → slice_index words j < 2 ^ 64
    → clear_count (members words (64 * j + k)) ≡ clear_count (members words (64 * j)) + low_ones k (bit_not w64 (slice_index words j))
unfolding low_ones
clear_count_bits words j zero few fits = let same : 64 * j + 0 ≡ 64 * j = omega arith in rw same (sym (add-zero (clear_count (members words (64 * j)))))
clear_count_bits words j (suc k) few fits =
    let bits = low_ones_more k (bit_not w64 (slice_index words j)) in
    let one = clear_worth words j k (omega (arith, few)) fits in
    let same : 64 * j + suc k ≡ 64 * j + k + 1 = omega arith in
    rw same (omega (arith, clear_count_bits words j k (omega (arith, few)) fits, clear_count_more words (64 * j + k), bits, one))

-- no more numbers are clear below a lower number
pub clear_count_below : (words : List ℕ) (i k : ℕ) → clear_count (members words i) ≤ clear_count (members words (i + k))
clear_count_below words i zero = let same : i + 0 ≡ i = omega arith in rw same (omega arith)
clear_count_below words i (suc k) = grind (arith, clear_count_below words i k, clear_count_more words (i + k))
