-- The marks of a word.
use Rattle.std.proofs.Common.{◌≡◌, ◌≢◌, ℕ, zero, suc, ◌+◌, ◌*◌, ◌/◌, ◌%◌, ◌^◌, ◌<◌, Bool, true, false, nat_eq, List, ◌∷◌, map, length, replicate, slice_set, get_or, set, ap, refl, sym, ◌∙◌, arith, inl, inr}
use Rattle.std.proofs.Math.Nat.{pow-suc}
use Rattle.std.proofs.Math.ListN.{length-set, length-replicate}
use Rattle.std.proofs.lemmas.Bool.Decides.{eqb_tells}
use Rattle.std.proofs.lemmas.List.{get_or-set_other, get_or-set_same, get_or-replicate}
use Rattle.std.proofs.lemmas.List.FromFn.{length-map-range_with_len, get_or-map-range_with_len, fill_by_all}
use Rattle.std.proofs.lemmas.Nat.Bits.{bit_at-zero, bit_at-suc, bit_at_lowest}
use Rattle.std.specs.Int.{bit_at}
use Rattle.std.specs.List.{range_with_len}
use Rattle.history_object.specs.Marks.{has_bit, is_marked, marks_in, word_of}

pub length_marks : (word : ℕ) → length (marks_in word) ≡ 64
unfolding marks_in
length_marks word = length-map-range_with_len (has_bit word) 0 64

-- a place is marked where its bit is set
pub marked_bit : (word i : ℕ) → i < 64 → is_marked (marks_in word) i ≡ has_bit word i
unfolding marks_in
marked_bit word i h = get_or-map-range_with_len (has_bit word) 0 64 i i false h (omega arith)

-- no bit of zero is set
pub no_marks : marks_in 0 ≡ replicate 64 false
unfolding marks_in
no_marks = sym (fill_by_all (has_bit 0) (replicate 64 false) 64 false (length-replicate 64 false)
    (λ k h. get_or-replicate 64 k false false h ∙ sym (none k)))
  where
    none : (k : ℕ) → has_bit 0 k ≡ false
    none k = rw (bit_at-zero k) refl

-- a word with one bit put has the marks with one put
pub marks_put : (old new i : ℕ) (bit : Bool) → i < 64 → has_bit new i ≡ bit → ((k : ℕ) → k < 64 → k ≢ i → bit_at new k ≡ bit_at old k)
    → marks_in new ≡ slice_set (marks_in old) i bit
unfolding marks_in
marks_put old new i bit h here others =
    sym (fill_by_all (has_bit new) (set (marks_in old) i bit) 64 false (length-set (marks_in old) i bit ∙ length_marks old) each)
  where
    len : i < length (marks_in old)
    len = rw (length_marks old) h

    each : (k : ℕ) → k < 64 → get_or (set (marks_in old) i bit) k false ≡ has_bit new k
    each k below = elim (eqb_tells k i) [
      | inl same ↦ rw same.1 (get_or-set_same (marks_in old) i bit false len ∙ sym here)
      | inr apart ↦ get_or-set_other (marks_in old) i k bit false apart.1 ∙ marked_bit old k below
          ∙ sym (ap (λ (x : ℕ). nat_eq x 1) (others k below apart.1))
    ]

-- a bit as a number
bit_worth : (n : ℕ) (b : Bool) (rest : ℕ) (marks : List Bool) → b ≡ nat_eq (n % 2) 1 → word_of marks ≡ n / 2 → word_of (b ∷ marks) ≡ n
bit_worth n true rest marks is half = elim (eqb_tells (n % 2) 1) [
  | inl one ↦ (let odd = one.1 in omega (arith, odd, half))
  | inr other ↦ (let no : true ≡ false = is ∙ other.0 in cc (no))
]
bit_worth n false rest marks is half = elim (eqb_tells (n % 2) 1) [
  | inl one ↦ (let no : false ≡ true = is ∙ one.0 in cc (no))
  | inr other ↦ (let even = other.1 in omega (arith, even, half))
]

half_lt : (k n : ℕ) → n < 2 ^ suc k → n / 2 < 2 ^ k
half_lt k n h = let e : 2 ^ suc k ≡ 2 ^ k * 2 = pow-suc 2 k in omega (arith, e, h)

-- a range that reads the bits of a number gives this number
number_again : (f : ℕ → Bool) (a k n : ℕ) → n < 2 ^ k → ((i j : ℕ) → i < k → a + i ≡ j → f j ≡ nat_eq (bit_at n i) 1)
    → word_of (map f (range_with_len a k)) ≡ n
number_again f a zero n fits h = omega (arith, fits)
number_again f a (suc k) n fits h =
    let lowest : f a ≡ nat_eq (n % 2) 1 = h 0 a (omega arith) (omega arith) ∙ ap (λ (x : ℕ). nat_eq x 1) (bit_at_lowest n) in
    let rest : word_of (map f (range_with_len (a + 1) k)) ≡ n / 2 = number_again f (a + 1) k (n / 2) (half_lt k n fits)
    (λ i j below e. h (suc i) j (omega arith) (omega arith) ∙ ap (λ (x : ℕ). nat_eq x 1) (bit_at-suc n i)) in
    bit_worth n (f a) 0 (map f (range_with_len (a + 1) k)) lowest rest

pub word_again : (word : ℕ) → word < 2 ^ 64 → word_of (marks_in word) ≡ word
unfolding marks_in
word_again word fits = number_again (has_bit word) 0 64 word fits (λ i j below e. (let same : j ≡ i = omega (arith, e) in ap (λ (x : ℕ). nat_eq (bit_at word x) 1) same))

-- words with the same marks are equal
pub same_words : (word other : ℕ) → word < 2 ^ 64 → other < 2 ^ 64 → marks_in word ≡ marks_in other → word ≡ other
same_words word other fits fits' same = sym (word_again word fits) ∙ (ap (λ (xs : List Bool). word_of xs) same ∙ word_again other fits')
