-- Two sets: the numbers that are in both, and those that are in either.
use Rattle.std.proofs.Common.{◌≡◌, ℕ, zero, suc, ◌+◌, ◌*◌, ◌/◌, ◌%◌, ◌^◌, ◌<◌, ◌≤◌, Bool, true, false, ◌&&◌, ◌||◌, not, nat_eq, List, [], ◌∷◌, length, slice_index, bit_and, bit_or, ap, refl, sym, ◌∙◌, arith, ⊎_elim}
use Rattle.std.specs.Prelude.{min, max}
use Rattle.std.specs.Int.{bit_at}
use Rattle.std.proofs.Math.Bool.{false-or, or-false}
use Rattle.std.proofs.lemmas.Bool.{cases_lt, and_parts, and_from}
use Rattle.std.proofs.lemmas.List.{get_or_past}
use Rattle.std.proofs.lemmas.List.FromFn.{fill_by_all}
use Rattle.std.proofs.lemmas.Nat.{and_le_l, le_or_l, le_or_r, pow_pos}
use Rattle.std.proofs.lemmas.Nat.Bits.{bit_at_and, bit_at_or, bit_at-zero, bit_at-lt, same_from_bits_below}
use Rattle.mesh_bits.specs.Bits.{has, members, is_member, are_meshable, AreApart, union_of, IsBitmap, HaveNoBitInBoth, HasBitsOfEither}
use Rattle.mesh_bits.proofs.BitsLemmas.{length_members, member_has}

-- two words that share no bit have no bit in both
apart_in_word : (a b k : ℕ) → bit_and a b ≡ 0 → nat_eq (bit_at a k) 1 ≡ true → nat_eq (bit_at b k) 1 ≡ false
apart_in_word a b k none set = grind (arith, bit_at_and a b k)

lesser_bit : (x y : ℕ) → x < 2 → y < 2 → (nat_eq x 1 ≡ true → nat_eq y 1 ≡ false) → min x y ≡ 0
lesser_bit zero y p q h = omega arith
lesser_bit (suc zero) zero p q h = omega arith
lesser_bit (suc zero) (suc zero) p q h = let e = h refl in absurd (cc)
lesser_bit (suc zero) (suc (suc y)) p q h = absurd (omega arith)
lesser_bit (suc (suc x)) y p q h = absurd (omega arith)

-- two words that have no bit in both share none
word_apart : (a b : ℕ) → a < 2 ^ 64 → ((k : ℕ) → k < 64 → nat_eq (bit_at a k) 1 ≡ true → nat_eq (bit_at b k) 1 ≡ false) → bit_and a b ≡ 0
word_apart a b fits apart =
    same_from_bits_below 64 (bit_and a b) 0 (omega (arith, and_le_l a b)) (pow_pos 64) (λ k l.
    bit_at_and a b k ∙ lesser_bit (bit_at a k) (bit_at b k) (bit_at-lt a k) (bit_at-lt b k) (apart k l) ∙ sym (bit_at-zero k))

other_clear : (x y : Bool) → not (x && y) ≡ true → x ≡ true → y ≡ false
other_clear true true h e = absurd (cc)
other_clear true false h e = refl
other_clear false y h e = absurd (cc)

not_both : (x y : Bool) → (x ≡ true → y ≡ false) → not (x && y) ≡ true
not_both false y h = refl
not_both true false h = refl
not_both true true h = let e = h refl in absurd (cc)

not_member : (words : List ℕ) (width i : ℕ) → width ≤ i → is_member (members words width) i ≡ false
not_member words width i above = get_or_past (members words width) i false (omega (arith, length_members words width))

-- where no bit is set in both, a word of each shares nothing
pub one_word_apart : (words others : List ℕ) (j : ℕ) → slice_index words j < 2 ^ 64 → j < 4 → HaveNoBitInBoth words others → bit_and (slice_index words j) (slice_index others j) ≡ 0
one_word_apart words others j fits below apart =
    word_apart (slice_index words j) (slice_index others j) fits (λ k l set.
    let word : (64 * j + k) / 64 ≡ j = omega arith in
    let bit : (64 * j + k) % 64 ≡ k = omega arith in
    rw (word, bit) at (apart (64 * j + k) (omega arith) (rw (word, bit) set)))

both_zero : (a b : ℕ) → bit_or a b ≡ 0 → (a ≡ 0) × (b ≡ 0)
both_zero a b e = (omega (arith, le_or_l a b, e), omega (arith, le_or_r a b, e))

-- the bits that are set in both, those of the four words in one number
abbrev pub shared_bits : List ℕ → List ℕ → ℕ
shared_bits words others =
    bit_or (bit_or (bit_or (bit_and (slice_index words 0) (slice_index others 0)) (bit_and (slice_index words 1) (slice_index others 1)))
    (bit_and (slice_index words 2) (slice_index others 2))) (bit_and (slice_index words 3) (slice_index others 3))

-- where the words share nothing, no bit is set in both
pub bits_apart : (words others : List ℕ) → shared_bits words others ≡ 0 → HaveNoBitInBoth words others
bits_apart words others none i below set =
    let last = both_zero _ _ none in
    let third = both_zero _ _ last.0 in
    let first = both_zero _ _ third.0 in
    apart_in_word (slice_index words (i / 64)) (slice_index others (i / 64)) (i % 64) (each (i / 64) (omega arith) first.0 first.1 third.1 last.1) set
  where
    each : (j : ℕ) → j < 4 → bit_and (slice_index words 0) (slice_index others 0) ≡ 0 → bit_and (slice_index words 1) (slice_index others 1) ≡ 0
        → bit_and (slice_index words 2) (slice_index others 2) ≡ 0 → bit_and (slice_index words 3) (slice_index others 3) ≡ 0
        → bit_and (slice_index words j) (slice_index others j) ≡ 0
    each zero l a b c d = a
    each (suc zero) l a b c d = b
    each (suc (suc zero)) l a b c d = c
    each (suc (suc (suc zero))) l a b c d = d
    each (suc (suc (suc (suc j)))) l a b c d = absurd (omega arith)

-- where no bit is set in both, the words share nothing
pub words_apart : (words others : List ℕ) → ((j : ℕ) → slice_index words j < 2 ^ 64) → HaveNoBitInBoth words others → shared_bits words others ≡ 0
words_apart words others fits apart = rw (at 0 (omega arith), at 1 (omega arith), at 2 (omega arith), at 3 (omega arith)) refl
  where
    at : (j : ℕ) → j < 4 → bit_and (slice_index words j) (slice_index others j) ≡ 0
    at j below = one_word_apart words others j (fits j) below apart

-- lists of truth values that are meshable have no number in both
pub are_meshable-apart : (xs ys : List Bool) → are_meshable xs ys ≡ true → AreApart xs ys
are_meshable-apart [] ys h i in_first = absurd (cc)
are_meshable-apart (x ∷ xs) [] h i in_first = refl
are_meshable-apart (x ∷ xs) (y ∷ ys) h zero in_first = other_clear x y (and_parts (not (x && y)) (are_meshable xs ys) h).0 in_first
are_meshable-apart (x ∷ xs) (y ∷ ys) h (suc i) in_first = are_meshable-apart xs ys (and_parts (not (x && y)) (are_meshable xs ys) h).1 i in_first

-- and lists that have no number in both are meshable
pub apart-are_meshable : (xs ys : List Bool) → AreApart xs ys → are_meshable xs ys ≡ true
apart-are_meshable [] ys h = refl
apart-are_meshable (x ∷ xs) [] h = refl
apart-are_meshable (x ∷ xs) (y ∷ ys) h =
    and_from (not (x && y)) (are_meshable xs ys) (not_both x y (h 0)) (apart-are_meshable xs ys (λ i. h (suc i)))

-- sets below one width have no number in both where their words have no bit in both
pub apart_from_bits : (words others : List ℕ) (width : ℕ) → width ≤ 256 → HaveNoBitInBoth words others → AreApart (members words width) (members others width)
apart_from_bits words others width most apart i in_first = grind (arith, member_has, not_member)

-- and words have no bit in both where their sets have no number in both
pub bits_from_apart : (words others : List ℕ) (width : ℕ) → IsBitmap words width → AreApart (members words width) (members others width) → HaveNoBitInBoth words others
bits_from_apart words others width sound apart i in_words set =
    ⊎_elim (λ (below : i < width). sym (member_has _ _ _ below) ∙ apart i (member_has _ _ _ below ∙ set))
    (λ (above : width ≤ i). let clear = sound.clear_above i above in_words in absurd (cc))
    (cases_lt i width)

-- two sets of one length are below one width
pub same_width : (words others : List ℕ) (width other_width : ℕ) (xs ys : List Bool) → members words width ≡ xs → members others other_width ≡ ys → length xs ≡ length ys → other_width ≡ width
same_width words others width other_width xs ys e f same = sym (length_members _ _) ∙ ap length f ∙ sym same ∙ sym (ap length e) ∙ length_members _ _

length-union : (xs ys : List Bool) → length xs ≡ length ys → length (union_of xs ys) ≡ length xs
length-union [] ys e = sym e
length-union (x ∷ xs) [] e = refl
length-union (x ∷ xs) (y ∷ ys) e = let rest : length (union_of xs ys) ≡ length xs = length-union xs ys (omega arith) in omega (arith, rest)

-- a number is in the union where it is in either set
pub is_member-union : (xs ys : List Bool) (i : ℕ) → is_member (union_of xs ys) i ≡ (is_member xs i || is_member ys i)
is_member-union [] ys i = sym (false-or (is_member ys i))
is_member-union (x ∷ xs) [] i = sym (or-false (is_member (x ∷ xs) i))
is_member-union (x ∷ xs) (y ∷ ys) zero = refl
is_member-union (x ∷ xs) (y ∷ ys) (suc i) = is_member-union xs ys i

-- words with the bits of either hold the union
pub members-union : (words others new : List ℕ) (width : ℕ) → width ≤ 256 → HasBitsOfEither words others new → members new width ≡ union_of (members words width) (members others width)
members-union words others new width most either =
    sym (fill_by_all (has new) (union_of (members words width) (members others width)) width false
    (length-union _ _ (length_members words width ∙ sym (length_members others width)) ∙ length_members words width)
    (λ k l. is_member-union (members words width) (members others width) k
    ∙ rw (member_has words width k l, member_has others width k l) (sym (either k (omega arith)))))

-- and have no bit from the width on
pub clear_union : (words others new : List ℕ) (width : ℕ) → IsBitmap words width → IsBitmap others width → HasBitsOfEither words others new → IsBitmap new width
clear_union words others new width one other either = grind arith

greater_bit : (x y : ℕ) → x < 2 → y < 2 → nat_eq (max x y) 1 ≡ (nat_eq x 1 || nat_eq y 1)
greater_bit zero zero p q = refl
greater_bit zero (suc zero) p q = refl
greater_bit zero (suc (suc y)) p q = absurd (omega arith)
greater_bit (suc zero) zero p q = refl
greater_bit (suc zero) (suc zero) p q = refl
greater_bit (suc zero) (suc (suc y)) p q = absurd (omega arith)
greater_bit (suc (suc x)) y p q = absurd (omega arith)

-- a bit of the one word or of the other
pub bit_of_either : (a b k : ℕ) → nat_eq (bit_at (bit_or a b) k) 1 ≡ (nat_eq (bit_at a k) 1 || nat_eq (bit_at b k) 1)
bit_of_either a b k = ap (λ (n : ℕ). nat_eq n 1) (bit_at_or a b k) ∙ greater_bit _ _ (bit_at-lt a k) (bit_at-lt b k)

-- four words, each with the bits of either word at its place
pub four_either : (words others : List ℕ) → HasBitsOfEither words others
    (bit_or (slice_index words 0) (slice_index others 0) ∷ bit_or (slice_index words 1) (slice_index others 1)
    ∷ bit_or (slice_index words 2) (slice_index others 2) ∷ bit_or (slice_index words 3) (slice_index others 3) ∷ [])
four_either words others i below = at (i / 64) (omega arith)
  where
    at : (j : ℕ) → j < 4 → nat_eq (bit_at (slice_index
        (bit_or (slice_index words 0) (slice_index others 0) ∷ bit_or (slice_index words 1) (slice_index others 1)
        ∷ bit_or (slice_index words 2) (slice_index others 2) ∷ bit_or (slice_index words 3) (slice_index others 3) ∷ []) j) (i % 64)) 1
        ≡ (nat_eq (bit_at (slice_index words j) (i % 64)) 1 || nat_eq (bit_at (slice_index others j) (i % 64)) 1)
    at zero l = bit_of_either _ _ (i % 64)
    at (suc zero) l = bit_of_either _ _ (i % 64)
    at (suc (suc zero)) l = bit_of_either _ _ (i % 64)
    at (suc (suc (suc zero))) l = bit_of_either _ _ (i % 64)
    at (suc (suc (suc (suc j)))) l = absurd (omega arith)
