-- Lists cut at a byte.
use Rattle.std.proofs.Common.{◌≡◌, ℕ, zero, suc, ◌+◌, ◌<◌, ◌≤◌, ap, get_or, ◌∙◌, Bool, true, false, cond, nat_eq, List, [], ◌∷◌, ◌++◌, Option, Some, None, length, take, drop, refl, sym, arith, inl, inr}
use Rattle.std.specs.List.{join_with_byte, onto_first, position, position_or_len, slice_split}
use Rattle.std.proofs.lemmas.Bool.Decides.{eqb_tells, leb_tells}
use Rattle.std.specs.List.{list_all}
use Rattle.std.proofs.lemmas.Bool.{and_parts, eq-eqb, ne_eqb}
use Rattle.std.proofs.lemmas.List.Splits.{join_with_byte-slice_split, slice_split_first, slice_split-cons_yes, slice_split-cons_no}
use Rattle.model_jobs.specs.JobFiles.{is_printable}
use Rattle.text_fields.proofs.Sames.{between_by_test}

-- the place of the first byte at which a list is cut, where there is one
abbrev pub place_in : ℕ → List ℕ → Option ℕ
place_in c bytes = position (λ b. nat_eq b c) bytes

-- the first part ends at that place
pub split_at_place : (c : ℕ) (bytes : List ℕ) (place : ℕ) → place_in c bytes ≡ Some place
    → slice_split (λ b. nat_eq b c) bytes ≡ take place bytes ∷ slice_split (λ b. nat_eq b c) (drop (place + 1) bytes)
split_at_place c bytes place h = grind (arith, slice_split_first)

-- bytes without such a byte are one part
split_past : (c : ℕ) (bytes : List ℕ) → length bytes ≤ position_or_len (λ b. nat_eq b c) bytes → slice_split (λ b. nat_eq b c) bytes ≡ bytes ∷ []
split_past c [] past = refl
split_past c (b ∷ bs) past = elim (eqb_tells b c) [
  | inl same ↦ let none = rw same.0 at past in absurd (omega (arith, none))
  | inr other ↦ let later = rw other.0 at past in rw (other.0, split_past c bs (omega (arith, later))) refl
]

pub split_unplaced : (c : ℕ) (bytes : List ℕ) → place_in c bytes ≡ None → slice_split (λ b. nat_eq b c) bytes ≡ bytes ∷ []
split_unplaced c bytes h = elim (leb_tells (suc (position_or_len (λ b. nat_eq b c) bytes)) (length bytes)) [
  | inl within ↦ let found = rw within.0 at h in absurd (cc)
  | inr past ↦ split_past c bytes (omega (arith, past.1))
]

-- a list is cut into one part at least
pub record Parts (parts : List (List ℕ)) : Type 0 where
  pub first : List ℕ
  pub later : List (List ℕ)
  pub is : parts ≡ first ∷ later

one_part : (b : ℕ) (passes : Bool) (parts : List (List ℕ)) → Parts (cond passes ([] ∷ parts) (onto_first b parts))
one_part b true parts = record { first = []; later = parts; is = refl }
one_part b false [] = record { first = b ∷ []; later = []; is = refl }
one_part b false (part ∷ parts) = record { first = b ∷ part; later = parts; is = refl }

pub some_part : (c : ℕ) (bytes : List ℕ) → Parts (slice_split (λ b. nat_eq b c) bytes)
some_part c [] = record { first = []; later = []; is = refl }
some_part c (b ∷ bs) = one_part b (nat_eq b c) (slice_split (λ b. nat_eq b c) bs)

-- a text whose first line end stands behind printable bytes
pub line_at : (text : List ℕ) (i d : ℕ) → i < length text → get_or text i d ≡ 10 → list_all is_printable (take i text) ≡ true
    → slice_split (λ b. nat_eq b 10) text ≡ take i text ∷ slice_split (λ b. nat_eq b 10) (drop (i + 1) text)
line_at [] i d h e printable = absurd (omega (arith, h))
line_at (b ∷ bs) zero d h e printable = slice_split-cons_yes (λ b. nat_eq b 10) b bs (eq-eqb b 10 e)
line_at (b ∷ bs) (suc i) d h e printable =
    let parts = and_parts (is_printable b) (list_all is_printable (take i bs)) printable in
    let other : nat_eq b 10 ≡ false = ne_eqb b 10 (λ is. omega (arith, is, (between_by_test 32 126 b parts.0).0)) in
    let on : suc (i + 1) ≡ suc i + 1 = omega arith in
    slice_split-cons_no (λ b. nat_eq b 10) b bs other ∙ ap (onto_first b) (line_at bs i d (omega (arith, h)) e parts.1)
    ∙ ap (λ (k : ℕ). (b ∷ take i bs) ∷ slice_split (λ b. nat_eq b 10) (drop k (b ∷ bs))) on

-- a line of printable bytes, and what stands behind its end
pub printable_line : (line more : List ℕ) → list_all is_printable line ≡ true
    → slice_split (λ b. nat_eq b 10) (line ++ 10 ∷ more) ≡ line ∷ slice_split (λ b. nat_eq b 10) more
printable_line [] more printable = refl
printable_line (b ∷ bs) more printable =
    let parts = and_parts (is_printable b) (list_all is_printable bs) printable in
    let other : nat_eq b 10 ≡ false = ne_eqb b 10 (λ is. omega (arith, is, (between_by_test 32 126 b parts.0).0)) in
    slice_split-cons_no (λ b. nat_eq b 10) b (bs ++ 10 ∷ more) other ∙ ap (onto_first b) (printable_line bs more parts.1)

-- a text that begins with a line: it is the line, its end and the rest, and whatever follows the line's end stands
-- behind the line
pub record IsFirstLine (text line rest : List ℕ) : Type 0 where
  pub whole : text ≡ line ++ 10 ∷ rest
  pub ends : (more : List ℕ) → slice_split (λ b. nat_eq b 10) (line ++ 10 ∷ more) ≡ line ∷ slice_split (λ b. nat_eq b 10) more

-- texts of the same lines are the same
same_text : (xs ys : List ℕ) → slice_split (λ b. nat_eq b 10) xs ≡ slice_split (λ b. nat_eq b 10) ys → xs ≡ ys
same_text xs ys is = sym (join_with_byte-slice_split 10 xs) ∙ ap (join_with_byte 10) is ∙ join_with_byte-slice_split 10 ys

-- a text whose lines are a line and those of a rest begins with that line
pub first_line : (text line rest : List ℕ) → slice_split (λ b. nat_eq b 10) text ≡ line ∷ slice_split (λ b. nat_eq b 10) rest → IsFirstLine text line rest
first_line [] line rest is = let parts = some_part 10 rest in absurd (cc (is, parts.is))
first_line (b ∷ bs) line rest is = elim (eqb_tells b 10) [
  | inl same ↦
      let cut = sym (slice_split-cons_yes (λ b. nat_eq b 10) b bs same.0) ∙ is in
      let first : [] ≡ line = cc in
      rw (sym first) (record { whole = rw (same.1, same_text bs rest cc) refl; ends = λ more. refl })
  | inr other ↦
      let parts = some_part 10 bs in
      let cut = sym (slice_split-cons_no (λ b. nat_eq b 10) b bs other.0 ∙ ap (onto_first b) parts.is) ∙ is in
      let first : b ∷ parts.first ≡ line = cc in
      let behind = first_line bs parts.first rest (parts.is ∙ ap (λ lines. parts.first ∷ lines) cc) in
      rw (sym first) (record {
        whole = ap (λ left. b ∷ left) behind.whole;
        ends = λ more. slice_split-cons_no (λ b. nat_eq b 10) b (parts.first ++ 10 ∷ more) other.0 ∙ ap (onto_first b) (behind.ends more);
      })
]

-- a text without a line end, and what follows it up to the next one, is one line
pub record IsLineWith (text more : List ℕ) : Type 0 where
  pub behind : List ℕ
  pub later : List (List ℕ)
  pub is : slice_split (λ b. nat_eq b 10) (text ++ more) ≡ (text ++ behind) ∷ later

one_more : (b : ℕ) (text more : List ℕ) → nat_eq b 10 ≡ false → IsLineWith text more → IsLineWith (b ∷ text) more
one_more b text more other line = grind arith

pub unended_more : (text more : List ℕ) → slice_split (λ b. nat_eq b 10) text ≡ text ∷ [] → IsLineWith text more
unended_more [] more is = let parts = some_part 10 more in record { behind = parts.first; later = parts.later; is = parts.is }
unended_more (b ∷ bs) more is = elim (eqb_tells b 10) [
  | inl same ↦ let cut = sym (slice_split-cons_yes (λ b. nat_eq b 10) b bs same.0) ∙ is in absurd (cc cut)
  | inr other ↦
      let parts = some_part 10 bs in
      let cut : (b ∷ parts.first) ∷ parts.later ≡ (b ∷ bs) ∷ [] = sym (slice_split-cons_no (λ b. nat_eq b 10) b bs other.0 ∙ ap (onto_first b) parts.is) ∙ is in
      one_more b bs more other.0 (unended_more bs more cc)
]
