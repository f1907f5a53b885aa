-- What is kept of a line tells of the line.
use Rattle.std.proofs.Common.{◌≡◌, ℕ, ◌<◌, ◌∙◌, ap, append-nil, arith, false, inl, inr, length, length-take, nat_eq, refl, suc, sym, List, [], ◌∷◌, ◌++◌, take}
use Rattle.std.proofs.lemmas.Bool.{le-leb}
use Rattle.std.proofs.lemmas.Bool.Decides.{eqb_tells, leb_tells}
use Rattle.std.proofs.lemmas.List.{take_all}
use Rattle.std.proofs.lemmas.List.Splits.{slice_split-cons_no, slice_split-cons_yes}
use Rattle.std.specs.List.{onto_first}
use Rattle.std.proofs.lemmas.List.Elements.{All-append, All-cons, All-nil}
use Rattle.model_words.specs.declared.faults.FaultKind.TheVariants.{LongLine}
use Rattle.text_fields.specs.KeptLines.{IsKept, IsUnended, rest_fault}
use Rattle.text_fields.specs.Lines.{text_lines}
use Rattle.text_fields.proofs.Splits.{first_line, some_part}

-- nothing is kept of a line that hasn't begun
pub none_kept : IsKept [] []
none_kept = record { front = refl; unended = All-nil (λ b. nat_eq b 10 ≡ false) }

-- what is kept of a line is the line, or both have too many bytes
pub data Kept (kept line : List ℕ) : Type 0 where
  Whole : kept ≡ line → Kept kept line
  Long : 1024 < length kept → 1024 < length line → Kept kept line

pub kept_of : (kept begun : List ℕ) → kept ≡ take 1025 begun → Kept kept begun
kept_of kept begun front = elim (leb_tells (length begun) 1025) [
  | inl short ↦ Whole (front ∙ take_all 1025 begun short.1)
  | inr long ↦ let len : length kept ≡ length (take 1025 begun) = ap (λ (bytes : List ℕ). length bytes) front in
      let over = long.1 in Long (omega (arith, len, over, length-take 1025 begun)) (omega (arith, over))
]

-- two pieces without a line end have none together
pub both_unended : (begun bytes : List ℕ) → IsUnended begun → IsUnended bytes → IsUnended (begun ++ bytes)
both_unended begun bytes first second = All-append (λ b. nat_eq b 10 ≡ false) begun bytes first second

-- bytes that are too many for a line are told so behind the last line end
pub rest_too_long : (most : ℕ) (rest : List ℕ) → most < length rest → rest_fault most rest ≡ LongLine
rest_too_long most rest over = rw (le-leb (suc most) (length rest) (omega (arith, over))) refl

-- the first line of a text has no line end
pub unended : (line more : List ℕ) (lines : List (List ℕ)) → text_lines (line ++ more) ≡ line ∷ lines → IsUnended line
unended [] more lines is = All-nil (λ b. nat_eq b 10 ≡ false)
unended (b ∷ bs) more lines is = elim (eqb_tells b 10) [
  | inl same ↦ let cut = sym (slice_split-cons_yes (λ b. nat_eq b 10) b (bs ++ more) same.0) ∙ is in absurd (cc cut)
  | inr other ↦
      let parts = some_part 10 (bs ++ more) in
      let cut : (b ∷ parts.first) ∷ parts.later ≡ (b ∷ bs) ∷ lines
      = sym (slice_split-cons_no (λ b. nat_eq b 10) b (bs ++ more) other.0 ∙ ap (onto_first b) parts.is) ∙ is in
      let first : parts.first ≡ bs = cc cut in
      let later : parts.later ≡ lines = cc cut in
      All-cons (λ b. nat_eq b 10 ≡ false) b bs other.0 (unended bs more lines (parts.is ∙ rw (first, later) refl))
]

-- the line has no line end
pub cut_unended : (rest line behind : List ℕ) → text_lines rest ≡ line ∷ text_lines behind → IsUnended line
cut_unended rest line behind cut =
    let whole = (first_line rest line behind cut).whole in unended line (10 ∷ behind) (text_lines behind) (ap (λ (all : List ℕ). text_lines all) (sym whole) ∙ cut)

-- nor have bytes that are no line
pub rest_unended : (rest : List ℕ) → text_lines rest ≡ rest ∷ [] → IsUnended rest
rest_unended rest uncut = unended rest [] [] (ap (λ (all : List ℕ). text_lines all) (append-nil rest) ∙ uncut)
