-- What the bytes that came make of a line.
use Rattle.std.proofs.Common.{◌≡◌, ℕ, ◌+◌, ◌-◌, ◌<◌, ◌^◌, nat_eq, List, [], ◌∷◌, ◌++◌, append_assoc, drop, length, length-append, IfErr, Result, Ok, Err, ap, refl, subst, sym, ◌∙◌, arith}
use Rattle.std.specs.Result.{IsErrAnd}
use Rattle.std.proofs.Math.Seq.{drop-append_seam}
use Rattle.std.proofs.lemmas.List.Splits.{slice_split_at, slice_split_none}
use Rattle.text_devices.specs.declared.faults.ReplayError.{ReplayError}
use Rattle.text_devices.specs.declared.faults.ReplayError.TheVariants.{Memory, Read, Text, Write}
use Rattle.text_fields.specs.KeptLines.{IsUnended}
use Rattle.text_fields.specs.Lines.{text_lines}
use Rattle.text_fields.proofs.KeptLines.{both_unended, cut_unended, rest_unended}
use Rattle.text_fields.proofs.Splits.{first_line, unended_more}
use Rattle.text_devices.specs.LineInputs.{line_of, lines_of, unread_of}
use Rattle.text_devices.specs.LineSteps.{IsFaulty, IsNext, IsNotKept, LongAhead}
use Rattle.text_devices.specs.declared.lines.LineInput.{LineInput}

-- a line of which a beginning came before, whose end came now
pub line_ends : (begun bytes last rest : List ℕ) → IsUnended begun → text_lines bytes ≡ last ∷ text_lines rest
    → (more : List ℕ) → text_lines (begun ++ (bytes ++ more)) ≡ (begun ++ last) ∷ text_lines (rest ++ more)
line_ends begun bytes last rest unended cut more =
    let text : begun ++ (bytes ++ more) ≡ (begun ++ last) ++ 10 ∷ (rest ++ more)
    = ap (λ (all : List ℕ). begun ++ (all ++ more)) (first_line bytes last rest cut).whole
    ∙ ap (λ (behind : List ℕ). begun ++ behind) (append_assoc last (10 ∷ rest) more) ∙ sym (append_assoc begun last (10 ∷ (rest ++ more))) in
    ap text_lines text ∙ slice_split_at (λ b. nat_eq b 10) (begun ++ last) 10 (rest ++ more) (both_unended begun last unended (cut_unended bytes last rest cut)) refl

-- the bytes behind the line's end are the last ones
pub rest_is_left : (bytes last rest : List ℕ) → text_lines bytes ≡ last ∷ text_lines rest → drop (length bytes - length rest) bytes ≡ rest
rest_is_left bytes last rest cut =
    let whole : bytes ≡ (last ++ 10 ∷ []) ++ rest = (first_line bytes last rest cut).whole ∙ sym (append_assoc last (10 ∷ []) rest) in
    let len : length bytes ≡ length (last ++ 10 ∷ []) + length rest = ap (λ (all : List ℕ). length all) whole ∙ length-append (last ++ 10 ∷ []) rest in
    let front : length bytes - length rest ≡ length (last ++ 10 ∷ []) = omega (arith, len) in
    ap (λ (count : ℕ). drop count bytes) front ∙ ap (λ (all : List ℕ). drop (length (last ++ 10 ∷ [])) all) whole ∙ drop-append_seam (last ++ 10 ∷ []) rest

-- a line ends in the bytes that came
pub next_line : (old new : LineInput) (last rest : List ℕ) → text_lines (unread_of old) ≡ last ∷ text_lines rest → line_of new ≡ line_of old ++ last
    → unread_of new ≡ rest → lines_of new ≡ lines_of old + 1 → lines_of new < 2 ^ 32 → IsNext old new
next_line old new last rest cut line left count few = record {
  reads = λ more.
      line_ends (line_of old) (unread_of old) last rest old.line.unended cut more
      ∙ ap (λ (begin : List ℕ). begin ∷ text_lines (rest ++ more)) (sym line) ∙ ap (λ (bytes : List ℕ). line_of new ∷ text_lines (bytes ++ more)) (sym left);
  count = count;
  few = few;
}

-- the line has ended, and has too many bytes
pub long_line_ended : (old : LineInput) (last rest : List ℕ) (error : ReplayError) → text_lines (unread_of old) ≡ last ∷ text_lines rest
    → IsNotKept (lines_of old) (line_of old ++ last) error → IsFaulty old error
long_line_ended old last rest (Text fault) cut (is, over) = LongAhead (λ more.
    record {
      long = line_of old ++ last;
      rest = text_lines (rest ++ more);
      is = line_ends (line_of old) (unread_of old) last rest old.line.unended cut more;
      over = over;
    })
    is
long_line_ended old last rest Memory cut kept = tt
long_line_ended old last rest Read cut kept = absurd kept
long_line_ended old last rest Write cut kept = absurd kept

-- the line has not ended, and has too many bytes
pub long_line_begun : (old : LineInput) (error : ReplayError) → text_lines (unread_of old) ≡ unread_of old ∷ []
    → IsNotKept (lines_of old) (line_of old ++ unread_of old) error → IsFaulty old error
long_line_begun old (Text fault) uncut (is, over) = LongAhead (λ more.
    let unended = both_unended (line_of old) (unread_of old) old.line.unended (rest_unended (unread_of old) uncut) in
    let line = unended_more (line_of old ++ unread_of old) more (slice_split_none (λ b. nat_eq b 10) (line_of old ++ unread_of old) unended) in
    record {
      long = (line_of old ++ unread_of old) ++ line.behind;
      rest = line.later;
      is = ap text_lines (sym (append_assoc (line_of old) (unread_of old) more)) ∙ line.is;
      over = omega (arith, over, length-append (line_of old ++ unread_of old) line.behind);
    })
    is
long_line_begun old Memory uncut kept = tt
long_line_begun old Read uncut kept = absurd kept
long_line_begun old Write uncut kept = absurd kept

-- what holds of an error holds of a result that has the same error
pub handed_on : {T E : Type 0} (result : Result T E) (fault : E) (P : E → Type 0) → IsErrAnd result (λ e. e ≡ fault) → P fault → IfErr result P
handed_on (Ok x) fault P same holds = absurd same
handed_on (Err e) fault P same holds = subst P (sym same) holds
