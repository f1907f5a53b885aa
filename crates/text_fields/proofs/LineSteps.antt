-- The lines of a text, one by one, and the faults of their bytes.
use Rattle.std.proofs.Common.{◌≡◌, ℕ, ◌+◌, ◌<◌, ◌≤◌, suc, Bool, true, false, nat_lt, List, [], ◌∷◌, ◌++◌, Result, Ok, Err, length, ap, append_assoc, refl, sym, ◌∙◌, arith, inl, inr}
use Rattle.std.specs.List.{list_all}
use Rattle.std.proofs.lemmas.Bool.{le-leb, lt-leb, true≢false}
use Rattle.std.proofs.lemmas.Bool.Decides.{leb_tells}
use Rattle.std.proofs.lemmas.List.{length-append}
use Rattle.model_jobs.specs.JobFiles.{Draft, fault_at, has_ended, is_printable, lines_in, or_fault, take_line}
use Rattle.model_jobs.specs.Jobs.{Job}
use Rattle.model_words.specs.Words.{◌>>=◌, refuse_if}
use Rattle.model_words.specs.declared.faults.FaultKind.{FaultKind}
use Rattle.model_words.specs.declared.faults.FaultKind.TheVariants.{Byte, LongLine}
use Rattle.model_words.specs.declared.faults.TextFault.{TextFault}
use Rattle.text_fields.specs.Lines.{IsFaultyLine, bytes_fit, text_lines}
use Rattle.text_fields.proofs.Splits.{Parts, first_line, some_part, unended_more}

-- what is left of a text once a line was taken, or the line's fault
abbrev pub after_line : ℕ → List (List ℕ) → Result Draft FaultKind → Result Job TextFault
after_line number lines taken = or_fault number taken >>= λ draft. lines_in (number + 1) draft lines

-- a line and what comes after it
step : (number : ℕ) (draft : Draft) (line : List ℕ) (lines : List (List ℕ)) → Parts lines → has_ended draft.section ≡ false
    → lines_in number draft (line ∷ lines) ≡ after_line number lines (take_line draft line)
step number draft line [] parts going = absurd (cc parts.is)
step number draft line (next ∷ lines) parts going = rw going refl

-- a text is read line by line
pub line_step : (text line rest : List ℕ) (number : ℕ) (draft : Draft) → text_lines text ≡ line ∷ text_lines rest → has_ended draft.section ≡ false
    → lines_in number draft (text_lines text) ≡ after_line number (text_lines rest) (take_line draft line)
line_step text line rest number draft is going = ap (lines_in number draft) is ∙ step number draft line _ (some_part 10 rest) going

-- the same, whatever follows the line
pub line_step_more : (text line rest : List ℕ) (number : ℕ) (draft : Draft) (more : List ℕ) → text_lines text ≡ line ∷ text_lines rest
    → has_ended draft.section ≡ false → lines_in number draft (text_lines (text ++ more)) ≡ after_line number (text_lines (rest ++ more)) (take_line draft line)
line_step_more text line rest number draft more is going =
    let first = first_line text line rest is in
    let all : text ++ more ≡ line ++ 10 ∷ (rest ++ more) = ap (λ (bytes : List ℕ). bytes ++ more) first.whole ∙ append_assoc line (10 ∷ rest) more in
    line_step (text ++ more) line (rest ++ more) number draft (ap text_lines all ∙ first.ends (rest ++ more)) going

-- a line that has more bytes than a line may have
long_step : (number : ℕ) (draft : Draft) (line : List ℕ) (lines : List (List ℕ)) → 1024 < length line → has_ended draft.section ≡ false
    → lines_in number draft (line ∷ lines) ≡ Err (fault_at number LongLine)
long_step number draft line [] long going = rw (going, le-leb 1025 (length line) (omega (arith, long))) refl
long_step number draft line (next ∷ lines) long going = rw (going, le-leb 1025 (length line) (omega (arith, long))) refl

-- a line whose end doesn't stand within as many bytes as a line may have
pub unended_fault : (text : List ℕ) → text_lines text ≡ text ∷ [] → 1024 < length text → IsFaultyLine text LongLine
unended_fault text is long number draft more going =
    let line = unended_more _ _ is in
    ap (lines_in number draft) line.is ∙ long_step _ _ _ _ (omega (arith, long, length-append text line.behind)) going

-- the first fault of two tests, whatever comes behind them
first_fault : (long other : Bool) (next : Result Draft FaultKind) (kind : FaultKind) → (refuse_if LongLine long >>= λ _. refuse_if Byte other) ≡ Err kind
    → (refuse_if LongLine long >>= λ _. refuse_if Byte other >>= λ _. next) ≡ Err kind
first_fault true other next kind is = cc
first_fault false true next kind is = cc
first_fault false false next kind is = cc

-- a line whose bytes have a fault
pub bytes_fault : (text line rest : List ℕ) (kind : FaultKind) → text_lines text ≡ line ∷ text_lines rest → bytes_fit 1024 line ≡ Err kind → IsFaultyLine text kind
bytes_fault text line rest kind is refused number draft more going =
    line_step_more text _ rest _ _ more is going ∙ ap (after_line number (text_lines (rest ++ more))) (first_fault _ _ _ _ refused)

-- a number that is not above another
not_above : (least n : ℕ) → nat_lt least n ≡ false → n ≤ least
not_above least n h = elim (leb_tells (suc least) n) [ inl over ↦ absurd (true≢false (sym over.0 ∙ h)) | inr is ↦ omega (arith, is.1) ]

-- a line whose bytes have none
pub short_and_printable : (line : List ℕ) → bytes_fit 1024 line ≡ Ok tt → (length line ≤ 1024) × (list_all is_printable line ≡ true)
short_and_printable line fit = grind arith

-- a line that is short enough and printable
pub bytes_taken : (most : ℕ) (line : List ℕ) → length line ≤ most → list_all is_printable line ≡ true → bytes_fit most line ≡ Ok tt
bytes_taken most line short printable = rw (lt-leb (suc most) (length line) (omega (arith, short)), printable) refl
