-- The lines of a text that are taken into a draft.
use Rattle.std.proofs.Common.{◌≡◌, ℕ, ◌<◌, ◌≤◌, true, false, not, nat_lt, List, [], ◌∷◌, ◌++◌, Ok, length, length-append, ap, append_assoc, refl, sym, ◌∙◌, arith}
use Rattle.std.specs.List.{list_all}
use Rattle.std.proofs.lemmas.Bool.{lt-leb}
use Rattle.model_words.proofs.Chains.{refuse_if_went}
use Rattle.model_jobs.proofs.FieldReadings.{not_refused}
use Rattle.model_jobs.specs.JobFiles.{Draft, has_ended, is_printable, lines_in, take_fields, take_line}
use Rattle.model_words.specs.declared.faults.FaultKind.TheVariants.{Byte, LongLine}
use Rattle.text_fields.specs.Lines.{IsSplit, line_fields, text_lines}
use Rattle.text_fields.proofs.LineSteps.{after_line, line_step, line_step_more}
use Rattle.text_fields.proofs.Splits.{first_line, printable_line}
use Rattle.text_job.specs.Reading.{IsFaultOfLine, IsFaultOfStep, IsReadOn}
use Rattle.text_job.specs.declared.faults.LineError.{LineError}
use Rattle.text_job.specs.declared.faults.LineError.TheVariants.{Kind as LineKind, Memory as LineMemory}

-- a line without a fault of its bytes is taken as its fields
fields_taken : (draft : Draft) (line : List ℕ) → length line ≤ 1024 → list_all is_printable line ≡ true
    → take_line draft line ≡ take_fields draft (line_fields line)
fields_taken draft line short printable = rw (lt-leb 1025 (length line) (omega (arith, short)), printable) refl

-- what is known of the next line of a text: a line of printable bytes, and the rest
pub record IsLine (text line rest : List ℕ) : Type 0 where
  pub lines : text_lines text ≡ line ∷ text_lines rest
  pub short : length line ≤ 1024
  pub printable : list_all is_printable line ≡ true

-- a line that is split has no fault of its bytes
pub split_is_line : (text rest : List ℕ) (fields : List (List ℕ)) (split : IsSplit text fields rest) → IsLine text split.line rest
split_is_line text rest fields split = record { lines = split.lines; short = split.short; printable = split.printable }

-- the text is read on from the rest, where the line's fields are taken
pub line_taken : (text line rest : List ℕ) (draft draft' : Draft) → IsLine text line rest → has_ended draft.section ≡ false
    → take_fields draft (line_fields line) ≡ Ok draft' → IsReadOn draft text draft' rest
line_taken text line rest draft draft' is going taken =
    let first = first_line text line rest is.lines in
    record {
      taken = line ++ 10 ∷ [];
      whole = first.whole ∙ sym (append_assoc line (10 ∷ []) rest);
      reads = λ number more.
          ap (λ (bytes : List ℕ). lines_in number draft (text_lines bytes)) (append_assoc line (10 ∷ []) more)
          ∙ line_step (line ++ 10 ∷ more) line more number draft (first.ends more) going
          ∙ ap (after_line number (text_lines more)) (fields_taken draft line is.short is.printable ∙ taken);
    }

-- a fault of a line's fields is one of the line
pub line_fault : (text line rest : List ℕ) (draft : Draft) (fault : LineError) → IsLine text line rest → has_ended draft.section ≡ false
    → IsFaultOfStep (take_fields draft (line_fields line)) fault → IsFaultOfLine draft text fault
line_fault text line rest draft (LineKind kind) is going refused = λ number more. line_step_more text _ rest _ _ more is.lines going
    ∙ ap (after_line number (text_lines (rest ++ more))) (fields_taken _ _ is.short is.printable ∙ refused)
line_fault text line rest draft LineMemory is going h = tt

-- what is behind a line and its end is shorter
pub behind_shorter : (text line rest : List ℕ) → text ≡ line ++ 10 ∷ rest → length rest < length text
behind_shorter text line rest is = omega (arith, ap (λ (l : List ℕ). length l) is, length-append line (10 ∷ rest))

-- a text that begins with the spelling of a line that is taken is read on from behind the line's end
pub spelt_line_taken : (text line rest : List ℕ) (draft draft' : Draft) → text ≡ line ++ 10 ∷ rest → has_ended draft.section ≡ false
    → take_line draft line ≡ Ok draft' → IsReadOn draft text draft' rest
spelt_line_taken text line rest draft draft' is going taken =
    let short = refuse_if_went LongLine (nat_lt 1024 (length line)) _ draft' taken in
    let printable = not_refused _ (refuse_if_went Byte (not (list_all is_printable line)) _ draft' short.1).0 in
    record {
      taken = line ++ 10 ∷ [];
      whole = is ∙ sym (append_assoc line (10 ∷ []) rest);
      reads = λ number more.
          ap (λ (bytes : List ℕ). lines_in number draft (text_lines bytes)) (append_assoc line (10 ∷ []) more)
          ∙ line_step (line ++ 10 ∷ more) line more number draft (printable_line _ more printable) going ∙ ap (after_line number (text_lines more)) taken;
    }
