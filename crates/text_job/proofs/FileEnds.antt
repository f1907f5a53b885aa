-- The end of a file: what its reading comes to.
use Rattle.std.proofs.Common.{◌≡◌, ℕ, ◌≤◌, Bool, true, false, cond, nat_eq, List, [], ◌∷◌, Ok, Err, length, ap, refl, ◌∙◌, arith}
use Rattle.std.specs.List.{onto_first}
use Rattle.std.proofs.lemmas.Bool.{lt-leb}
use Rattle.model_jobs.specs.JobFiles.{Draft, fault_at, has_ended, job_of, lines_in}
use Rattle.model_words.specs.declared.faults.FaultKind.TheVariants.{Cut, Trailing}
use Rattle.text_fields.specs.Lines.{IsPartOfLine, text_lines}
use Rattle.text_fields.proofs.Splits.{Parts, some_part}

-- bytes behind the end
trailing : (number : ℕ) (draft : Draft) (b : ℕ) (passes : Bool) (parts : List (List ℕ)) → Parts parts → has_ended draft.section ≡ true
    → lines_in number draft (cond passes ([] ∷ parts) (onto_first b parts)) ≡ Err (fault_at number Trailing)
trailing number draft b passes [] some ended = absurd (cc some.is)
trailing number draft b true (part ∷ parts) some ended = rw ended refl
trailing number draft b false (part ∷ []) some ended = rw ended refl
trailing number draft b false (part ∷ next ∷ parts) some ended = rw ended refl

pub behind_end : (rest : List ℕ) (number : ℕ) (draft : Draft) → 1 ≤ length rest → has_ended draft.section ≡ true
    → lines_in number draft (text_lines rest) ≡ Err (fault_at number Trailing)
behind_end [] number draft some ended = absurd (omega (arith, some))
behind_end (b ∷ bs) number draft some ended = trailing number draft b (nat_eq b 10) (text_lines bs) (some_part 10 bs) ended

-- no bytes behind the end
pub at_end : (rest : List ℕ) (number : ℕ) (draft : Draft) → length rest ≤ 0 → has_ended draft.section ≡ true
    → lines_in number draft (text_lines rest) ≡ Ok (job_of draft)
at_end [] number draft none ended = rw ended refl
at_end (b ∷ bs) number draft none ended = absurd (omega (arith, none))

-- the file ends before its last line was taken
pub cut_off : (rest : List ℕ) (number : ℕ) (draft : Draft) → IsPartOfLine rest → has_ended draft.section ≡ false
    → lines_in number draft (text_lines rest) ≡ Err (fault_at number Cut)
cut_off rest number draft part going =
    ap (lines_in number draft) part.unended ∙ rw (going, lt-leb 1025 (length rest) (omega (arith, part.short))) refl
