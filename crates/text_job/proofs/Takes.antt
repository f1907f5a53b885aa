-- A reading that goes on, line by line and piece by piece.
use Rattle.std.proofs.Common.{◌≡◌, ℕ, ◌+◌, ◌-◌, ◌≤◌, true, false, List, [], ◌∷◌, ◌++◌, Option, Some, None, Ok, Err, length, take, drop, ap, append-nil, append_assoc, refl, sym, subst, ◌∙◌, arith, inl, inr}
use Rattle.std.proofs.Math.Seq.{drop-append_seam, take-append_seam}
use Rattle.std.proofs.lemmas.Bool.{lt-leb, true≢false}
use Rattle.std.proofs.lemmas.Bool.Decides.{leb_tells}
use Rattle.std.proofs.lemmas.List.{length-append, take-append-drop}
use Rattle.model_jobs.specs.JobFiles.{blank_draft, fault_at, has_ended, job_of, lines_in, read_text}
use Rattle.model_words.specs.declared.faults.FaultKind.TheVariants.{Cut}
use Rattle.model_words.specs.declared.faults.TextFault.{TextFault}
use Rattle.text_fields.specs.Lines.{text_lines}
use Rattle.text_job.specs.Draft.{draft_of}
use Rattle.text_job.specs.Reading.{IsReadOn}
use Rattle.text_job.specs.Taken.{HasTaken, IsLeft, IsReadTo, IsReading, read_behind, reads_on}
use Rattle.text_job.specs.declared.reader.Reading.{Reading}
use Rattle.text_job.proofs.FileEnds.{at_end, cut_off}

-- a reading of which no fault is known
behind_no_fault : (r : Reading) (more : List ℕ) → r.fault ≡ None → read_behind r more ≡ lines_in r.number (draft_of r.draft) (text_lines more)
behind_no_fault r more sound = ap (λ (fault : Option TextFault). reads_on fault r.number (draft_of r.draft) more) sound

-- a reading of which a fault is known
behind_fault : (r : Reading) (fault : TextFault) (more : List ℕ) → r.fault ≡ Some fault → read_behind r more ≡ Err fault
behind_fault r fault more found = ap (λ (known : Option TextFault). reads_on known r.number (draft_of r.draft) more) found

-- before any line
pub none_read : (r : Reading) (bytes : List ℕ) → IsReadTo r bytes r bytes
none_read r bytes = record { taken = []; whole = refl; reads = λ more. refl }

-- a reading that leaves nothing
pub all_read : (old new : Reading) (bytes rest : List ℕ) → IsReadTo old bytes new rest → length rest ≤ 0 → IsReadTo old bytes new []
all_read old new bytes [] on none = on
all_read old new bytes (b ∷ bs) on none = absurd (omega (arith, none))

-- one line more
pub line_read : (old mid new : Reading) (bytes rest behind : List ℕ) → IsReadTo old bytes mid rest → mid.fault ≡ None → new.fault ≡ None
    → new.number ≡ mid.number + 1 → IsReadOn (draft_of mid.draft) rest (draft_of new.draft) behind → IsReadTo old bytes new behind
line_read old mid new bytes rest behind so_far sound sound' next on = record {
  taken = so_far.taken ++ on.taken;
  whole = so_far.whole ∙ ap (λ (left : List ℕ). so_far.taken ++ left) on.whole ∙ sym (append_assoc so_far.taken on.taken behind);
  reads = λ more.
      ap (read_behind old) (append_assoc so_far.taken on.taken more) ∙ so_far.reads (on.taken ++ more)
      ∙ behind_no_fault mid (on.taken ++ more) sound ∙ on.reads mid.number more
      ∙ ap (λ (number : ℕ). lines_in number (draft_of new.draft) (text_lines more)) (sym next) ∙ sym (behind_no_fault new more sound');
}

-- a fault is found, and nothing is left
pub fault_read : (old mid new : Reading) (fault : TextFault) (bytes rest : List ℕ) → IsReadTo old bytes mid rest → mid.fault ≡ None → new.fault ≡ Some fault
    → ((more : List ℕ) → lines_in mid.number (draft_of mid.draft) (text_lines (rest ++ more)) ≡ Err fault) → IsReadTo old bytes new []
fault_read old mid new fault bytes rest so_far sound found told = record {
  taken = bytes;
  whole = sym (append-nil bytes);
  reads = λ more.
      ap (λ (all : List ℕ). read_behind old (all ++ more)) so_far.whole ∙ ap (read_behind old) (append_assoc so_far.taken rest more)
      ∙ so_far.reads (rest ++ more) ∙ behind_no_fault mid (rest ++ more) sound ∙ told more ∙ sym (behind_fault new fault more found);
}

-- the bytes that were taken, and those that are left
pub record IsCut (bytes taken left : List ℕ) (count : ℕ) : Type 0 where
  pub front : take count bytes ≡ taken
  pub back : drop count bytes ≡ left

pub cut_at : (bytes taken left : List ℕ) → bytes ≡ taken ++ left → IsCut bytes taken left (length bytes - length left)
cut_at bytes taken left is = grind (arith, length-append taken left, take-append_seam taken left, drop-append_seam taken left)

-- a text was taken, and then these bytes
pub taken_more : (old new : Reading) (text bytes left : List ℕ) → HasTaken old text → IsReadTo old bytes new left → IsReading new
    → new.taken ≡ old.taken + (length bytes - length left) → HasTaken new (text ++ take (length bytes - length left) bytes)
taken_more old new text bytes left before on sound count =
    let len : length bytes ≡ length on.taken + length left = ap (λ (xs : List ℕ). length xs) on.whole ∙ length-append on.taken left in
    subst (λ (part : List ℕ). HasTaken new (text ++ part)) (sym (cut_at bytes on.taken left on.whole).front) (record {
      sound = sound;
      count = omega (arith, count, before.count, len, length-append text on.taken);
      reads = λ more.
          ap (λ (all : List ℕ). lines_in 1 blank_draft (text_lines all)) (append_assoc text on.taken more) ∙ before.reads (on.taken ++ more) ∙ on.reads more;
    })

-- a file that isn't too long is read line by line
short_file : (bytes : List ℕ) → length bytes ≤ 1048576 → read_text bytes ≡ lines_in 1 blank_draft (text_lines bytes)
short_file bytes short = rw (lt-leb 1048577 (length bytes) (omega (arith, short))) refl

-- a file is read to what its reading comes to, with the bytes that were left of the last ones
file_read : (r : Reading) (text rest : List ℕ) (count : ℕ) → length (text ++ rest) ≤ 1048576 → HasTaken r (text ++ take count rest)
    → read_text (text ++ rest) ≡ read_behind r (drop count rest)
file_read r text rest count short taken =
    let all : text ++ rest ≡ (text ++ take count rest) ++ drop count rest =
    ap (λ (behind : List ℕ). text ++ behind) (sym (take-append-drop count rest)) ∙ sym (append_assoc text (take count rest) (drop count rest)) in
    short_file (text ++ rest) short ∙ ap (λ (bytes : List ℕ). lines_in 1 blank_draft (text_lines bytes)) all ∙ taken.reads (drop count rest)

-- the file's fault
pub file_fault : (r : Reading) (text rest : List ℕ) (count : ℕ) (fault : TextFault) → length (text ++ rest) ≤ 1048576 → HasTaken r (text ++ take count rest)
    → r.fault ≡ Some fault → read_text (text ++ rest) ≡ Err fault
file_fault r text rest count fault short taken found = file_read r text rest count short taken ∙ behind_fault r fault (drop count rest) found

-- the file that ends before its last line was taken
pub file_cut : (r : Reading) (text rest : List ℕ) (count : ℕ) → length (text ++ rest) ≤ 1048576 → HasTaken r (text ++ take count rest)
    → r.fault ≡ None → IsLeft r (drop count rest) → has_ended (draft_of r.draft).section ≡ false → read_text (text ++ rest) ≡ Err (fault_at r.number Cut)
file_cut r text rest count short taken sound left going = file_read _ _ _ _ short taken ∙ behind_no_fault r _ sound ∙ cut_off _ _ _ left.part going

-- the file that ends with its last line
pub file_ended : (r : Reading) (text rest : List ℕ) (count : ℕ) → length (text ++ rest) ≤ 1048576 → HasTaken r (text ++ take count rest)
    → r.fault ≡ None → IsLeft r (drop count rest) → has_ended (draft_of r.draft).section ≡ true → read_text (text ++ rest) ≡ Ok (job_of (draft_of r.draft))
file_ended r text rest count short taken sound left ended =
    let none : length (drop count rest) ≤ 0 = elim (leb_tells 1 (length (drop count rest))) [
      | inl some ↦ absurd (true≢false (sym ended ∙ left.going some.1))
      | inr none ↦ omega (arith, none.1)
    ] in
    file_read r text rest count short taken ∙ behind_no_fault r (drop count rest) sound ∙ at_end (drop count rest) r.number (draft_of r.draft) none ended
