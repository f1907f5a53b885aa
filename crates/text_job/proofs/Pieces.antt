-- A file that is read in pieces.
use Rattle.std.proofs.Common.{◌≡◌, ℕ, ◌+◌, ◌-◌, ◌≤◌, List, ◌++◌, Option, length, take, drop, ap, append_assoc, sym, subst, ◌∙◌, arith, Result, Ok, Err, IfErr, IsErrAnd}
use Rattle.std.proofs.KnownBytes.{Consumes-trans}
use Rattle.std.proofs.lemmas.List.{drop-take, length-append, length-drop, take-append-drop, take-append-le}
use Rattle.std.proofs.Math.Seq.{drop-append_seam, take-add, take-append_seam}
use Rattle.std.proofs.lemmas.List.Edits.{take-paste}
use Rattle.std.specs.Io.KnownBytes.{Consumes, IsAtEnd}
use Rattle.std.specs.List.{copy_within}
use Rattle.model_jobs.specs.JobFiles.{read_text}
use Rattle.model_jobs.specs.Jobs.{Job}
use Rattle.text_job.specs.Faults.{IsReadFault}
use Rattle.text_job.specs.Taken.{HasTaken}
use Rattle.text_fields.specs.declared.faults.ReadFault.{ReadFault}
use Rattle.text_fields.specs.declared.faults.ReadFault.TheVariants.{Text as ReadText, Memory as ReadMemory}
use Rattle.text_job.specs.declared.reader.Reading.{Reading}
use Rattle.text_devices.specs.Faults.{replay_error_of}
use Rattle.text_job.specs.Read.{HasReadInto, HasReadJob, HasReadNoJob, IsHeld}
use Rattle.text_devices.specs.declared.faults.ReplayError.{ReplayError}

-- what was held behind the bytes that were taken is moved to the front
moved_front : (buffer : List ℕ) (taken held : ℕ) → taken ≤ held → held ≤ length buffer
    → take (held - taken) (copy_within buffer taken held 0) ≡ drop taken (take held buffer)
moved_front buffer taken held some within =
    let room : held - taken ≤ length (drop taken buffer) = omega (arith, within, length-drop taken buffer) in
    ap (λ (n : ℕ). take n (copy_within buffer taken held 0)) (omega arith) ∙ take-paste buffer 0 (drop taken buffer) (held - taken) (omega arith) room
    ∙ sym (ap (λ (n : ℕ). drop taken (take n buffer)) (sym (omega (arith, some))) ∙ drop-take taken (held - taken) buffer)

-- a reading that took more of what is held
pub held_on : (old new : Reading) (buffer text : List ℕ) (taken held : ℕ) → taken ≤ held → held ≤ length buffer → IsHeld old (take held buffer) text
    → ((before : List ℕ) → HasTaken old before → HasTaken new (before ++ take taken (take held buffer)))
    → IsHeld new (take (held - taken) (copy_within buffer taken held 0)) text
held_on old new buffer text taken held some within before on = record {
  taken = before.taken ++ take taken (take held buffer);
  all =
      before.all ∙ ap (λ (bytes : List ℕ). before.taken ++ bytes) (sym (take-append-drop taken (take held buffer)))
      ∙ sym (append_assoc before.taken (take taken (take held buffer)) (drop taken (take held buffer)))
      ∙ ap (λ (bytes : List ℕ). (before.taken ++ take taken (take held buffer)) ++ bytes) (sym (moved_front buffer taken held some within));
  has_taken = on before.taken before.has_taken;
}

-- so many bytes were read from the input, of which a reading has taken all but these last ones
pub record HasCounted (left left' : Option (List ℕ)) (reading : Reading) (held : List ℕ) (count : ℕ) : Type 0 where
  pub text : List ℕ
  pub taken : Consumes left left' text
  pub counted : length text ≡ count
  pub is_held : IsHeld reading held text

-- what was read stands behind what was held
held_more : (reading : Reading) (held text part : List ℕ) → IsHeld reading held text → IsHeld reading (held ++ part) (text ++ part)
held_more reading held text part before = record {
  taken = before.taken;
  all = ap (λ (bytes : List ℕ). bytes ++ part) before.all ∙ append_assoc before.taken held part;
  has_taken = before.has_taken;
}

-- a call that read more, of which the reading took what it could
pub counted_on : (a b c : Option (List ℕ)) (old new : Reading) (held part all left : List ℕ) (count more : ℕ) → HasCounted a b old held count
    → Consumes b c part → length part ≡ more → all ≡ held ++ part → ((text : List ℕ) → IsHeld old all text → IsHeld new left text)
    → HasCounted a c new left (count + more)
counted_on a b c old new held part all left count more before read len is on = record {
  text = before.text ++ part;
  taken = Consumes-trans a b c before.text part before.taken read;
  counted = omega (arith, before.counted, len, length-append before.text part);
  is_held = on (before.text ++ part) (subst (λ (bytes : List ℕ). IsHeld old bytes (before.text ++ part)) (sym is) (held_more _ _ _ _ before.is_held));
}

-- a call that read nothing, so the input is at its end
pub read_to_end : (a b c : Option (List ℕ)) (reading : Reading) (held part : List ℕ) (count more : ℕ) → HasCounted a b reading held count → Consumes b c (take more part)
    → more ≡ 0 → IsAtEnd c → HasReadInto a c reading held
read_to_end a b c reading held part count more before read none end = grind arith

-- a list of which some elements behind a front were written
pub front_and_part : (front part behind : List ℕ) (place more : ℕ) → length front ≡ place → more ≤ length part
    → take (place + more) (front ++ (part ++ behind)) ≡ front ++ take more part
front_and_part front part behind place more is within = grind (arith, take-add, take-append_seam, drop-append_seam, take-append-le)

-- the job of the text that was read
pub job_read : (left left' : Option (List ℕ)) (reading : Reading) (held : List ℕ) (job : Job) → HasReadInto left left' reading held
    → ((text : List ℕ) → HasTaken reading text → read_text (text ++ held) ≡ Ok job) → HasReadJob left left' job
job_read left left' reading held job into is = grind arith

-- the fault of the text that was read, whose last bytes are in a vector's slice
pub no_job_read : (left left' : Option (List ℕ)) (reading : Reading) (buffer items slice : List ℕ) (held len : ℕ) (fault : ReadFault) (result : Result Job ReplayError)
    → slice ≡ take len (buffer ++ drop (length buffer) items) → len ≡ length buffer → HasReadInto left left' reading (take held buffer)
    → ((text : List ℕ) → HasTaken reading text → IsReadFault (text ++ take held slice) fault) → IsErrAnd result (λ error. error ≡ replay_error_of fault)
    → IfErr result (HasReadNoJob left left')
no_job_read left left' reading buffer items slice held len fault (Ok job) is many into faulty gives = tt
no_job_read left left' reading buffer items slice held len ReadMemory (Err error) is many into faulty gives = subst (HasReadNoJob left left') (sym gives) tt
no_job_read left left' reading buffer items slice held len (ReadText fault) (Err error) is many into faulty gives = grind (arith, take-append_seam)
