-- A line that has a fault, which is handed on.
use Rattle.std.proofs.Common.{◌≡◌, List, ℕ, Option, Result, Ok, Err, IsErrAnd, Bor, sym, subst}
use Rattle.text_job.specs.Draft.{draft_of}
use Rattle.text_job.specs.Takes.{HasTakenLine}
use Rattle.text_job.specs.declared.draft.Draft.{Draft}
use Rattle.text_job.specs.Reading.{IsFaultOfLine}
use Rattle.text_job.specs.declared.faults.LineError.{LineError}

-- the line's fault is what is answered of it
pub line_refused : (old new : Draft) (text : List ℕ) (result : Result (Option (Bor (List ℕ))) LineError) (fault : LineError)
    → IsErrAnd result (λ handed. handed ≡ fault) → IsFaultOfLine (draft_of old) text fault → HasTakenLine old new text result
line_refused old new text (Ok next) fault handed found = absurd handed
line_refused old new text (Err kept) fault handed found =
    record { draft = tt; shorter = tt; ok = tt; part = tt; err = subst (IsFaultOfLine (draft_of old) text) (sym handed) found }
