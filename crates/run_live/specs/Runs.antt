-- The output of a session for a text: the answers to its lines.
use Rattle.std.specs.Prelude.{◌≡◌, ◌⊎◌, ◌^◌, ◌≤◌, ◌+◌, ℕ, Bool, true, false, ◌||◌, if◌then◌else◌, List, [], ◌∷◌, ◌++◌, Option, codes, length}
use Rattle.std.specs.Io.KnownBytes.{Appends, Consumes, IsAtEnd}
use Rattle.model_jobs.specs.JobFiles.{are_same}
use Rattle.model_jobs.specs.Jobs.{State, initial_state}
use Rattle.model_jobs.specs.Texts.{ended}
use Rattle.text_fields.specs.KeptLines.{IsKept, rest_fault}
use Rattle.text_job.specs.Lines.{text_lines}
use Rattle.text_devices.specs.Transfer.{AppendsBeginning}
use Rattle.run_live.specs.Answers.{fault_text, told}
use Rattle.run_live.specs.Sessions.{IsSession, job_of, sizes_of, state_of}
use Rattle.run_live.specs.declared.session.Session.{Session}
use Rattle.run_live.specs.declared.sizes.Sizes.{Sizes}

-- the output for the bytes after the last line end: a fault, or nothing if there are no bytes
abbrev pub told_rest : List ℕ → List ℕ
told_rest [] = []
told_rest (byte ∷ bytes) = ended (fault_text (rest_fault 1024 (byte ∷ bytes)))

-- whether the line is `end`, which ends a session
abbrev pub is_end : List ℕ → Bool
is_end line = are_same line (codes "end")

-- the output for the lines of a text, in order, up to the line `end`. The last element isn't a line: it is the bytes
-- after the last line end
abbrev pub told_lines : Sizes → State → List (List ℕ) → List ℕ
told_lines sizes state [] = []
told_lines sizes state (rest ∷ []) = told_rest rest
told_lines sizes state (line ∷ next ∷ lines) =
    if is_end line then []
    else (let first = told sizes state line in ended first.text ++ told_lines sizes first.state (next ∷ lines))

-- the output of a session of these sizes for this text
abbrev pub live_output : Sizes → List ℕ → List ℕ
live_output sizes text = told_lines sizes (initial_state (job_of sizes)) (text_lines text)

-- whether the line `end` is among these lines. The last element isn't a line: it is the bytes after the last line end
abbrev pub have_end : List (List ℕ) → Bool
have_end [] = false
have_end (rest ∷ []) = false
have_end (line ∷ next ∷ lines) = is_end line || have_end (next ∷ lines)

-- a session read this text and wrote its output. The text goes to the input's end, contains the line `end`, or has at
-- least 2^64 - 1 bytes
pub record HasLived (sizes : Sizes) (left left' written written' : Option (List ℕ)) : Type 0 where
  pub text : List ℕ
  pub taken : Consumes left left' text
  pub whole : (IsAtEnd left' ⊎ (have_end (text_lines text) ≡ true)) ⊎ (2 ^ 64 ≤ length text + 1)
  pub wrote : Appends written written' (live_output sizes text)

-- a session was stopped by an error: it read some beginning of its input, and wrote a beginning of the output for it
pub record HasStopped (sizes : Sizes) (left written written' : Option (List ℕ)) : Type 0 where
  pub text : List ℕ
  pub rest : Option (List ℕ)
  pub taken : Consumes left rest text
  pub wrote : AppendsBeginning written written' (live_output sizes text)

-- the output of a session for a text, if these bytes of the text's first line were taken before. If the line `end` was
-- taken, there is no more output. The next definition is whether the line `end` was taken or is in the text
abbrev pub told_on : Bool → Session → List ℕ → List ℕ → List ℕ
told_on true session begun text = []
told_on false session begun text = told_lines (sizes_of session) (state_of session) (text_lines (begun ++ text))

abbrev pub ends_on : Bool → List ℕ → List ℕ → Bool
ends_on true begun text = true
ends_on false begun text = have_end (text_lines (begun ++ text))

-- a session that had taken the beginning `begun` of a line took these bytes and wrote their output. If `over` is true,
-- the session took the line `end`. Otherwise it took the beginning `begun'` of a line, of which `kept` is kept.
-- Whatever follows, the whole output is the written output and then the output from here on
pub record HasTaken (over : Bool) (old new : Session) (begun kept bytes : List ℕ) (written written' : Option (List ℕ)) : Type 0 where
  pub sound : IsSession new
  pub sizes : sizes_of new ≡ sizes_of old
  pub wrote : List ℕ
  pub appended : Appends written written' wrote
  pub begun' : List ℕ
  pub is_kept : IsKept kept begun'
  pub tells : (more : List ℕ) → told_on false old begun (bytes ++ more) ≡ wrote ++ told_on over new begun' more
  pub ends : (more : List ℕ) → ends_on false begun (bytes ++ more) ≡ ends_on over begun' more

-- `HasTaken` holds for every beginning `begun` of a line of which `kept` is kept
abbrev pub Takes : Bool → Session → Session → List ℕ → List ℕ → List ℕ → Option (List ℕ) → Option (List ℕ) → Type 0
Takes over old new kept kept' bytes written written' = (begun : List ℕ) → IsKept kept begun → HasTaken over old new begun kept' bytes written written'

-- if `kept` is kept of the beginning of a line, `kept'` is kept of that beginning with this byte added
abbrev pub Keeps : List ℕ → ℕ → List ℕ → Type 0
Keeps kept byte kept' = (begun : List ℕ) → IsKept kept begun → IsKept kept' (begun ++ byte ∷ [])

-- a session took this text: up to the line `end`, up to the input's end, or at least 2^64 - 1 bytes. `kept` is kept of
-- the bytes after the last line end
pub record HasFed (over : Bool) (old new : Session) (kept : List ℕ) (left left' written written' : Option (List ℕ)) : Type 0 where
  pub text : List ℕ
  pub taken : Consumes left left' text
  pub whole : over ≡ false → IsAtEnd left' ⊎ (2 ^ 64 ≤ length text + 1)
  pub told : HasTaken over old new [] kept text written written'

-- a session was stopped while it took these bytes: whatever follows the bytes, a beginning of the output for all of
-- this was written
abbrev pub IsStopped : Session → List ℕ → List ℕ → Option (List ℕ) → Option (List ℕ) → Type 0
IsStopped session kept bytes written written' =
    (begun : List ℕ) → IsKept kept begun → (more : List ℕ) → AppendsBeginning written written' (told_on false session begun (bytes ++ more))

-- a session was stopped after it took some beginning of its input, and a beginning of the output for this input was
-- written
pub record IsFedPart (session : Session) (left written written' : Option (List ℕ)) : Type 0 where
  pub text : List ℕ
  pub rest : Option (List ℕ)
  pub taken : Consumes left rest text
  pub wrote : AppendsBeginning written written' (told_on false session [] text)
