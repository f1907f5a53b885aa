-- The calls of the history that a device gives.
use Rattle.std.specs.Prelude.{◌≡◌, ◌⊎◌, ℕ, ◌+◌, true, if◌then◌else◌, nat_eq, List, [], ◌∷◌, ◌++◌, Option, Some, None, Result, Ok, Err, length}
use Rattle.std.specs.Io.KnownBytes.{Consumes, IsAtEnd}
use Rattle.model_intervals.specs.Intervals.{Call}
use Rattle.model_jobs.specs.JobFiles.{fault_at}
use Rattle.model_words.specs.declared.faults.FaultKind.{FaultKind}
use Rattle.model_words.specs.declared.faults.TextFault.{TextFault}
use Rattle.text_devices.specs.LineInputs.{HasCome as LinesCome, IsFresh as IsFreshInput, lines_of}
use Rattle.history_reading.specs.CallOrders.{IsOrderOf}
use Rattle.history_reading.specs.CallReadings.{CallFault, CallLine, CallReading, Head, OfCall, OfText, OutOfOrder, calls_from, calls_of, is_in_order, next_in}
use Rattle.history_reading.specs.CallWords.{plain_call}
use Rattle.history_reading.specs.declared.faults.CallError.{CallError}
use Rattle.history_reading.specs.declared.faults.CallError.TheVariants.{Text, Order, Read, Memory}
use Rattle.history_reading.specs.declared.call_inputs.CallInput.{CallInput}
use Rattle.history_reading.specs.declared.words.TimedCall.{TimedCall}

-- the number of lines of a history that were read
abbrev pub lines_before : CallInput → ℕ
lines_before history = lines_of history.lines

-- the number of the next call's line: line 1 is the head
abbrev pub next_line : CallInput → ℕ
next_line history = if nat_eq (lines_before history) 0 then 2 else lines_before history + 1

-- nothing was read yet
pub record IsFresh (history : CallInput) : Type 0 where
  pub lines : IsFreshInput history.lines
  pub order : IsOrderOf history.order []

-- these lines are read as these calls without a fault, whatever lines follow
pub record AreRead (lines : List (List ℕ)) (calls : List Call) : Type 0 where
  pub reads : (next : List ℕ) (later : List (List ℕ)) → calls_from 0 [] (lines ++ next ∷ later) ≡ calls_from (length lines) calls (next ∷ later)

-- these calls were read of what the device gave: its lines so far are read as these calls, whatever follows
pub record HasCome (history : CallInput) (left left' : Option (List ℕ)) (calls : List Call) : Type 0 where
  pub lines : List (List ℕ)
  pub come : LinesCome history.lines left left' lines
  pub read : AreRead lines calls
  pub line : next_line history ≡ length calls + 2
  pub order : IsOrderOf history.order calls

-- `call` was read after these calls, and is in order
pub record HasNext (history : CallInput) (left left' : Option (List ℕ)) (calls : List Call) (call : TimedCall) : Type 0 where
  pub come : HasCome history left left' (calls ++ plain_call call ∷ [])
  pub in_order : is_in_order calls (plain_call call) ≡ true
  pub line : lines_before history ≡ length calls + 2

-- the device gave a text with this reading: either whatever follows, or because the input ended there
pub record HasRead (left left' : Option (List ℕ)) (reading : CallReading) : Type 0 where
  pub text : List ℕ
  pub taken : Consumes left left' text
  pub is_read : ((more : List ℕ) → calls_of (text ++ more) ≡ reading) ⊎ ((calls_of text ≡ reading) × IsAtEnd left')

-- the input ended after these calls, and its text has no fault
pub record HasEnded (history : CallInput) (left left' : Option (List ℕ)) (calls : List Call) : Type 0 where
  pub text : List ℕ
  pub taken : Consumes left left' text
  pub at_end : IsAtEnd left'
  pub is : calls_of text ≡ record { calls = calls; fault = None }
  pub lines : lines_before history ≡ length calls + 1

-- why no call follows these: the text has this fault. If the input or an allocation failed, nothing is claimed
abbrev pub HasStopped : Option (List ℕ) → Option (List ℕ) → List Call → CallError → Type 0
HasStopped left left' calls (Text fault) = HasRead left left' (record { calls = calls; fault = Some (OfText fault) })
HasStopped left left' calls (Order line) = HasRead left left' (record { calls = calls; fault = Some (OutOfOrder line) })
HasStopped left left' calls Read = Unit {0}
HasStopped left left' calls Memory = Unit {0}

-- ---- the steps of a read

-- the error is the fault that the reading of a line returned, or an allocation failed
abbrev pub IsFaultOf : Result CallLine CallFault → CallError → Type 0
IsFaultOf read (Text fault) = read ≡ Err (OfText fault)
IsFaultOf read (Order line) = read ≡ Err (OutOfOrder line)
IsFaultOf read Memory = Unit {0}
IsFaultOf read Read = ⊥

-- the reading of the line with this number returned this fault
pub record IsFaultAt {A : Type 0} (number : ℕ) (read : Result A FaultKind) (fault : TextFault) : Type 0 where
  pub kind : FaultKind
  pub is : read ≡ Err kind
  pub same : fault ≡ fault_at number kind

-- the error is the fault that the reading of the line with this number returned
abbrev pub IsFaultIn : {A : Type 0} → ℕ → Result A FaultKind → CallError → Type 0
IsFaultIn number read (Text fault) = IsFaultAt number read fault
IsFaultIn number read error = ⊥

-- why no call was read in the line with this number: its fault, or an allocation failed
abbrev pub IsUnreadIn : {A : Type 0} → ℕ → Result A FaultKind → CallError → Type 0
IsUnreadIn number read (Text fault) = IsFaultAt number read fault
IsUnreadIn number read Memory = Unit {0}
IsUnreadIn number read error = ⊥

-- what a line after `lines` lines and these calls is read as: the head, a call in order, which the new order includes,
-- or a fault. `Memory` claims nothing
abbrev pub IsTaken : CallInput → ℕ → List Call → List ℕ → Result (Option TimedCall) CallError → Type 0
IsTaken new lines calls line (Ok None) = (next_in lines calls line ≡ Ok Head) × IsOrderOf new.order calls
IsTaken new lines calls line (Ok (Some call)) =
    (next_in lines calls line ≡ Ok (OfCall (plain_call call))) × (is_in_order calls (plain_call call) ≡ true)
    × IsOrderOf new.order (calls ++ plain_call call ∷ [])
IsTaken new lines calls line (Err error) = IsFaultOf (next_in lines calls line) error
