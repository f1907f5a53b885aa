-- Overlapping calls as a history, in an order that explains them.
use Rattle.std.specs.Prelude.{◌≡◌, ◌<◌, ◌≤◌, ◌-◌, ◌^◌, ◌⊎◌, ℕ, List, Option, Some, None, length, map}
use Rattle.std.specs.Io.KnownBytes.{Consumes, IsAtEnd}
use Rattle.std.specs.List.{All}
use Rattle.model_intervals.specs.Completions.{never}
use Rattle.model_intervals.specs.Intervals.{Call, Explains}
use Rattle.model_intervals.specs.OverlappingCalls.{IsAt}
use Rattle.history_object.specs.declared.faults.JudgeFault.{JudgeFault}
use Rattle.history_object.specs.declared.faults.JudgeFault.TheVariants.{Memory as OutOfMemory, TooMany, TooManyPending}
use Rattle.history_reading.specs.CallInputs.{HasCome, HasStopped}
use Rattle.history_reading.specs.CallReadings.{CallFault, calls_of}
use Rattle.history_reading.specs.CallWords.{IsReadCall, plain_call}
use Rattle.history_reading.specs.declared.faults.CallError.{CallError}
use Rattle.history_reading.specs.declared.call_inputs.CallInput.{CallInput}
use Rattle.history_reading.specs.declared.words.TimedCall.{TimedCall}
use Rattle.history_overlaps.specs.Checks.{IsLinearizableText}
use Rattle.history_overlaps.specs.Followed.{IsStopped}
use Rattle.history_overlaps.specs.OrderTexts.{ordered_text}
use Rattle.history_overlaps.specs.OwnOrders.{BeginInOrder}
use Rattle.history_judge.specs.declared.order_faults.OrderFault.{OrderFault}
use Rattle.history_judge.specs.declared.order_faults.OrderFault.TheVariants.{Undecided, Memory as NoMemory}

-- the text has no fault, and these are its calls, each in its ranges
pub record AreCallsOf (text : List ℕ) (calls : List TimedCall) : Type 0 where
  pub reading : calls_of text ≡ record { calls = map plain_call calls; fault = None }
  pub are_read : All IsReadCall calls
  pub in_order : BeginInOrder (map plain_call calls)

-- these calls, each in its ranges, were read of what the device gave so far
pub record HaveComeSoFar (history : CallInput) (left left' : Option (List ℕ)) (calls : List TimedCall) : Type 0 where
  pub come : HasCome history left left' (map plain_call calls)
  pub are_read : All IsReadCall calls
  pub in_order : BeginInOrder (map plain_call calls)

-- the device is at its end and gave a text without a fault, and these are the text's calls
pub record HaveCome (left left' : Option (List ℕ)) (calls : List TimedCall) : Type 0 where
  pub text : List ℕ
  pub taken : Consumes left left' text
  pub at_end : IsAtEnd left'
  pub are : AreCallsOf text calls

-- the text has no fault, none of its calls was pending when the recording stopped, and the history consists of its
-- calls in an order that explains them
pub record IsOrderedHistory (text history : List ℕ) : Type 0 where
  pub calls : List Call
  pub reading : calls_of text ≡ record { calls = calls; fault = None }
  pub in_time : All (λ call. call.end < never) calls
  pub order : List Call
  pub explains : Explains calls order
  pub is : history ≡ ordered_text order

-- a call of the text was pending when the recording stopped
abbrev pub HasPending : List ℕ → Type 0
HasPending text = (place : ℕ) × (call : Call) × IsAt (calls_of text).calls place call × (call.end ≡ never)

-- why the calls of a text have no order: one of them was pending when the recording stopped, or the text has a fault,
-- or its calls are no history or no order explains them
abbrev pub IsWithoutOrder : List ℕ → Type 0
IsWithoutOrder text = HasPending text ⊎ ((entries : ℕ) → IsLinearizableText text entries → ⊥)

-- the text has a fault, or one of its calls is out of order
abbrev pub HasFault : List ℕ → Type 0
HasFault text = (fault : CallFault) × ((calls_of text).fault ≡ Some fault)

-- the reading stopped for this reason after some calls
abbrev pub HasStoppedSomewhere : Option (List ℕ) → Option (List ℕ) → CallError → Type 0
HasStoppedSomewhere left left' error = (calls : List Call) × HasStopped left left' calls error

-- why no order was found, if the judge of an object stopped for this reason
abbrev pub order_fault_of : JudgeFault → OrderFault
order_fault_of OutOfMemory = NoMemory
order_fault_of fault = Undecided

-- why it isn't known whether some order explains the text's calls. The text has no fault, and has 2^32 - 1 calls or
-- more, or the judge of the accesses to some object stops. An allocation failure claims nothing
abbrev pub HasNoAnswer : List ℕ → ℕ → OrderFault → Type 0
HasNoAnswer text most Undecided = (calls : List Call) × (calls_of text ≡ record { calls = calls; fault = None })
    × ((2 ^ 32 - 1 ≤ length calls) ⊎ IsStopped calls most TooMany ⊎ IsStopped calls most TooManyPending)
HasNoAnswer text most NoMemory = Unit {0}
