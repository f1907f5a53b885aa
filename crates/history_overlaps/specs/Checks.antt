-- What is found of the text of a history of overlapping calls.
use Rattle.std.specs.Prelude.{◌≡◌, ◌⊎◌, ℕ, ◌+◌, ◌<◌, ◌≤◌, List, [], ◌∷◌, ◌++◌, Option, Some, None, Result, Ok, length, ◌≢◌, ◌^◌, Err}
use Rattle.std.specs.Io.KnownBytes.{Consumes, IsAtEnd}
use Rattle.model_intervals.specs.Completions.{EndsInTime, HasCompletion, IsFirstWrong, never}
use Rattle.model_intervals.specs.Intervals.{Call}
use Rattle.model_intervals.specs.OverlappingCalls.{IsAt, IsHistory}
use Rattle.history_object.specs.declared.faults.JudgeFault.TheVariants.{Memory as NoMemory}
use Rattle.history_reading.specs.CallInputs.{HasCome, HasRead}
use Rattle.history_reading.specs.CallReadings.{OfText, OutOfOrder, calls_of}
use Rattle.history_reading.specs.declared.faults.CallError.{CallError}
use Rattle.history_reading.specs.declared.faults.CallError.TheVariants.{Text, Order, Read, Memory}
use Rattle.history_reading.specs.declared.call_inputs.CallInput.{CallInput}
use Rattle.history_overlaps.specs.Ends.{EndsAheadOf, Past}
use Rattle.history_overlaps.specs.Flaws.{IsFlawAt}
use Rattle.history_overlaps.specs.Lives.{NoneGoesOn}
use Rattle.history_overlaps.specs.Misuses.{IsMisusedAt}
use Rattle.history_overlaps.specs.Standing.{Stands, lives_of, waits_of}
use Rattle.history_overlaps.specs.Timelines.{FewOpen}
use Rattle.history_overlaps.specs.Undecided.{IsUndecidedText}
use Rattle.history_overlaps.specs.declared.flaws.Flaw.{Flaw}
use Rattle.history_overlaps.specs.declared.misuses.Misuse.{Misuse}
use Rattle.history_overlaps.specs.declared.stops.Stop.{Stop}
use Rattle.history_overlaps.specs.declared.timeline.Timeline.{Timeline}
use Rattle.history_overlaps.specs.declared.verdicts.CallVerdict.{CallVerdict}
use Rattle.history_overlaps.specs.declared.verdicts.CallVerdict.TheVariants.{Linearizable, Misused, Flawed, Undecided}

-- ---- verdicts

-- the text has no fault, and its calls, `entries` in number, are a history that can be completed: some order explains
-- the calls that ended, with some of those that were pending when the recording stopped
pub record IsLinearizableText (text : List ℕ) (entries : ℕ) : Type 0 where
  pub calls : List Call
  pub reading : calls_of text ≡ record { calls = calls; fault = None }
  pub many : length calls ≡ entries
  pub history : IsHistory calls
  pub completed : HasCompletion calls (EndsInTime calls)

-- the calls of a text, up to its first fault, are no history, or they can't be completed: no order explains those that
-- ended, with any of those that were pending when the recording stopped
abbrev pub IsUnexplainedText : List ℕ → Type 0
IsUnexplainedText text = IsHistory (calls_of text).calls → HasCompletion (calls_of text).calls (EndsInTime (calls_of text).calls) → ⊥

-- the calls are the first ones of the text
abbrev pub AreFirstCalls : List Call → List ℕ → Type 0
AreFirstCalls calls text = (later : List Call) × ((calls_of text).calls ≡ calls ++ later)

-- the call at this place ended before some call began
abbrev pub EndedBeforeOne : List Call → ℕ → Type 0
EndedBeforeOne calls i = (a b : Call) × (j : ℕ) × IsAt calls i a × IsAt calls j b × (a.end < b.begin)

-- the call in this line breaks this rule of use, among the first calls of the text that was read. The calls of no text
-- that begins so are a history. The rule is found broken when the last of these calls begins; those that ended before
-- some call began can be completed, so none of them is wrong
pub record IsMisusedText (text : List ℕ) (line : ℕ) (misuse : Misuse) : Type 0 where
  pub calls : List Call
  pub number : ℕ
  pub in_line : line ≡ number + 2
  pub misused : IsMisusedAt calls number misuse
  pub completed : HasCompletion calls (EndedBeforeOne calls)
  pub first : (more : List ℕ) → AreFirstCalls calls (text ++ more)
  pub none : (more : List ℕ) → IsHistory (calls_of (text ++ more)).calls → ⊥

-- these are the first calls of the text, and the calls of the text, up to its first fault, can't be completed
abbrev pub IsUnexplainedFrom : List Call → List ℕ → Type 0
IsUnexplainedFrom calls text = AreFirstCalls calls text × IsUnexplainedText text

-- the call in this line is the first wrong one by its end, and its answer has this flaw, among the first calls of the
-- text that was read. These are a history, so no rule of use is broken. The calls of no text that begins so can
-- be completed, or the whole text was read and its calls can't be completed
pub record IsFlawedText (left' : Option (List ℕ)) (text : List ℕ) (line : ℕ) (flaw : Flaw) : Type 0 where
  pub calls : List Call
  pub number : ℕ
  pub in_line : line ≡ number + 2
  pub history : IsHistory calls
  pub first_wrong : IsFirstWrong calls number
  pub flawed : IsFlawAt calls number flaw
  pub unexplained : ((more : List ℕ) → IsUnexplainedFrom calls (text ++ more)) ⊎ (IsUnexplainedFrom calls text × IsAtEnd left')

-- what a verdict claims of the text that was read, if `most` configurations are allowed
abbrev pub HasJudged : ℕ → Option (List ℕ) → Option (List ℕ) → CallVerdict → Type 0
HasJudged most left left' (Linearizable entries) = (text : List ℕ) × Consumes left left' text × IsAtEnd left' × IsLinearizableText text entries
HasJudged most left left' (Misused line misuse) = (text : List ℕ) × Consumes left left' text × IsMisusedText text line misuse
HasJudged most left left' (Flawed line flaw) = (text : List ℕ) × Consumes left left' text × IsFlawedText left' text line flaw
HasJudged most left left' (Undecided line fault) = (text : List ℕ) × Consumes left left' text × IsUndecidedText left' text most line fault

-- the calls are a history, and those of them can be completed that ended before some call began. So none of these is
-- wrong, and whether another one is depends on calls that may follow
pub record HideNoFlaw (calls : List Call) : Type 0 where
  pub history : IsHistory calls
  pub completed : HasCompletion calls (EndedBeforeOne calls)

-- why there is no verdict: the text has this fault, which hides no flaw of the calls before it. `Read` and `Memory`
-- claim nothing about the text
abbrev pub HasNotJudged : Option (List ℕ) → Option (List ℕ) → CallError → Type 0
HasNotJudged left left' (Text fault) = (calls : List Call) × HasRead left left' (record { calls = calls; fault = Some (OfText fault) }) × HideNoFlaw calls
HasNotJudged left left' (Order line) = (calls : List Call) × HasRead left left' (record { calls = calls; fault = Some (OutOfOrder line) }) × HideNoFlaw calls
HasNotJudged left left' Read = Unit {0}
HasNotJudged left left' Memory = Unit {0}

-- ---- what is kept from call to call

-- the timeline represents these calls, at most 2^32 of them. The ended calls ended before some moment, which is 0 or no
-- later than the begin of one of the calls
pub record IsKept (t : Timeline) (calls : List Call) : Type 0 where
  pub stands : Stands calls t
  pub few : FewOpen (lives_of t) (length calls)
  pub many : length calls ≤ 4294967296
  pub moment : ℕ
  pub past : Past calls (waits_of t) moment
  pub reached : (moment ≡ 0) ⊎ ((i : ℕ) × (a : Call) × IsAt calls i a × (moment ≤ a.begin))
  pub ends : (i : ℕ) (a : Call) → IsAt calls i a → (a.begin ≤ a.end) × (a.end ≤ never)

-- the timeline represents the calls that were read of the history
pub record HasTaken (history : CallInput) (t : Timeline) (left left' : Option (List ℕ)) : Type 0 where
  pub calls : List Call
  pub come : HasCome history left left' calls
  pub kept : IsKept t calls

-- what a verdict claims if it is told before a call begins, where these calls have begun
abbrev pub IsJudgedBefore : List Call → Call → CallVerdict → Type 0
IsJudgedBefore calls call (Misused line misuse) = (number : ℕ) × (line ≡ number + 2) × IsMisusedAt (calls ++ call ∷ []) number misuse
    × NoneGoesOn (calls ++ call ∷ []) call.begin × HasCompletion (calls ++ call ∷ []) (EndedBeforeOne (calls ++ call ∷ []))
IsJudgedBefore calls call (Flawed line flaw) = (number : ℕ) × (line ≡ number + 2) × IsHistory calls × IsFirstWrong calls number × IsFlawAt calls number flaw
    × EndsAheadOf calls number call.begin × EndsInTime calls number
IsJudgedBefore calls call (Linearizable entries) = ⊥
IsJudgedBefore calls call (Undecided line fault) = ⊥

-- what a verdict claims if it is told when those of these calls have ended that weren't pending when the recording
-- stopped
abbrev pub IsJudgedAtEnd : List Call → CallVerdict → Type 0
IsJudgedAtEnd calls (Flawed line flaw) = (number : ℕ) × (line ≡ number + 2) × IsHistory calls × IsFirstWrong calls number × IsFlawAt calls number flaw
    × (HasCompletion calls (EndsInTime calls) → ⊥)
IsJudgedAtEnd calls verdict = ⊥

-- the verdict is the one that was found, or it is `Undecided` at the stop that was found. A failed allocation is no
-- verdict
abbrev pub IsTold : Result (Option CallVerdict) Stop → CallVerdict → Type 0
IsTold found (Undecided line fault) = (found ≡ Ok (Some (Undecided line fault)))
    ⊎ ((stop : Stop) × (found ≡ Err stop) × (line ≡ stop.number + 2) × (fault ≡ stop.fault) × (fault ≢ NoMemory))
IsTold found verdict = found ≡ Ok (Some verdict)
