-- Why the judge of overlapping calls stops: 64 accesses to an object are pending, or there are too many configurations.
use Rattle.std.specs.Prelude.{◌≡◌, ◌⊎◌, ◌↔◌, ℕ, ◌%◌, ◌<◌, true, List, [], ◌∷◌, ◌++◌, Option, Some, length}
use Rattle.model_memory.specs.Plain.{Entry}
use Rattle.model_intervals.specs.Completions.{EndsBefore, HasCompletion}
use Rattle.model_intervals.specs.Intervals.{Call}
use Rattle.model_intervals.specs.Objects.{Object, IsMadeAt, is_access}
use Rattle.model_intervals.specs.OverlappingCalls.{IsAt, IsHistory, cell_at}
use Rattle.history_object.specs.ObjectBytes.{effect, first_state}
use Rattle.history_object.specs.declared.faults.JudgeFault.{JudgeFault}
use Rattle.history_object.specs.declared.faults.JudgeFault.TheVariants.{TooMany, TooManyPending, Memory}
use Rattle.history_object.specs.Following.{IsFull, IsJudgeOf, IsOpen}
use Rattle.history_parts.specs.Parts.{HasMoreBeside, HasMoreJoined}
use Rattle.history_overlaps.specs.Accesses.{is_access_of, timed_accesses}
use Rattle.history_overlaps.specs.Judges.{AccessJudge}
use Rattle.history_overlaps.specs.Queues.{MayBegin}
use Rattle.history_overlaps.specs.Standing.{Stands, StandsWith, waits_of}
use Rattle.history_overlaps.specs.Timelines.{StopsWaiting}
use Rattle.history_overlaps.specs.declared.life.Life.{Life}
use Rattle.history_overlaps.specs.declared.misuses.NotBegun.{NotBegun}
use Rattle.history_overlaps.specs.declared.misuses.NotBegun.TheVariants.{Misused, Fault}
use Rattle.history_overlaps.specs.declared.pending.Pending.{Pending}
use Rattle.history_overlaps.specs.declared.stops.Stop.{Stop}
use Rattle.history_overlaps.specs.declared.timeline.Timeline.{Timeline}

-- ---- the judge of one object

-- more than `most` configurations are met at the end of the access with this number, or are kept as parts are joined
abbrev pub HasTooMany : AccessJudge → ℕ → ℕ → Type 0
HasTooMany judge number most = HasMoreJoined judge.standing.kept most ⊎ HasMoreBeside judge number most

-- why an access to the object can't begin: 64 accesses are pending. An allocation failure claims nothing
abbrev pub CannotBegin : Life → JudgeFault → Type 0
CannotBegin old TooManyPending = (judge : AccessJudge) × (old.judge ≡ Some judge) × IsFull judge
CannotBegin old TooMany = ⊥
CannotBegin old Memory = Unit {0}

-- why the access with this number can't end: there are too many configurations. An allocation failure claims nothing
abbrev pub CannotEnd : Life → ℕ → ℕ → JudgeFault → Type 0
CannotEnd old number most TooMany = (judge : AccessJudge) × (old.judge ≡ Some judge) × HasTooMany judge number most
CannotEnd old number most TooManyPending = ⊥
CannotEnd old number most Memory = Unit {0}

-- an access to the live object of the cell can't begin
abbrev pub CannotBeginIn : (ℕ → Option Life) → ℕ → JudgeFault → Type 0
CannotBeginIn lives cell fault = (life : Life) × (lives cell ≡ Some life) × CannotBegin life fault

-- the access with this number, to the live object of the cell, can't end
abbrev pub CannotEndIn : (ℕ → Option Life) → ℕ → ℕ → ℕ → JudgeFault → Type 0
CannotEndIn lives cell number most fault = (life : Life) × (lives cell ≡ Some life) × CannotEnd life number most fault

-- ---- among calls

-- the call at this place ended before the moment
abbrev pub EndedBy : List Call → ℕ → ℕ → Type 0
EndedBy calls moment i = (a : Call) × IsAt calls i a × (a.end < moment)

-- these calls have begun, and those of them in `ended` have ended. They are a history, and can be completed. The judge
-- has followed the accesses to the object that the access `call` names; exactly those in `ended` aren't open
pub record IsJudgeFor (calls : List Call) (ended : ℕ → Type 0) (call : Call) (judge : AccessJudge) : Type 0 where
  pub history : IsHistory calls
  pub completed : HasCompletion calls ended
  pub access : is_access call.entry.command ≡ true
  pub object : Object
  pub place : ℕ
  pub maker : Call
  pub made : IsMadeAt calls place maker object
  pub named : object.cell ≡ cell_at call
  pub follows : IsJudgeOf effect (first_state object.len) (timed_accesses object.cell object.address calls) judge
  pub is_open : (i : ℕ) (a : Call) → IsAt calls i a → is_access_of object.cell a ≡ true → IsOpen judge i ↔ (ended i → ⊥)

-- the access `call` breaks no rule of use, and when it begins, 64 accesses to its object are pending
pub record IsCrowded (calls : List Call) (call : Call) : Type 0 where
  pub judge : AccessJudge
  pub judged : IsJudgeFor calls (EndedBy calls call.begin) call judge
  pub full : IsFull judge
  pub allowed : IsHistory (calls ++ call ∷ [])

-- the call at this place is an access, and there are too many configurations of its object when it ends
pub record IsManifold (calls : List Call) (number most : ℕ) (call : Call) : Type 0 where
  pub there : IsAt calls number call
  pub judge : AccessJudge
  pub judged : IsJudgeFor calls (EndsBefore calls number) call judge
  pub many : HasTooMany judge number most

-- why a call can't begin after these calls. An allocation failure claims nothing
abbrev pub StopsBegin : List Call → Call → JudgeFault → Type 0
StopsBegin calls call TooManyPending = IsCrowded calls call
StopsBegin calls call TooMany = ⊥
StopsBegin calls call Memory = Unit {0}

-- why the call at this place can't end. An allocation failure claims nothing
abbrev pub StopsEnd : List Call → ℕ → ℕ → JudgeFault → Type 0
StopsEnd calls number most TooMany = (call : Call) × IsManifold calls number most call
StopsEnd calls number most TooManyPending = ⊥
StopsEnd calls number most Memory = Unit {0}

-- why a call of these can't end that ended before the moment
abbrev pub StopsBefore : List Call → ℕ → ℕ → Stop → Type 0
StopsBefore calls moment most stop = EndedBy calls moment stop.number × StopsEnd calls stop.number most stop.fault

-- why the judge stops before `call` has begun, where these calls have begun
abbrev pub StopsAt : List Call → Call → ℕ → Stop → Type 0
StopsAt calls call most stop = StopsBefore calls call.begin most stop ⊎ ((stop.number ≡ length calls) × StopsBegin calls call stop.fault)

-- ---- of a timeline

-- no limit of the judge keeps the call from beginning
abbrev pub IsWithinLimits : NotBegun → Type 0
IsWithinLimits (Misused misused) = Unit {0}
IsWithinLimits (Fault fault) = fault ≡ Memory

-- if a call with this number and this entry may begin, this is why the judge can't take it. A broken rule of use claims
-- nothing here
abbrev pub IsStoppedSo : Timeline → ℕ → Entry → NotBegun → Type 0
IsStoppedSo old number entry (Misused misused) = Unit {0}
IsStoppedSo old number entry (Fault fault) = (calls : List Call) (call : Call) → length calls ≡ number → call.entry ≡ entry → Stands calls old
    → MayBegin calls (waits_of old) call → StopsBegin calls call fault

-- the waiting call that ends first has this number, and this is why it can't end
abbrev pub IsStoppedEnd : Timeline → ℕ → Pending → ℕ → JudgeFault → Type 0
IsStoppedEnd old number pending most fault = (calls : List Call) (waits : ℕ → Option Pending) (key : ℕ) → key % 4294967296 ≡ number
    → StopsWaiting waits (waits_of old) key pending → StandsWith calls waits old → StopsEnd calls number most fault

-- this is why a call can't end that ended before the moment
abbrev pub IsStoppedBefore : Timeline → ℕ → ℕ → Stop → Type 0
IsStoppedBefore t moment most stop = (calls : List Call) → Stands calls t → StopsBefore calls moment most stop
