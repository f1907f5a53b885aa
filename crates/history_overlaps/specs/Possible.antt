-- The answers that a call could have given, if no order explains the recorded answer.
use Rattle.std.specs.Prelude.{◌≡◌, ◌≢◌, ◌⊎◌, ℕ, ◌+◌, ◌<◌, ◌≤◌, true, List, length}
use Rattle.arrayvec.specs.ArrayVec.{ArrayVec}
use Rattle.model_words.specs.declared.commands.Command.{Command}
use Rattle.model_words.specs.declared.commands.Command.TheVariants.{Put, Get, Addr}
use Rattle.model_words.specs.declared.commands.Reply.{Reply}
use Rattle.model_words.specs.declared.commands.Reply.TheVariants.{Bytes}
use Rattle.model_words.specs.declared.refusals.Refusal.TheVariants.{Outside}
use Rattle.model_intervals.specs.Intervals.{Call}
use Rattle.model_intervals.specs.Objects.{Object, IsMadeAt, is_access}
use Rattle.model_intervals.specs.OverlappingCalls.{cell_at}
use Rattle.text_words.specs.RecordedWords.{plain_reply}
use Rattle.text_words.specs.declared.recorded.RecordedReply.TheVariants.{Done as RecordedDone, Bytes as RecordedBytes, At as RecordedAt, Refused as RecordedRefused}
use Rattle.history_object.specs.Carried.{IsKept}
use Rattle.history_object.specs.declared.access.Access.{Access}
use Rattle.history_object.specs.declared.access.Access.TheVariants.{Store, Load, Nothing, Elsewhere}
use Rattle.history_overlaps.specs.Queues.{object_of}
use Rattle.history_overlaps.specs.declared.possible.Loads.{Loads as SomeLoads}
use Rattle.history_overlaps.specs.declared.possible.Possible.{Possible}
use Rattle.history_overlaps.specs.declared.possible.Possible.TheVariants.{Only, Loads}
use Rattle.history_overlaps.specs.declared.possible.Unexplained.{Unexplained}

-- the loads are at most 8. Each has `len` bytes, and isn't the one that was answered
pub record AreOtherLoads (len : ℕ) (answered : List ℕ) (loads : SomeLoads) : Type 0 where
  pub few : length loads.least.items ≤ 8
  pub each : (load : ArrayVec ℕ) → IsKept loads.least.items load → (length load.items ≡ len) × (load.items ≢ answered)

-- at most this load was added to the list, which still has at most 8
pub record HasAddedLoad (old new : SomeLoads) (load : ArrayVec ℕ) : Type 0 where
  pub each : (other : ArrayVec ℕ) → IsKept new.least.items other → (other ≡ load) ⊎ IsKept old.least.items other
  pub few : length old.least.items ≤ 8 → length new.least.items ≤ 8

-- the answers that a load from an object of `size` bytes could have given: the refusal OUTSIDE if the range ends past
-- the object, and otherwise other loads than the one that was answered
abbrev pub ArePossibleLoads : ℕ → ℕ → ℕ → List ℕ → Possible → Type 0
ArePossibleLoads size off len answered (Only reply) = (size < off + len) × (reply ≡ RecordedRefused Outside)
ArePossibleLoads size off len answered (Loads loads) = (off + len ≤ size) × AreOtherLoads len answered loads

-- the recorded answer of an access to an object at this address and of this size, and the answers that were possible
abbrev pub IsUnexplainedBy : ℕ → ℕ → Access → Unexplained → Type 0
IsUnexplainedBy address size (Store off bytes) told = (told.answer ≡ RecordedDone) × (told.possible ≡ Only (RecordedRefused Outside))
IsUnexplainedBy address size (Load off len answered) told = (told.answer ≡ RecordedBytes answered) × ArePossibleLoads size off len answered.items told.possible
IsUnexplainedBy address size Nothing told = (told.answer ≡ RecordedAt address) × (told.possible ≡ Only (RecordedAt address))
IsUnexplainedBy address size (Elsewhere answered) told = (told.answer ≡ RecordedAt answered) × (told.possible ≡ Only (RecordedAt address))

-- the answers that were possible for a command on this object with this answer
abbrev pub ArePossible : Object → Command → Reply → Possible → Type 0
ArePossible x (Put cell off bytes) reply possible = possible ≡ Only (RecordedRefused Outside)
ArePossible x (Get cell off len) (Bytes answered) possible = ArePossibleLoads x.len off len answered.items possible
ArePossible x (Addr cell) reply possible = possible ≡ Only (RecordedAt x.address)
ArePossible x command reply possible = ⊥

-- the call is an access to this object, and this is its answer. The object was made by the call of its number among
-- these calls, and these answers were possible
pub record IsUnexplainedCall (calls : List Call) (call : Call) (told : Unexplained) : Type 0 where
  pub access : is_access call.entry.command ≡ true
  pub answers : call.entry.reply ≡ plain_reply told.answer
  pub maker : Call
  pub made : IsMadeAt calls told.object.number maker (object_of told.object)
  pub named : told.object.cell ≡ cell_at call
  pub possible : ArePossible (object_of told.object) call.entry.command call.entry.reply told.possible
