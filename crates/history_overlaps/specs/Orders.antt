-- An order of calls, as a list of their numbers.
use Rattle.std.specs.Prelude.{ℕ, List, map, slice_get}
use Rattle.std.specs.List.{filter_map}
use Rattle.model_history.specs.Recorded.{IsRecorded, Recorded, any_allocator}
use Rattle.model_intervals.specs.Intervals.{Call, RespectsTime}
use Rattle.history_reading.specs.CallWords.{plain_call}
use Rattle.history_reading.specs.declared.words.TimedCall.{TimedCall}

-- the items of a list at these places, in the order of the places; a place past the end is skipped
abbrev pub at_places : {X : Type 0} → List X → List ℕ → List X
at_places xs places = filter_map (slice_get xs) places

-- the calls with these numbers, in this order, as calls of the model
abbrev pub calls_in_order : List TimedCall → List ℕ → List Call
calls_in_order calls order = map plain_call (at_places calls order)

-- the order of calls respects time, and in it the calls are a legal history of any allocator
pub record IsLegalOrder (order : List Call) : Type 0 where
  pub in_time : RespectsTime order
  pub end : Recorded
  pub legal : IsRecorded any_allocator (map (λ call. call.entry) order) end
