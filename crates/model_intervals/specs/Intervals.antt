-- Histories of calls that overlap in time, and the orders of effect that explain them. This project's own choice.
use Rattle.std.specs.Prelude.{ℕ, ◌<◌, List, map}
use Rattle.std.specs.List.{AllPairs}
use Rattle.std.specs.List.Sorted.{IsPermutation}
use Rattle.model_history.specs.Recorded.{IsRecorded, Recorded, any_allocator}
use Rattle.model_memory.specs.Plain.{Entry}

-- a call: when it began, when it ended, and its entry: worker, command and reply
pub record Call : Type 0 where
  pub begin : ℕ
  pub end : ℕ
  pub entry : Entry

-- if call A ended before call B began, A isn't behind B in the order
abbrev pub RespectsTime : List Call → Type 0
RespectsTime order = AllPairs (λ front back. back.end < front.begin → ⊥) order

-- an order of effect that explains calls: it has exactly these calls, each once, and is a legal history of any
-- allocator. If call A ended before call B began, A isn't behind B
pub record Explains (calls order : List Call) : Type 0 where
  pub same : IsPermutation order calls
  pub in_time : RespectsTime order
  pub end : Recorded
  pub legal : IsRecorded any_allocator (map (λ call. call.entry) order) end

-- some order explains the calls
abbrev pub IsLinearizable : List Call → Type 0
IsLinearizable calls = (order : List Call) × Explains calls order
