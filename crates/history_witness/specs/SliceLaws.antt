-- Why a slice may be judged by itself.
use Rattle.std.specs.Prelude.{ℕ, Bool, List}
use Rattle.model_intervals.specs.Completions.{picked}
use Rattle.model_intervals.specs.Intervals.{Call, IsLinearizable}
use Rattle.model_intervals.specs.OverlappingCalls.{IsHistory}
use Rattle.history_witness.specs.Slices.{IsSlice}

-- the calls of a slice of a history are a history
abbrev pub SlicesAreHistories : Type 0
SlicesAreHistories = (calls : List Call) (taken : ℕ → Bool) → IsHistory calls → IsSlice calls taken → IsHistory (picked taken calls)

-- if some order explains the calls of a history, some order explains the calls of each slice. So if none explains a
-- slice, none explains the history
abbrev pub SlicesAreExplained : Type 0
SlicesAreExplained = (calls : List Call) (taken : ℕ → Bool) → IsHistory calls → IsSlice calls taken → IsLinearizable calls → IsLinearizable (picked taken calls)
