-- Why calls may be examined object by object.
use Rattle.std.specs.Prelude.{◌↔◌, List}
use Rattle.model_intervals.specs.Intervals.{Call, IsLinearizable}
use Rattle.model_intervals.specs.Objects.{IsExplainedByObject}
use Rattle.model_intervals.specs.OverlappingCalls.{IsHistory}

-- if calls are a history, some order explains them if and only if they are explained object by object
abbrev pub HistoriesAreLocal : Type 0
HistoriesAreLocal = (calls : List Call) → IsHistory calls → IsLinearizable calls ↔ IsExplainedByObject calls
