-- The errors of an exploration with a list of steps, converted from the errors of its parts.
use Rattle.std.specs.Prelude.{◌≡◌, Result, Err}
use Rattle.otherwise_report.specs.declared.errors.StepsError.{StepsError}
use Rattle.otherwise_report.specs.declared.errors.StepsError.TheVariants.{Replay, TooManyStates, Steps, PlanLine, NothingWrong}
use Rattle.otherwise_report.specs.declared.list_fault.ListFault.{ListFault}
use Rattle.states_reach.specs.declared.faults.ReachError.{ReachError}
use Rattle.states_reach.specs.declared.faults.ReachError.TheVariants.{TooMany, Memory as ReachMemory}
use Rattle.text_devices.specs.declared.faults.ReplayError.TheVariants.{Read, Write, Text, Memory}

-- the error of an exploration that is out of memory
abbrev pub refused : StepsError
refused = Replay Memory

-- the error of an exploration that could not find all states
abbrev pub error_of_reach : ReachError → StepsError
error_of_reach TooMany = TooManyStates
error_of_reach ReachMemory = refused

-- why nothing was read where the definition reads this: the definition's fault, or an allocation failed
abbrev pub IsUnspelt : {A : Type 0} → Result A ListFault → StepsError → Type 0
IsUnspelt read (Steps fault) = read ≡ Err fault
IsUnspelt read (Replay Memory) = Unit {0}
IsUnspelt read (Replay Read) = ⊥
IsUnspelt read (Replay Write) = ⊥
IsUnspelt read (Replay (Text fault)) = ⊥
IsUnspelt read TooManyStates = ⊥
IsUnspelt read (PlanLine line) = ⊥
IsUnspelt read NothingWrong = ⊥
