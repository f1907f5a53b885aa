-- Which of several stops of a run is reported.
use Rattle.std.specs.Prelude.{List, [], ◌∷◌, Option, Some, None}
use Rattle.mesh_search.specs.declared.faults.SearchError.{SearchError}
use Rattle.mesh_search.specs.declared.faults.SearchError.TheVariants.{Memory as SearchMemory, Thread as SearchThread}
use Rattle.mesh_shared.specs.declared.stops.RunError.{RunError}
use Rattle.mesh_shared.specs.declared.stops.RunError.TheVariants.{Memory as NoMemory, Thread as NoThread, History as NoRoom}
use Rattle.mesh_shared.specs.declared.stops.EarlyExit.{EarlyExit}
use Rattle.mesh_shared.specs.declared.stops.EarlyExit.TheVariants.{Memory, Thread, History}

-- the stop that is reported of two: out of memory before a thread, and a thread before the journal
abbrev pub first_of : EarlyExit → EarlyExit → EarlyExit
first_of Memory other = Memory
first_of Thread Memory = Memory
first_of Thread Thread = Thread
first_of Thread History = Thread
first_of History other = other

-- the stop that is reported of two threads. A thread that came to its own end has none
abbrev pub either_stop : Option EarlyExit → Option EarlyExit → Option EarlyExit
either_stop None other = other
either_stop (Some stop) None = Some stop
either_stop (Some stop) (Some other) = Some (first_of stop other)

-- the stop that is reported of all threads
abbrev pub first_stop : List (Option EarlyExit) → Option EarlyExit
first_stop [] = None
first_stop (stop ∷ stops) = either_stop stop (first_stop stops)

-- the error that reports a stop
abbrev pub error_of : EarlyExit → RunError
error_of Memory = NoMemory
error_of Thread = NoThread
error_of History = NoRoom

-- the stop of a thread whose search ended with this error
abbrev pub stop_of : SearchError → EarlyExit
stop_of SearchMemory = Memory
stop_of SearchThread = Thread
