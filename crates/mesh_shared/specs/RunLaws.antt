-- Examples of what a run of scripts leaves and can't leave, and which of several stops is reported.
use Rattle.std.specs.Prelude.{◌≡◌, ℕ, ◌≤◌, List, [], ◌∷◌, Option, Some, None, slice_get}
use Rattle.model_memory.specs.Memory.{Memory, empty_memory}
use Rattle.model_memory.specs.Plain.{Entry}
use Rattle.model_words.specs.declared.commands.Command.{Command}
use Rattle.model_words.specs.declared.commands.Command.TheVariants.{New}
use Rattle.model_words.specs.declared.commands.Reply.TheVariants.{Refused}
use Rattle.model_words.specs.declared.refusals.Refusal.TheVariants.{Zero}
use Rattle.mesh_shared.specs.Runs.{HasBegun, HasRun}
use Rattle.mesh_shared.specs.Stops.{first_stop}
use Rattle.mesh_shared.specs.declared.stops.EarlyExit.{EarlyExit}
use Rattle.mesh_shared.specs.declared.stops.EarlyExit.TheVariants.{Memory as NoMemory, Thread, History}

-- two scripts: one command of worker 0 and two of worker 1, each a `new` of 0 bytes with a cell of its own
abbrev pub two_scripts : List (List Command)
two_scripts = (New 0 0 0 ∷ []) ∷ (New 1 0 0 ∷ New 2 0 0 ∷ []) ∷ []

-- a worker's `new` of 0 bytes, which is refused
abbrev pub refused_new : ℕ → ℕ → Entry
refused_new worker cell = record { worker = worker; command = New cell 0 0; reply = Refused Zero }

-- if all three commands were answered, worker 1 first, the scripts were run
abbrev pub whole_run : List Entry
whole_run = refused_new 1 1 ∷ refused_new 0 0 ∷ refused_new 1 2 ∷ []

abbrev pub WholeIsRun : Type 0
WholeIsRun = HasRun two_scripts whole_run empty_memory

-- if the last command of worker 1 is missing, the scripts were begun, but not run
abbrev pub without_last : List Entry
without_last = refused_new 1 1 ∷ refused_new 0 0 ∷ []

abbrev pub WithoutLastIsBegun : Type 0
WithoutLastIsBegun = HasBegun two_scripts without_last empty_memory

abbrev pub WithoutLastIsNoRun : Type 0
WithoutLastIsNoRun = (end : Memory) → HasRun two_scripts without_last end → ⊥

-- if only the script of worker 0 is whole, the scripts were not run
abbrev pub FirstAloneIsNoRun : Type 0
FirstAloneIsNoRun = (end : Memory) → HasRun two_scripts (refused_new 0 0 ∷ []) end → ⊥

-- if there is an entry of a worker without a script, the scripts were neither run nor begun
abbrev pub with_stranger : List Entry
with_stranger = refused_new 2 1 ∷ whole_run

abbrev pub StrangerIsNoRun : Type 0
StrangerIsNoRun = (end : Memory) → HasRun two_scripts with_stranger end → ⊥

abbrev pub StrangerIsNoBeginning : Type 0
StrangerIsNoBeginning = (end : Memory) → HasBegun two_scripts with_stranger end → ⊥

-- if two workers' commands are exchanged, the scripts were neither run nor begun
abbrev pub exchanged : List Entry
exchanged = refused_new 1 0 ∷ refused_new 0 1 ∷ refused_new 1 2 ∷ []

abbrev pub ExchangedIsNoRun : Type 0
ExchangedIsNoRun = (end : Memory) → HasRun two_scripts exchanged end → ⊥

abbrev pub ExchangedIsNoBeginning : Type 0
ExchangedIsNoBeginning = (end : Memory) → HasBegun two_scripts exchanged end → ⊥

-- the order in which stops are reported: out of memory, a thread, the journal
abbrev pub place_of : EarlyExit → ℕ
place_of NoMemory = 0
place_of Thread = 1
place_of History = 2

-- if a stop is reported, it stopped some thread
abbrev pub ToldIsThere : Type 0
ToldIsThere = (stops : List (Option EarlyExit)) (stop : EarlyExit) → first_stop stops ≡ Some stop → (i : ℕ) × (slice_get stops i ≡ Some (Some stop))

-- if a stop is reported, no stop of any thread comes before it in the order
abbrev pub ToldIsFirst : Type 0
ToldIsFirst = (stops : List (Option EarlyExit)) (stop other : EarlyExit) (i : ℕ) → first_stop stops ≡ Some stop → slice_get stops i ≡ Some (Some other)
    → place_of stop ≤ place_of other

-- if no stop is reported, nothing stopped a thread
abbrev pub NothingIsToldOfNone : Type 0
NothingIsToldOfNone = (stops : List (Option EarlyExit)) (stop : EarlyExit) (i : ℕ) → first_stop stops ≡ None → slice_get stops i ≡ Some (Some stop) → ⊥
