-- What a run of scripts in threads leaves.
use Rattle.std.specs.Prelude.{◌≡◌, ◌⊎◌, ℕ, ◌<◌, ◌≤◌, List, [], Option, Some, None, length, map, slice_index_or, take}
use Rattle.std.specs.List.{All}
use Rattle.model_memory.specs.Memory.{Memory}
use Rattle.model_memory.specs.Plain.{Entry, IsLegal}
use Rattle.model_memory.specs.Reads.{Kept, kept_by}
use Rattle.model_memory.specs.Seats.{calls_of}
use Rattle.model_words.specs.declared.commands.Command.{Command}
use Rattle.mesh_lock.specs.Seat.{Seat, calls_of_seats}
use Rattle.mesh_shared.specs.declared.plan.MeshPlan.{MeshPlan}
use Rattle.mesh_shared.specs.declared.stops.EarlyExit.{EarlyExit}
use Rattle.mesh_shared.specs.declared.worker.Worked.{Worked}

-- a plan has 1 to 16 search workers and 1 to 10 meshers
abbrev pub IsFairPlan : MeshPlan → Type 0
IsFairPlan plan = (1 ≤ plan.workers) × (plan.workers ≤ 16) × (1 ≤ plan.meshers) × (plan.meshers ≤ 10)

-- a run can begin: its journal is empty, there are 1 to 64 scripts, and its plan is fair
abbrev pub IsReady : List Entry → ℕ → MeshPlan → Type 0
IsReady entries scripts plan = (entries ≡ []) × (1 ≤ scripts) × (scripts ≤ 64) × IsFairPlan plan

-- the commands of a worker's entries, in their order
abbrev pub commands_by : ℕ → List Entry → List Command
commands_by worker entries = map (λ call. call.command) (calls_of worker entries)

-- the script of worker `w`
abbrev pub script_of : List (List Command) → ℕ → List Command
script_of scripts w = slice_index_or scripts w []

-- the history is legal and ends in this memory. Each worker's entries are its whole script, in order, and no other
-- worker has an entry
pub record HasRun (scripts : List (List Command)) (history : List Entry) (end : Memory) : Type 0 where
  pub legal : IsLegal history end
  pub whole : (w : ℕ) → w < length scripts → commands_by w history ≡ script_of scripts w
  pub no_other : All (λ entry. entry.worker < length scripts) history

-- the commands are a prefix of the script
abbrev pub IsBeginning : List Command → List Command → Type 0
IsBeginning commands script = commands ≡ take (length commands) script

-- the history is legal and ends in this memory. Each worker's entries are a prefix of its script, in order, and no
-- other worker has an entry
pub record HasBegun (scripts : List (List Command)) (history : List Entry) (end : Memory) : Type 0 where
  pub legal : IsLegal history end
  pub begun : (w : ℕ) → w < length scripts → IsBeginning (commands_by w history) (script_of scripts w)
  pub no_other : All (λ entry. entry.worker < length scripts) history

-- the commands of a seat's calls
abbrev pub commands_in : List Kept → List Command
commands_in calls = map (λ kept. kept.command) calls

-- a worker's calls are its whole script, and it gave up no command; or it gave up the next command, after the limit of
-- tries
abbrev pub HasEnded : Option ℕ → List Command → List Command → ℕ → Type 0
HasEnded tries script called tried = ((called ≡ script) × (tried ≡ 0)) ⊎ ((tries ≡ Some tried) × (length called < length script))

-- a worker without a command had no blocked attempt, and each attempt at a command that it gave up was blocked
pub record HasBlocked (script : List Command) (told : Worked) : Type 0 where
  pub none : script ≡ [] → told.blocked ≡ 0
  pub given_up : told.tried ≤ told.blocked

-- the calls are a prefix of the script. If nothing stopped the worker, it reports how it ended, and with unlimited
-- tries the calls are the whole script
pub record HasWorked (tries : Option ℕ) (script : List Command) (calls : List Kept) (told : Worked) (stop : Option EarlyExit) : Type 0 where
  pub begun : IsBeginning (commands_in calls) script
  pub whole : tries ≡ None → stop ≡ None → commands_in calls ≡ script
  pub ended : stop ≡ None → HasEnded tries script (commands_in calls) told.tried
  pub blocked : HasBlocked script told

-- there is a seat for each script, and the seat's calls are a prefix of the script. If tries were unlimited, they are
-- the whole script. Each worker reports how it ended
pub record AreServed (tries : Option ℕ) (scripts : List (List Command)) (seats : List Seat) (told : List Worked) : Type 0 where
  pub many : length seats ≡ length scripts
  pub begun : (w : ℕ) → w < length scripts → IsBeginning (commands_in (kept_by (calls_of_seats seats) w)) (script_of scripts w)
  pub whole : tries ≡ None → (w : ℕ) → w < length scripts → commands_in (kept_by (calls_of_seats seats) w) ≡ script_of scripts w
  pub all_told : length told ≡ length scripts
  pub ended : (w : ℕ) (d : Worked) → w < length scripts
      → HasEnded tries (script_of scripts w) (commands_in (kept_by (calls_of_seats seats) w)) (slice_index_or told w d).tried
  pub blocked : (w : ℕ) (d : Worked) → w < length scripts → HasBlocked (script_of scripts w) (slice_index_or told w d)

-- each worker reports how it ended: the commands of its entries are its whole script, or it gave up the next one. It
-- also reports its blocked attempts
pub record AreWorked (tries : Option ℕ) (scripts : List (List Command)) (history : List Entry) (told : List Worked) : Type 0 where
  pub many : length told ≡ length scripts
  pub each : (w : ℕ) (d : Worked) → w < length scripts → HasEnded tries (script_of scripts w) (commands_by w history) (slice_index_or told w d).tried
  pub blocked : (w : ℕ) (d : Worked) → w < length scripts → HasBlocked (script_of scripts w) (slice_index_or told w d)
