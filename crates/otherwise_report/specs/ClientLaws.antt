-- A client covers each job whose commands are among its own.
use Rattle.std.specs.Prelude.{◌≡◌, ℕ, ◌+◌, ◌<◌, ◌≤◌, true, List, [], Some, slice_index_or}
use Rattle.model_otherwise.specs.States.{Client, Scripts, Setting, State, after, asks, moves, wrong_at}
use Rattle.model_otherwise.specs.Timed.{is_plain}
use Rattle.model_otherwise.specs.declared.tried.Tried.{Tried}
use Rattle.model_words.specs.declared.commands.Command.{Command}
use Rattle.states_reach.specs.Reach.{IsKept, IsReachable}

-- each command of the scripts is one of these
abbrev pub AreAmong : List (List Command) → List Command → Type 0
AreAmong scripts commands = (worker : ℕ) (command : Command) → IsKept (slice_index_or scripts worker []) command → IsKept commands command

-- both settings are the same but for who gives commands: workers with scripts in `x`, a client with at least their
-- commands in `y`. Each command is one move
pub record HasClientFor (x y : Setting) : Type 0 where
  pub scripts : List (List Command)
  pub commands : List Command
  pub workers : x.asking ≡ Scripts scripts
  pub client : y.asking ≡ Client commands
  pub among : AreAmong scripts commands
  pub phases : y.phases ≡ x.phases
  pub checked : y.checked ≡ x.checked
  pub pages : y.pages ≡ x.pages
  pub whole : is_plain x.timing ≡ true
  pub timing : y.timing ≡ x.timing
  pub version : y.version ≡ x.version
  pub pairs : y.pairs ≡ x.pairs

-- both states have the same memory, heap and meshers
pub record IsAlike (s t : State) : Type 0 where
  pub memory : t.memory ≡ s.memory
  pub heap : t.heap ≡ s.heap
  pub stages : t.stages ≡ s.stages

-- the client can reach a state that is like `s`, with no more commands than the workers have given. The workers' states
-- start at `a`, and the client's at `b`
pub record IsCovered (y : Setting) (a b s : State) : Type 0 where
  pub t : State
  pub reachable : IsReachable (after y) (moves y) b t
  pub alike : IsAlike s t
  pub few : t.entries + a.entries ≤ s.entries + b.entries

-- if the workers give no more commands than the client may, the client reaches each state that they reach
abbrev pub ClientsReachStates : Type 0
ClientsReachStates = (x y : Setting) (a b s : State) → HasClientFor x y → IsAlike a b → IsReachable (after x) (moves x) a s
    → s.entries + b.entries ≤ y.room + a.entries → IsCovered y a b s

-- in a state like `s`, one of the client's commands gets this answer
pub record IsAnsweredSo (y : Setting) (t : State) (tried : Tried) : Type 0 where
  pub n : ℕ
  pub is_command : n < asks y.asking
  pub wrong : wrong_at y t n ≡ Some tried

-- a wrong answer to a worker's command is a wrong answer to one of the client's, in each state that is like the
-- worker's and in which the client may give a command
abbrev pub ClientsGetAnswers : Type 0
ClientsGetAnswers = (x y : Setting) (s t : State) (worker : ℕ) (tried : Tried) → HasClientFor x y → IsAlike s t → t.entries < y.room
    → wrong_at x s worker ≡ Some tried → IsAnsweredSo y t tried
