-- What a report on an exploration means: nothing is overlooked, and each plan is a shortest one.
use Rattle.std.specs.Prelude.{◌≡◌, ℕ, ◌<◌, ◌≤◌, true, false, List, Some, None, length}
use Rattle.explore_otherwise.specs.Reached.{IsExplored}
use Rattle.explore_otherwise.specs.declared.explorer.Explorer.{Explorer}
use Rattle.explore_otherwise.specs.declared.findings.FoundFault.{FoundFault}
use Rattle.explore_otherwise.specs.declared.findings.FoundWrong.{FoundWrong}
use Rattle.model_otherwise.specs.States.{Setting, State, after, asks, fault_at, moves, wrong_at}
use Rattle.model_otherwise.specs.declared.fault.Fault.{Fault}
use Rattle.model_otherwise.specs.declared.fault.FaultKind.{FaultKind}
use Rattle.model_otherwise.specs.declared.tried.Tried.{Tried}
use Rattle.otherwise_report.specs.Nearest.{IsNearestFault, IsNearestStuck, IsNearestWrong, is_stuck}
use Rattle.otherwise_report.specs.declared.nearest.FoundStuck.{FoundStuck}
use Rattle.states_reach.specs.Reach.{IsPath, IsReachable, LeadsTo}
use Rattle.states_reach.specs.declared.origin.Origin.{Origin}
use Rattle.states_reach.specs.declared.reached.Reached.{Reached}

-- if no fault of a kind is reported, no reachable state has one
abbrev pub NoFaultIsOverlooked : Type 0
NoFaultIsOverlooked = (x : Setting) (start s : State) (reached : Reached Explorer) (kind : FaultKind)
    → IsExplored x start reached → IsNearestFault kind reached None → IsReachable (after x) (moves x) start s → fault_at kind s ≡ None

-- if no wrong answer is reported, no command is answered wrongly in a reachable state
abbrev pub NoAnswerIsOverlooked : Type 0
NoAnswerIsOverlooked = (x : Setting) (start s : State) (reached : Reached Explorer) (n : ℕ)
    → IsExplored x start reached → IsNearestWrong reached None → IsReachable (after x) (moves x) start s → n < asks x.asking → wrong_at x s n ≡ None

-- if no command that is blocked for ever is reported, none is in a reachable state
abbrev pub NoStuckIsOverlooked : Type 0
NoStuckIsOverlooked = (x : Setting) (start s : State) (reached : Reached Explorer) (n : ℕ)
    → IsExplored x start reached → IsNearestStuck reached None → IsReachable (after x) (moves x) start s → n < asks x.asking → is_stuck x s n ≡ false

-- no list of moves that leads to a state with a fault of the kind is shorter than one that leads to the reported state
abbrev pub FaultPlansAreShortest : Type 0
FaultPlansAreShortest = (x : Setting) (start s : State) (reached : Reached Explorer) (kind : FaultKind) (found : FoundFault) (fault : Fault)
    (path : List ℕ) (plan : List Origin)
    → IsExplored x start reached → IsNearestFault kind reached (Some found) → LeadsTo reached.system.states reached.origins.items found.place plan
    → IsPath (after x) (moves x) start s path → fault_at kind s ≡ Some fault → length plan ≤ length path

-- the same for a state in which a command is blocked for ever
abbrev pub StuckPlansAreShortest : Type 0
StuckPlansAreShortest = (x : Setting) (start s : State) (reached : Reached Explorer) (found : FoundStuck) (n : ℕ) (path : List ℕ) (plan : List Origin)
    → IsExplored x start reached → IsNearestStuck reached (Some found) → LeadsTo reached.system.states reached.origins.items found.place plan
    → IsPath (after x) (moves x) start s path → n < asks x.asking → is_stuck x s n ≡ true → length plan ≤ length path

-- the same for a state in which a command is answered wrongly
abbrev pub AnswerPlansAreShortest : Type 0
AnswerPlansAreShortest = (x : Setting) (start s : State) (reached : Reached Explorer) (found : FoundWrong) (n : ℕ) (tried : Tried)
    (path : List ℕ) (plan : List Origin)
    → IsExplored x start reached → IsNearestWrong reached (Some found) → LeadsTo reached.system.states reached.origins.items found.place plan
    → IsPath (after x) (moves x) start s path → n < asks x.asking → wrong_at x s n ≡ Some tried → length plan ≤ length path
