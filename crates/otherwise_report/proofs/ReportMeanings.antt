-- What a report means: nothing is overlooked, and each plan is a shortest one.
use Rattle.std.proofs.Common.{◌≡◌, ℕ, ◌<◌, ◌≤◌, true, false, List, [], ◌∷◌, Option, Some, None, ap, length, map, slice_get, subst, sym, ◌∙◌, arith}
use Rattle.std.specs.Option.{option_map_or}
use Rattle.std.proofs.lemmas.Option.{slice_get_within}
use Rattle.explore_otherwise.proofs.FirstFindings.{got}
use Rattle.explore_otherwise.proofs.States.{length_mapped}
use Rattle.explore_otherwise.specs.Findings.{AreRightBelow}
use Rattle.explore_otherwise.specs.Reached.{IsExplored}
use Rattle.explore_otherwise.specs.declared.explorer.Explorer.{Explorer}
use Rattle.explore_otherwise.specs.declared.findings.FoundFault.{FoundFault}
use Rattle.explore_otherwise.specs.declared.findings.FoundWrong.{FoundWrong}
use Rattle.model_otherwise.specs.States.{Setting, State, after, asks, fault_at, moves, wrong_at}
use Rattle.model_otherwise.specs.declared.fault.Fault.{Fault}
use Rattle.model_otherwise.specs.declared.fault.FaultKind.{FaultKind}
use Rattle.model_otherwise.specs.declared.tried.Tried.{Tried}
use Rattle.otherwise_report.specs.Nearest.{AreFreeBelow, IsNearestFault, IsNearestStuck, IsNearestWrong, is_stuck, moves_to}
use Rattle.otherwise_report.specs.declared.nearest.FoundStuck.{FoundStuck}
use Rattle.states_reach.specs.Reach.{IsKept, IsPath, IsReachable, IsTrail, LeadsTo, after_all, going_on}
use Rattle.states_reach.specs.declared.margins.Margins.{Margins}
use Rattle.states_reach.specs.declared.origin.Origin.{Origin}
use Rattle.states_reach.specs.declared.reached.Reached.{Reached}

-- a reachable state is kept
kept_of : (x : Setting) (start s : State) (reached : Reached Explorer) → IsExplored x start reached → IsReachable (after x) (moves x) start s
    → IsKept reached.system.states s
kept_of x start s reached explored reachable = (explored.exact s).1 reachable

-- without a reported fault of a kind no reachable state has one
pub no_fault_overlooked : (x : Setting) (start s : State) (reached : Reached Explorer) (kind : FaultKind)
    → IsExplored x start reached → IsNearestFault kind reached None → IsReachable (after x) (moves x) start s → fault_at kind s ≡ None
no_fault_overlooked x start s reached kind explored none reachable =
    let kept = kept_of x start s reached explored reachable in
    none kept.0 s (slice_get_within reached.system.states kept.0 s kept.1) kept.1

-- without a reported wrong answer no command is answered wrongly in a reachable state
pub no_answer_overlooked : (x : Setting) (start s : State) (reached : Reached Explorer) (n : ℕ)
    → IsExplored x start reached → IsNearestWrong reached None → IsReachable (after x) (moves x) start s → n < asks x.asking → wrong_at x s n ≡ None
no_answer_overlooked x start s reached n explored none reachable few =
    let kept = kept_of x start s reached explored reachable in
    let right = none kept.0 s (slice_get_within reached.system.states kept.0 s kept.1) kept.1 in
    subst (λ (y : Setting). AreRightBelow y s (asks y.asking)) explored.setting right n few

-- without a reported command that is blocked for ever, none is in a reachable state
pub no_stuck_overlooked : (x : Setting) (start s : State) (reached : Reached Explorer) (n : ℕ)
    → IsExplored x start reached → IsNearestStuck reached None → IsReachable (after x) (moves x) start s → n < asks x.asking → is_stuck x s n ≡ false
no_stuck_overlooked x start s reached n explored none reachable few =
    let kept = kept_of x start s reached explored reachable in
    let free = none kept.0 s (slice_get_within reached.system.states kept.0 s kept.1) kept.1 in
    subst (λ (y : Setting). AreFreeBelow y s (asks y.asking)) explored.setting free n few

-- the moves of a trail lead from the state in which it begins to the state in which it ends
trail_leads : {S : Type 0} → (after : S → ℕ → Option S) (moves : ℕ) (states : List S) (at : ℕ) (trail : List Origin) (place : ℕ) (from to : S)
    → IsTrail after moves states at trail place → slice_get states at ≡ Some from → slice_get states place ≡ Some to
    → IsPath after moves from to (map (λ (o : Origin). o.number) trail)
trail_leads after moves states at [] place from to same begins ends =
    let both : Some from ≡ Some to = sym begins ∙ (subst (λ n. slice_get states n ≡ Some to) (sym same) ends) in
    record { moves_are = tt; leads = both }
trail_leads after moves states at (origin ∷ trail) place from to (state_is, (next, (m, rest))) begins ends =
    let path = trail_leads after moves states next trail place m.to to rest m.to_is ends in
    let both : Some m.from ≡ Some from = sym m.from_is ∙ (subst (λ n. slice_get states n ≡ Some from) (sym state_is) begins) in
    let is : m.from ≡ from = cc (both) in
    let step : after from origin.number ≡ Some m.to = subst (λ x. after x origin.number ≡ Some m.to) is m.leads in
    record {
      moves_are = (m.is_move, path.moves_are);
      leads = subst (λ x. going_on (after_all after (map (λ (o : Origin). o.number) trail)) x ≡ Some to) (sym step) path.leads;
    }

-- a list of moves that leads to the state at a place has as many moves as are kept for the place
path_long : (x : Setting) (start s : State) (reached : Reached Explorer) (place : ℕ) (path : List ℕ) → IsExplored x start reached
    → slice_get reached.system.states place ≡ Some s → IsPath (after x) (moves x) start s path → length path ≡ moves_to reached.margins.items place
path_long x start s reached place path explored there is =
    let inside = slice_get_within reached.system.states place s there in
    let many = explored.margins.as_many in
    let m = got reached.margins.items place (omega (arith, inside, many)) in
    (explored.margins.are place s m.0 there m.1).moves_are path is ∙ sym (ap (λ (o : Option Margins). option_map_or (λ m. m.moves) o 0) m.1)

-- and so has a plan that leads there
plan_long : (x : Setting) (start s : State) (reached : Reached Explorer) (place : ℕ) (plan : List Origin) → IsExplored x start reached
    → LeadsTo reached.system.states reached.origins.items place plan → slice_get reached.system.states place ≡ Some s
    → length plan ≡ moves_to reached.margins.items place
plan_long x start s reached place plan explored leads there =
    let trail = leads (after x) (moves x) start s explored.traced there in
    let path = trail_leads (after x) (moves x) reached.system.states 0 plan place start s trail explored.traced.first there in
    sym (length_mapped (λ (o : Origin). o.number) plan) ∙ path_long x start s reached place (map (λ (o : Origin). o.number) plan) explored there path

-- a plan isn't longer than a list of moves to a place that isn't nearer
no_longer : (a b c d : ℕ) → a ≡ c → b ≡ d → c ≤ d → a ≤ b
no_longer a b c d same other less = omega (arith, same, other, less)

-- no list of moves to a state with a fault of the kind is shorter than the plan
pub fault_plan_shortest : (x : Setting) (start s : State) (reached : Reached Explorer) (kind : FaultKind) (found : FoundFault) (fault : Fault)
    (path : List ℕ) (plan : List Origin)
    → IsExplored x start reached → IsNearestFault kind reached (Some found) → LeadsTo reached.system.states reached.origins.items found.place plan
    → IsPath (after x) (moves x) start s path → fault_at kind s ≡ Some fault → length plan ≤ length path
fault_plan_shortest x start s reached kind found fault path plan explored nearest leads is has =
    let kept = kept_of x start s reached explored (path, is) in
    no_longer (length plan) (length path) (moves_to reached.margins.items found.place) (moves_to reached.margins.items kept.0)
    (plan_long x start nearest.state reached found.place plan explored leads nearest.there)
    (path_long x start s reached kept.0 path explored kept.1 is)
    (nearest.nearest kept.0 s fault (slice_get_within reached.system.states kept.0 s kept.1) kept.1 has)

-- nor one to a state in which a command is answered wrongly
pub answer_plan_shortest : (x : Setting) (start s : State) (reached : Reached Explorer) (found : FoundWrong) (n : ℕ) (tried : Tried)
    (path : List ℕ) (plan : List Origin)
    → IsExplored x start reached → IsNearestWrong reached (Some found) → LeadsTo reached.system.states reached.origins.items found.place plan
    → IsPath (after x) (moves x) start s path → n < asks x.asking → wrong_at x s n ≡ Some tried → length plan ≤ length path
answer_plan_shortest x start s reached found n tried path plan explored nearest leads is few has =
    let kept = kept_of x start s reached explored (path, is) in
    let command : n < asks reached.system.setting.asking = subst (λ (y : Setting). n < asks y.asking) (sym explored.setting) few in
    let wrong : wrong_at reached.system.setting s n ≡ Some tried = subst (λ (y : Setting). wrong_at y s n ≡ Some tried) (sym explored.setting) has in
    no_longer (length plan) (length path) (moves_to reached.margins.items found.place) (moves_to reached.margins.items kept.0)
    (plan_long x start nearest.state reached found.place plan explored leads nearest.there)
    (path_long x start s reached kept.0 path explored kept.1 is)
    (nearest.nearest kept.0 n s tried (slice_get_within reached.system.states kept.0 s kept.1) kept.1 command wrong)

-- nor one to a state in which a command is blocked for ever
pub stuck_plan_shortest : (x : Setting) (start s : State) (reached : Reached Explorer) (found : FoundStuck) (n : ℕ) (path : List ℕ) (plan : List Origin)
    → IsExplored x start reached → IsNearestStuck reached (Some found) → LeadsTo reached.system.states reached.origins.items found.place plan
    → IsPath (after x) (moves x) start s path → n < asks x.asking → is_stuck x s n ≡ true → length plan ≤ length path
stuck_plan_shortest x start s reached found n path plan explored nearest leads is few has =
    let kept = kept_of x start s reached explored (path, is) in
    let command : n < asks reached.system.setting.asking = subst (λ (y : Setting). n < asks y.asking) (sym explored.setting) few in
    let stuck : is_stuck reached.system.setting s n ≡ true = subst (λ (y : Setting). is_stuck y s n ≡ true) (sym explored.setting) has in
    no_longer (length plan) (length path) (moves_to reached.margins.items found.place) (moves_to reached.margins.items kept.0)
    (plan_long x start nearest.state reached found.place plan explored leads nearest.there)
    (path_long x start s reached kept.0 path explored kept.1 is)
    (nearest.nearest kept.0 n s (slice_get_within reached.system.states kept.0 s kept.1) kept.1 command stuck)
