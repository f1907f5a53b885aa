use Rattle.std.proofs.Common.{◌≡◌, ◌++◌, map, take}
use Rattle.model_otherwise.specs.Moves.{on_page}
use Rattle.otherwise_report.proofs.step_list.add_on_page.Given as goal

abbrev pub invariant-loop-phase : goal.invariant-loop-phase
invariant-loop-phase l = l.phases.items ≡ l.initial.phases.items ++ map (on_page l.page) (take l.phase-index l.inside)
