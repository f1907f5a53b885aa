use Rattle.std.proofs.Common.{◌≡◌, drop}
use Rattle.otherwise_report.specs.PlanTexts.{move_name}
use Rattle.otherwise_report.proofs.plan_text.add_move_name.Given as goal

abbrev pub invariant-loop-phase : goal.invariant-loop-phase
invariant-loop-phase l = record {
  text : l.text.items ≡ l.initial.text.items;
  left : move_name l.phases l.mesh.class l.members l.mesh.made ≡ move_name (drop l.phase-index l.phases) l.mesh.class l.members l.left;
}
