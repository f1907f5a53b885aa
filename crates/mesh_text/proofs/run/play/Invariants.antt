use Rattle.std.proofs.Common.{◌≡◌, false, length, vec_len}
use Rattle.mesh_text.specs.Printed.{HasGathered}
use Rattle.mesh_text.specs.Turns.{IsAt, state_up_to}
use Rattle.mesh_text.proofs.run.play.Given as goal

abbrev pub invariant-loop-line : goal.invariant-loop-line
invariant-loop-line g l = record {
  workers : vec_len l.turns.next ≡ length l.job.scripts;
  fresh : g.O.Sink.has_failed l.output ≡ false;
  at : IsAt l.job (state_up_to l.job l.line-index) l.turns.book l.turns.next.items;
  gathered : HasGathered l.printed l.job l.line-index (g.O.Sink.written l.initial.output) (g.O.Sink.written l.output) l.text.items;
}
