use Rattle.std.proofs.Common.{◌≡◌, ◌-◌, false, length}
use Rattle.std.specs.Io.KnownBytes.{Keeps, prepend_known}
use Rattle.history_judge.proofs.begun.Begun.begins_with.Given as goal

abbrev pub invariant-loop-next : goal.invariant-loop-next
invariant-loop-next g l = record {
  open_input : g.I.Source.has_failed l.self.inner ≡ false;
  same : Keeps (prepend_known l.initial.self.begun.items (g.I.Source.remaining l.initial.self.inner)) (prepend_known l.self.begun.items (g.I.Source.remaining l.self.inner));
}

abbrev pub decreases-loop-next : goal.decreases-loop-next
decreases-loop-next g l = 10 - length l.self.begun.items
