use Rattle.std.proofs.Common.{◌≡◌, ◌*◌, drop}
use Rattle.savings_replay.specs.Mesher.{IsAsBefore, class_tries, meshing_of}
use Rattle.savings_replay.specs.Meshing.{IsAfterPairs, class_sizes, classes_meshed}
use Rattle.savings_replay.proofs.meshing.Mesher.mesh_classes.Given as goal

-- the classes that are left lead to where all classes lead
abbrev pub invariant-loop-k : goal.invariant-loop-k
invariant-loop-k l = record {
  value : classes_meshed l.probe (meshing_of l.self) (drop l.k class_sizes) ≡ classes_meshed l.probe (meshing_of l.fn.self) class_sizes;
  counts : IsAfterPairs l.fn.self.counts l.self.counts (32768 * l.k) (class_tries * l.k);
  kept : IsAsBefore l.fn.self l.self;
}
