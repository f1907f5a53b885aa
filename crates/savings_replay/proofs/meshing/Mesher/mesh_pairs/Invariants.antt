use Rattle.std.proofs.Common.{◌≡◌, drop}
use Rattle.std.specs.Prelude.{map}
use Rattle.mesh_search.specs.Pairs.{pairing}
use Rattle.savings_replay.specs.Mesher.{IsAsBefore, meshing_of}
use Rattle.savings_replay.specs.Meshing.{IsAfterPairs, pairs_meshed}
use Rattle.savings_replay.proofs.meshing.Mesher.mesh_pairs.Given as goal

-- the pairs that are left lead to where all pairs lead
abbrev pub invariant-loop-pair : goal.invariant-loop-pair
invariant-loop-pair l = record {
  value : pairs_meshed (meshing_of l.self) (map pairing (drop l.pair-index l.pairs)) ≡ pairs_meshed (meshing_of l.fn.self) (map pairing l.pairs);
  counts : IsAfterPairs l.fn.self.counts l.self.counts l.pair-index 0;
  kept : IsAsBefore l.fn.self l.self;
}
