-- The meshes that an exploration makes.
use Rattle.std.specs.Prelude.{List, take}
use Rattle.explore_interleavings.specs.declared.pair.MeshPair.{MeshPair}
use Rattle.run_command_line.specs.declared.meshes.Meshes.{Meshes}

-- the meshes in the order given
abbrev pub pairs_of : Meshes → List MeshPair
pairs_of meshes = take meshes.count meshes.pairs
