use Rattle.std.proofs.Common.{◌≡◌, ◌≤◌, length, take}
use Rattle.mesh_search.specs.Views.{chosen, named}
use Rattle.mesh_search.proofs.split.named_places.Given as goal

abbrev pub invariant-loop-k : goal.invariant-loop-k
invariant-loop-k l =
    (chosen l.view l.places.items ≡ named l.view (take l.k l.numbers)) × (l.places.len ≡ l.k) × (length l.view.candidates ≤ l.places.cap)
    × (length l.view.candidates ≤ 65536)
