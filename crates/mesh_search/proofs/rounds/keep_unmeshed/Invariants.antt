use Rattle.std.proofs.Common.{◌≡◌, ◌++◌, drop}
use Rattle.mesh_search.specs.Views.{unmeshed}
use Rattle.mesh_search.proofs.rounds.keep_unmeshed.Given as goal

abbrev pub invariant-loop-j : goal.invariant-loop-j
invariant-loop-j l = l.kept.items ++ unmeshed (drop l.j l.answers) (drop l.j l.places) ≡ l.fn.kept.items ++ unmeshed l.answers l.places
