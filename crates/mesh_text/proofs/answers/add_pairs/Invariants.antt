use Rattle.std.proofs.Common.{◌≡◌, ◌++◌, take}
use Rattle.std.specs.List.{flat_map}
use Rattle.std.specs.Prelude.{map}
use Rattle.model_jobs.specs.Texts.{pair_text}
use Rattle.mesh_search.specs.Pairs.{pairing}
use Rattle.mesh_text.proofs.answers.add_pairs.Given as goal

abbrev pub invariant-loop-pair : goal.invariant-loop-pair
invariant-loop-pair l = l.text.items ≡ l.initial.text.items ++ flat_map pair_text (map pairing (take l.pair-index l.pairs))
