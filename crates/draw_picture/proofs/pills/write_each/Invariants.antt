use Rattle.std.proofs.Common.{◌≡◌, ◌++◌, length}
use Rattle.draw_picture.specs.Captions.{each_text}
use Rattle.draw_picture.proofs.pills.write_each.Given as goal

abbrev pub invariant-loop-rest : goal.invariant-loop-rest
invariant-loop-rest l = l.text.items ++ each_text l.row l.rest ≡ l.initial.text.items ++ each_text 0 l.captions

abbrev pub decreases-loop-rest : goal.decreases-loop-rest
decreases-loop-rest l = length l.rest
