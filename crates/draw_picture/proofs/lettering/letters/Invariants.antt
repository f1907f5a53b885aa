use Rattle.std.proofs.Common.{◌≡◌, length}
use Rattle.draw_picture.specs.Numbers.{counted}
use Rattle.draw_picture.specs.Lettering.{is_letter, letters}
use Rattle.draw_picture.proofs.lettering.letters.Given as goal

abbrev pub invariant-loop-rest : goal.invariant-loop-rest
invariant-loop-rest l = counted is_letter l.count l.rest ≡ letters l.words

abbrev pub decreases-loop-rest : goal.decreases-loop-rest
decreases-loop-rest l = length l.rest
