use Rattle.std.proofs.Common.{length}
use Rattle.text_fields.proofs.HexFields.{HasFront}
use Rattle.text_fields.proofs.hex.spells_bytes.Given as goal

abbrev pub invariant-loop-rest : goal.invariant-loop-rest
invariant-loop-rest l = HasFront l.field l.rest l.count l.most

abbrev pub decreases-loop-rest : goal.decreases-loop-rest
decreases-loop-rest l = length l.rest
