use Rattle.std.proofs.Common.{ap, ◌∙◌}
use Rattle.mesh_bits.specs.Bits.{member_count}
use Rattle.mesh_bits.proofs.BitsLemmas.{member_count_words}
use Rattle.mesh_bits.proofs.bitmap.Bits.count.Goals as goal

pub returns : goal.returns
returns c =
    c.count_bits.ensures.count ∙ member_count_words _ _ c.count_bits.ensures.words c.self.invariant ∙ ap member_count c.self.view_is
