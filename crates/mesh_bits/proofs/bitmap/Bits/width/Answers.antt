use Rattle.std.proofs.Common.{length, ap, sym, ◌∙◌}
use Rattle.mesh_bits.proofs.BitsLemmas.{length_members}
use Rattle.mesh_bits.proofs.bitmap.Bits.width.Goals as goal

pub returns-clause-value : goal.returns-clause-value
returns-clause-value c = sym (length_members c.self.inside.words c.self.inside.width) ∙ ap length c.self.view_is
