use Rattle.mesh_bits.proofs.BitsLemmas.{members_zeros}
use Rattle.mesh_bits.proofs.bitmap.Bits.new.Goals as goal

pub returns : goal.returns
returns c = members_zeros c.args.width
