use Rattle.mesh_bits.proofs.TwoSets.{four_either}
use Rattle.mesh_bits.proofs.bitmap.either_bits.Goals as goal

pub returns : goal.returns
returns c = four_either c.args.words.now c.args.others.now
