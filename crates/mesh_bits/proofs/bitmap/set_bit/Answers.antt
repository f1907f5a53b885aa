use Rattle.std.proofs.Common.{◌%◌, ◌/◌, slice_index, refl, arith, w64}
use Rattle.std.proofs.lemmas.Nat.Bits.{bit_at_set_same, bit_at_set_other}
use Rattle.mesh_bits.proofs.BitsLemmas.{puts_in_word}
use Rattle.mesh_bits.proofs.bitmap.set_bit.Goals as goal

pub returns : goal.returns
returns c =
    puts_in_word _ _ _ _ (omega arith) (rw (bit_at_set_same w64 (slice_index c.args.words.now (c.args.i / 64)) (c.args.i % 64) (omega arith)) refl)
    (λ k below apart. bit_at_set_other w64 (slice_index c.args.words.now (c.args.i / 64)) (c.args.i % 64) (omega arith) k apart)
