use Rattle.mesh_bits.proofs.BitsLemmas.{found_clear, found_place}
use Rattle.mesh_bits.proofs.bitmap.Bits.nth_clear.Goals as goal

pub returns-clause-clear : goal.returns-clause-clear
returns-clause-clear c = found_clear _ _ _ _ c.self.view_is c.nth_clear_bit.ensures.clear

pub returns-clause-place : goal.returns-clause-place
returns-clause-place c =
    found_place _ _ _ _ _ c.self.view_is c.nth_clear_bit.ensures.clear c.nth_clear_bit.ensures.place
