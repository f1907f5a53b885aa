use Rattle.std.proofs.lemmas.Bool.Decides.{same_from_decides}
use Rattle.mesh_bits.specs.Bits.{are_meshable}
use Rattle.mesh_bits.proofs.TwoSets.{apart_from_bits, bits_from_apart, same_width, are_meshable-apart, apart-are_meshable}
use Rattle.mesh_bits.proofs.bitmap.Bits.disjoint.Goals as goal

pub returns-clause-apart : goal.returns-clause-apart
returns-clause-apart c =
    rw (← c.self.view_is, ← c.other.view_is, same_width _ _ _ _ _ _ c.self.view_is c.other.view_is c.requires) (
      λ h. apart_from_bits c.self.inside.words c.other.inside.words c.self.inside.width c.self.invariant.most (c.share_no_bit.ensures.0 h),
      λ h. c.share_no_bit.ensures.1 (bits_from_apart c.self.inside.words c.other.inside.words c.self.inside.width c.self.invariant h),
    )

pub returns-clause-meshable : goal.returns-clause-meshable
returns-clause-meshable c =
    same_from_decides c.share_no_bit.result (are_meshable c.args.self.now c.args.other.now) (returns-clause-apart c)
    (are_meshable-apart c.args.self.now c.args.other.now, apart-are_meshable c.args.self.now c.args.other.now)
