use Rattle.std.proofs.Common.{ap, ◌∙◌}
use Rattle.mesh_bits.specs.Bits.{is_member}
use Rattle.mesh_bits.proofs.TwoSets.{members-union, clear_union, is_member-union, same_width}
use Rattle.mesh_bits.proofs.bitmap.Bits.union.Goals as goal

pub invariant_of-result : goal.invariant_of-result
invariant_of-result c =
    let same = same_width _ _ _ _ _ _ c.self.view_is c.other.view_is c.requires in
    clear_union c.self.inside.words c.other.inside.words c.either_bits.result c.self.inside.width c.self.invariant (rw same at c.other.invariant) c.either_bits.ensures

pub returns-clause-union : goal.returns-clause-union
returns-clause-union c =
    let same = same_width _ _ _ _ _ _ c.self.view_is c.other.view_is c.requires in
    rw (← c.self.view_is, ← c.other.view_is, same) (members-union _ _ _ _ c.self.invariant.most c.either_bits.ensures)

pub returns-clause-members : goal.returns-clause-members
returns-clause-members c =
    λ i. ap (λ set. is_member set i) (returns-clause-union c) ∙ is_member-union c.args.self.now c.args.other.now i
