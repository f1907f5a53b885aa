use Rattle.std.proofs.Common.{refl, arith}
use Rattle.std.proofs.lemmas.Grind.{common_steps}
use Rattle.std.proofs.lemmas.List.{length-map}
use Rattle.mesh_spans.proofs.SlotLemmas.{clear_is_free, member_or_clear, picked}
use Rattle.mesh_spans.proofs.group.Group.free_slot.Goals as goal

pub returns-in_err-slot-clause-none : goal.returns-in_err-slot-clause-none
returns-in_err-slot-clause-none c = grind (arith, common_steps, member_or_clear)

pub returns-clause-picked : goal.returns-clause-picked
returns-clause-picked c =
    rw c.numbered.ensures (rw (← c.self.view_is) (picked _ _ _ _ _ _ _
    c.self.invariant.1 c.self.invariant.0.slots (grind (arith, common_steps)) refl c.in_ok-slot.ensures.place c.in_ok-slot.ensures.clear.0 c.in_ok-slot.ensures.clear.1))

pub returns-clause-free : goal.returns-clause-free
returns-clause-free c = grind (arith, clear_is_free, length-map)
