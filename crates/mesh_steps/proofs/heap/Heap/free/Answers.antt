use Rattle.std.proofs.Common.{Option, IfSome, ap, is_some, refl, subst, sym}
use Rattle.mesh_steps.specs.Heap.{Heap, IsObjectAt, IsReferred}
use Rattle.mesh_page_heap.specs.declared.answers.Occupied.{Occupied}
use Rattle.mesh_steps.proofs.MadeObjects.{emptied_sound, freed_heap, freed_is}
use Rattle.mesh_page_heap.proofs.NewPlaces.{record_there}
use Rattle.mesh_steps.proofs.heap.Heap.free.Goals as goal

pub take_out-requires-clause-there : goal.take_out-requires-clause-there
take_out-requires-clause-there c =
    let there = subst (λ (r : Option Occupied). IfSome r (IsReferred c.args.self.now c.args.object)) c.in_ok-live.ensures.ok_part c.live.ensures.there in
    let at = subst (λ (h : Heap). IsObjectAt h c.args.object.addr c.in_ok-live.live) (sym c.self.view_is) there.at in
    let is = at.in_slot.standing.recorded in
    ap is_some (record_there _ _ _ _ _ _ _ is.below refl is.there is.filled)

pub take_out-requires-clause-sound : goal.take_out-requires-clause-sound
take_out-requires-clause-sound c =
    let there = subst (λ (r : Option Occupied). IfSome r (IsReferred c.args.self.now c.args.object)) c.in_ok-live.ensures.ok_part c.live.ensures.there in
    let at = subst (λ (h : Heap). IsObjectAt h c.args.object.addr c.in_ok-live.live) (sym c.self.view_is) there.at in
    emptied_sound (record { pages = c.self.inside.pages; next_serial = c.self.inside.next_serial }) c.args.object.addr c.in_ok-live.live c.self.invariant at

pub invariant_of-self : goal.invariant_of-self
invariant_of-self c =
    let there = subst (λ (r : Option Occupied). IfSome r (IsReferred c.args.self.now c.args.object)) c.in_ok-live.ensures.ok_part c.live.ensures.there in
    let at = subst (λ (h : Heap). IsObjectAt h c.args.object.addr c.in_ok-live.live) (sym c.self.view_is) there.at in
    let out = c.take_out.ensures in
    freed_heap _ _ _ _ c.self.invariant at (record { table = out.table; arena = out.arena; map = out.map })

pub returns-clause-freed : goal.returns-clause-freed
returns-clause-freed c =
    let there = subst (λ (r : Option Occupied). IfSome r (IsReferred c.args.self.now c.args.object)) c.in_ok-live.ensures.ok_part c.live.ensures.there in
    let at = subst (λ (h : Heap). IsObjectAt h c.args.object.addr c.in_ok-live.live) (sym c.self.view_is) there.at in
    let out = c.take_out.ensures in
    rw (← c.self.view_is) (freed_is _ _ _ _ c.self.invariant at there.serial there.begins (record { table = out.table; arena = out.arena; map = out.map }))
