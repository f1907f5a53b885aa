use Rattle.std.proofs.Common.{List, length, refl, sym, subst}
use Rattle.std.proofs.lemmas.Option.{slice_get_read}
use Rattle.history_object.specs.declared.access.Access.{Access}
use Rattle.history_parts.specs.declared.part.Part.{Part}
use Rattle.history_object.specs.Carried.{IsKept}
use Rattle.history_object.specs.ObjectBytes.{effect}
use Rattle.history_parts.specs.Aside.{IsApartFrom}
use Rattle.history_parts.proofs.Fronts.{of_all, one_more, part_with}
use Rattle.history_parts.proofs.parts.first_called.Goals as goal

pub loop-place-preserved : goal.loop-place-preserved
loop-place-preserved c =
    let parts = c.args.parts.now in
    one_more (λ (part : Part). (store : Access) → IsKept part.stores.items store → IsApartFrom effect c.args.pending.now store) parts c.loop-place.place
    c.index-parts-place.result
    (slice_get_read parts (length parts) c.loop-place.place c.index-parts-place.result refl c.loop-place-test.true c.index-parts-place.is)
    (subst (λ (l : List Access). (store : Access) → IsKept l store → IsApartFrom effect c.args.pending.now store) c.as_slice.ensures.value (c.if-not-are_free.ensures refl))
    c.loop-place.invariant

pub returns : goal.returns
returns c = λ stores store is is_store.
    let part = part_with c.args.parts.now stores is in
    of_all (λ (part : Part). (store : Access) → IsKept part.stores.items store → IsApartFrom effect c.args.pending.now store) c.args.parts.now c.loop-place.place
    c.loop-place-test.false c.loop-place.invariant part.0 part.1 store (subst (λ (l : List Access). IsKept l store) (sym part.2) is_store)
