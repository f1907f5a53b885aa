use Rattle.std.proofs.Common.{List, length, refl, sym, subst}
use Rattle.std.proofs.lemmas.Option.{slice_get_read}
use Rattle.history_object.specs.declared.access.Access.{Access}
use Rattle.history_object.specs.Carried.{IsKept}
use Rattle.history_object.specs.ObjectBytes.{effect}
use Rattle.history_parts.specs.declared.part.Part.{Part}
use Rattle.history_parts.specs.Aside.{AreApart}
use Rattle.history_parts.proofs.Fronts.{of_all, one_more, part_with}
use Rattle.history_parts.proofs.parts.calls.Goals as goal

pub loop-part-preserved : goal.loop-part-preserved
loop-part-preserved c =
    let parts = c.args.parts.now in
    one_more (λ (part : Part). (store : Access) → IsKept part.stores.items store → AreApart effect c.args.access.now store) parts c.loop-part.part-index c.part-item.result
    (slice_get_read parts (length parts) c.loop-part.part-index c.part-item.result refl c.loop-part-test.true c.part-item.is)
    (subst (λ (l : List Access). (store : Access) → IsKept l store → AreApart effect c.args.access.now store) c.as_slice.ensures.value (c.if-not-is_apart_from.ensures refl))
    c.loop-part.invariant

pub returns : goal.returns
returns c = λ _. (
  c.if-called.false,
  λ stores store is is_store.
      let part = part_with c.args.parts.now stores is in
      of_all (λ (part : Part). (store : Access) → IsKept part.stores.items store → AreApart effect c.args.access.now store) c.args.parts.now c.loop-part.part-index
      c.loop-part-test.false c.loop-part.invariant part.0 part.1 store (subst (λ (l : List Access). IsKept l store) (sym part.2) is_store),
)
