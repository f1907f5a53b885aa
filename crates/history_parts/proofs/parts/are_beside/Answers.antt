use Rattle.std.proofs.Common.{List, length, refl, subst}
use Rattle.std.proofs.lemmas.Option.{slice_get_read}
use Rattle.history_object.specs.declared.access.Access.{Access}
use Rattle.history_parts.specs.declared.part.Part.{Part}
use Rattle.history_object.specs.ObjectBytes.{effect}
use Rattle.history_parts.specs.Aside.{ListsApart}
use Rattle.history_parts.proofs.Fronts.{of_all, one_more, part_with}
use Rattle.history_parts.proofs.parts.are_beside.Goals as goal

pub loop-part-preserved : goal.loop-part-preserved
loop-part-preserved c =
    let parts = c.args.parts.now in
    one_more (λ (part : Part). ListsApart effect part.stores.items c.args.stores.now) parts c.loop-part.part-index c.part-item.result
    (slice_get_read parts (length parts) c.loop-part.part-index c.part-item.result refl c.loop-part-test.true c.part-item.is)
    (subst (λ (l : List Access). ListsApart effect l c.args.stores.now) c.as_slice.ensures.value (c.if-not-have_apart.ensures refl)) c.loop-part.invariant

pub returns : goal.returns
returns c = λ _ more is.
    let part = part_with c.args.parts.now more is in
    subst (λ (l : List Access). ListsApart effect l c.args.stores.now) part.2
    (of_all (λ (part : Part). ListsApart effect part.stores.items c.args.stores.now) c.args.parts.now c.loop-part.part-index c.loop-part-test.false c.loop-part.invariant
    part.0 part.1)
