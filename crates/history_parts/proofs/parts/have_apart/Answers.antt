use Rattle.std.proofs.Common.{length, refl}
use Rattle.std.proofs.lemmas.Option.{slice_get_read}
use Rattle.history_object.specs.declared.access.Access.{Access}
use Rattle.history_object.specs.Carried.{IsKept}
use Rattle.history_object.specs.ObjectBytes.{effect}
use Rattle.history_parts.specs.Aside.{AreApart}
use Rattle.history_parts.proofs.Fronts.{of_all, one_more}
use Rattle.history_parts.proofs.parts.have_apart.Goals as goal

pub loop-store-preserved : goal.loop-store-preserved
loop-store-preserved c =
    let stores = c.args.stores.now in
    one_more (λ (store : Access). (other : Access) → IsKept c.args.more.now other → AreApart effect store other) stores c.loop-store.store-index c.store-item.result
    (slice_get_read stores (length stores) c.loop-store.store-index c.store-item.result refl c.loop-store-test.true c.store-item.is)
    (c.if-not-is_apart_from.ensures refl) c.loop-store.invariant

pub returns : goal.returns
returns c = λ _ a b is_a is_b.
    of_all (λ (store : Access). (other : Access) → IsKept c.args.more.now other → AreApart effect store other) c.args.stores.now c.loop-store.store-index
    c.loop-store-test.false c.loop-store.invariant a is_a b is_b
