use Rattle.std.proofs.Common.{length, refl}
use Rattle.std.proofs.lemmas.Option.{slice_get_read}
use Rattle.history_object.specs.ObjectBytes.{effect}
use Rattle.history_parts.proofs.Gathered.{front_all, front_one}
use Rattle.history_parts.proofs.product.add_after_each.Goals as goal

pub loop-store-preserved : goal.loop-store-preserved
loop-store-preserved c =
    let stores = c.args.stores.now in
    front_one effect c.args.all.now c.loop-store.all c.add_after.new.all c.args.configuration.now stores c.loop-store.store-index c.store-item.result
    (slice_get_read stores (length stores) c.loop-store.store-index c.store-item.result refl c.loop-store-test.true c.store-item.is)
    c.in_ok-add_after.ensures c.loop-store.invariant

pub returns : goal.returns
returns c =
    front_all effect c.args.all.now c.loop-store.all c.args.configuration.now c.args.stores.now c.loop-store.store-index c.loop-store-test.false c.loop-store.invariant
