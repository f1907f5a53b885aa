use Rattle.std.proofs.Common.{refl}
use Rattle.history_parts.proofs.Joining.{product_same}
use Rattle.history_parts.proofs.split.is_product.Goals as goal

pub returns : goal.returns
returns c = λ both d.
    let made = product_same c.args.rest.now c.in-Ok.all c.args.stores.now c.in-Ok.ensures.all in
    (λ is. (made d).0 (c.are_among-2.ensures both d is), λ is. c.if-not-are_among.ensures refl d ((made d).1 is))
