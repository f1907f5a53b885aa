use Rattle.std.proofs.Common.{List, refl, subst, arith}
use Rattle.history_object.specs.declared.access.Access.{Access}
use Rattle.history_object.specs.ObjectBytes.{effect}
use Rattle.history_parts.specs.Products.{AreSame, product}
use Rattle.history_parts.proofs.Fronts.{some_of}
use Rattle.history_parts.proofs.Joining.{split_so}
use Rattle.history_parts.proofs.split.split_by.Goals as goal

pub returns : goal.returns
returns c =
    let stores = c.in_ok-stores.stores.items in
    let many = c.if-len-lt2.false in
    let len = c.len.ensures in
    split_so c.args.kept.now c.in_ok-rest.rest stores c.args.range.off c.args.range.len (c.if-not-fits.ensures refl) c.in_ok-stores.ensures c.in_ok-rest.ensures
    (subst (λ (l : List Access). AreSame c.args.kept.now (product effect c.in_ok-rest.rest l)) c.as_slice.ensures.value (c.if-not-is_product.ensures refl))
    (some_of stores (omega (arith, many, len)))
