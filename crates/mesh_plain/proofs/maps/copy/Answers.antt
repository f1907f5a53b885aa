use Rattle.std.proofs.Common.{◌≡◌, ℕ, ◌∙◌, sym, subst, ap, length, Some, arith}
use Rattle.std.specs.Ordering.{nat_cmp}
use Rattle.std.specs.BTreeMap.{get}
use Rattle.model_memory.specs.Memory.{Object}
use Rattle.mesh_plain.proofs.maps.copy.Goals as goal

pub returns-then-to-from : goal.returns-then-to-from
returns-then-to-from c =
    let x = c.in-Some-Some.target.now in
    let e : get nat_cmp c.args.objects.now c.args.to.0 ≡ Some x = sym c.in-Some-Some.ensures.value in
    let d : get nat_cmp c.args.objects.now c.args.from.0 ≡ Some c.in-Some-Some.source.now = sym c.in-Some-Some.ensures'.value in
    let e' : get nat_cmp c.args.objects.now c.args.from.0 ≡ Some x = subst (λ (k : ℕ). get nat_cmp c.args.objects.now k ≡ Some x) c.if-to-from.true e in
    let lx : length c.target.inside.bytes.items ≡ length x.bytes = ap (λ (o : Object). length o.bytes) c.target.view_is in
    let ly : length c.source.inside.bytes.items ≡ length c.in-Some-Some.source.now.bytes = ap (λ (o : Object). length o.bytes) c.source.view_is in
    let same : c.in-Some-Some.source.now ≡ x = (let both : Some c.in-Some-Some.source.now ≡ Some x = sym d ∙ e' in cc both) in
    let lz : length c.in-Some-Some.source.now.bytes ≡ length x.bytes = ap (λ (o : Object). length o.bytes) same in
    let done = c.copy_in_one.ensures x e in
    (x, x, e, e', omega (arith, lx, c.len.ensures, c.if-len-to_start.false), omega (arith, ly, lz, c.len-else-len-to_start.ensures, c.if-len-from_start.false), done)

pub returns-else-to-from : goal.returns-else-to-from
returns-else-to-from c =
    let x = c.in-Some-Some.target.now in
    let y = c.in-Some-Some.source.now in
    let e : get nat_cmp c.args.objects.now c.args.to.0 ≡ Some x = sym c.in-Some-Some.ensures.value in
    let d : get nat_cmp c.args.objects.now c.args.from.0 ≡ Some y = sym c.in-Some-Some.ensures'.value in
    let lx : length c.target.inside.bytes.items ≡ length x.bytes = ap (λ (o : Object). length o.bytes) c.target.view_is in
    let ly : length c.source.inside.bytes.items ≡ length y.bytes = ap (λ (o : Object). length o.bytes) c.source.view_is in
    let done = c.copy_between.ensures x y e d in
    (x, y, e, d, omega (arith, lx, c.len.ensures, c.if-len-to_start.false), omega (arith, ly, c.len-else-len-to_start.ensures, c.if-len-from_start.false), done)
