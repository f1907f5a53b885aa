use Rattle.std.proofs.Common.{◌<◌, List, Option, Err, ap, length, refl, sym, subst}
use Rattle.std.proofs.lemmas.Option.{slice_get_read}
use Rattle.history_object.specs.declared.access.Access.{Access}
use Rattle.history_object.specs.declared.configuration.Configuration.{Configuration}
use Rattle.history_object.specs.ObjectBytes.{State, effect}
use Rattle.history_object.proofs.Found.{returned}
use Rattle.history_parts.specs.declared.part.Part.{Part}
use Rattle.history_parts.specs.Parts.{AreFree, stores_of}
use Rattle.history_parts.specs.Products.{AreSame, HasMoreThan, product}
use Rattle.history_parts.proofs.Joining.{more_joined, part_joined, product_same}
use Rattle.history_parts.proofs.parts.join.Goals as goal

pub loop-place-preserved : goal.loop-place-preserved
loop-place-preserved c =
    let parts = c.loop-place.parts.items in
    let place = c.in-Some.place in
    let part = c.index.result.now in
    let judge = c.loop-place.judge in
    let within : place < length parts = subst (λ (l : List Part). place < length l) c.as_slice.ensures.value c.in-Some.ensures in
    let at = slice_get_read parts (length parts) place part refl within c.index.ensures in
    let made = product_same c.kept.result.now c.in_ok-all.all c.as_slice-in-Some.result.now c.in_ok-all.ensures.all in
    let of_kept = subst (λ (l : List (Configuration State)). AreSame c.in_ok-all.all (product effect l c.as_slice-in-Some.result.now)) c.kept.ensures made in
    let of_part = subst (λ (l : List Access). AreSame c.in_ok-all.all (product effect judge.standing.kept l)) c.as_slice-in-Some.ensures.value of_kept in
    let same = subst (λ (l : List (Configuration State)). AreSame l (product effect judge.standing.kept part.stores.items)) (sym c.put_kept.ensures.kept) of_part in
    let on = part_joined c.args.judge.now judge c.put_kept.new.self c.args.parts.now.items parts c.remove-part.new.self.items place part at c.remove-part.ensures.items
    c.put_kept.ensures.numbers c.put_kept.ensures.pending same c.loop-place.invariant.same c.loop-place.invariant.aside in
    record { same = on.0; aside = on.1 }

pub returns-clause-free : goal.returns-clause-free
returns-clause-free c =
    subst (λ (l : List (Option Access)). AreFree l (stores_of c.loop-place.parts.items)) c.pending.ensures
    (subst (λ (l : List Part). AreFree c.pending.result.now (stores_of l)) c.as_slice.ensures.value c.in_default.ensures)

pub returns-then-not-called-clause-free : goal.returns-then-not-called-clause-free
returns-then-not-called-clause-free c = c.requires.free c.if-not-called.true

pub returns-in_err-all-clause-many : goal.returns-in_err-all-clause-many
returns-in_err-all-clause-many c = λ is.
    let parts = c.loop-place.parts.items in
    let place = c.in-Some.place in
    let part = c.index.result.now in
    let judge = c.loop-place.judge in
    let within : place < length parts = subst (λ (l : List Part). place < length l) c.as_slice.ensures.value c.in-Some.ensures in
    let at = slice_get_read parts (length parts) place part refl within c.index.ensures in
    let fault = ap (λ e. Err e) (returned _ _ _ c.from_residual.ensures.1 is) in
    let of_kept = subst (λ (l : List (Configuration State)). HasMoreThan c.args.most (product effect l c.as_slice-in-Some.result.now)) c.kept.ensures
    (c.in_err-all.ensures.many fault) in
    let of_part = subst (λ (l : List Access). HasMoreThan c.args.most (product effect judge.standing.kept l)) c.as_slice-in-Some.ensures.value of_kept in
    more_joined c.args.judge.now judge c.args.parts.now.items parts place c.args.most part at of_part c.loop-place.invariant.same c.loop-place.invariant.aside
