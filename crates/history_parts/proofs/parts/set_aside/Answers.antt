use Rattle.std.proofs.Common.{◌≡◌, ◌∙◌, inl, inr, List, [], ◌∷◌, ◌++◌, Option, ap, refl, sym, subst}
use Rattle.history_object.specs.declared.configuration.Configuration.{Configuration}
use Rattle.history_object.specs.ObjectBytes.{State}
use Rattle.history_object.specs.declared.access.Access.{Access}
use Rattle.history_parts.specs.declared.part.Part.{Part}
use Rattle.history_parts.specs.Parts.{AreAside, AreBeside, AreFree, IsSameWhole, stores_of}
use Rattle.history_object.specs.Carried.{IsKept}
use Rattle.history_object.specs.ObjectBytes.{effect}
use Rattle.history_parts.specs.Aside.{IsApartFrom}
use Rattle.history_parts.specs.Splits.{IsSplit}
use Rattle.history_parts.proofs.Beside.{last_or, stores_more}
use Rattle.history_parts.proofs.Joining.{part_set}
use Rattle.history_parts.proofs.parts.set_aside.Goals as goal

so : (c : goal.After-put_kept) → IsSameWhole c.args.judge.now c.put_kept.new.self c.args.parts.now.items c.push.new.self.items
    × AreAside c.put_kept.new.self.standing.kept (stores_of c.push.new.self.items)
so c =
    let old = c.args.judge.now in
    let stores = c.in-Some.split.stores.items in
    let found : IsSplit c.kept-2.result.now c.in-Some.split.rest stores = rw c.in-Some.is at c.in_ok-split.ensures in
    let kept : IsSplit old.standing.kept c.in-Some.split.rest stores =
    subst (λ (l : List (Configuration State)). IsSplit l c.in-Some.split.rest stores) c.kept-2.ensures found in
    let now : IsSplit old.standing.kept c.put_kept.new.self.standing.kept stores =
    subst (λ (l : List (Configuration State)). IsSplit old.standing.kept l stores) (sym c.put_kept.ensures.kept) kept in
    let beside : AreBeside stores (stores_of c.args.parts.now.items) =
    subst (λ (l : List Part). AreBeside stores (stores_of l)) c.as_slice-else-not-are_free-2.ensures.value
    (subst (λ (l : List Access). AreBeside l (stores_of c.as_slice-else-not-are_free-2.result.now)) c.as_slice-else-not-are_free.ensures.value
    (c.if-not-are_beside.ensures refl)) in
    part_set old c.put_kept.new.self c.args.parts.now.items c.push.new.self.items (record { stores = c.in-Some.split.stores }) c.in_ok-push.ensures.items
    c.put_kept.ensures.numbers c.put_kept.ensures.pending c.requires.aside now beside

pub returns-clause-same : goal.returns-clause-same
returns-clause-same c = (so c).0

pub returns-clause-aside : goal.returns-clause-aside
returns-clause-aside c = (so c).1

pub returns-clause-free : goal.returns-clause-free
returns-clause-free c = λ free more store is is_store.
    let stores = c.in-Some.split.stores.items in
    let pending = c.args.judge.now.standing.pending in
    let part : Part = record { stores = c.in-Some.split.stores } in
    let lists : stores_of c.push.new.self.items ≡ stores_of c.args.parts.now.items ++ stores ∷ [] =
    ap (λ (l : List Part). stores_of l) c.in_ok-push.ensures.items ∙ stores_more c.args.parts.now.items part in
    let own : (store : Access) → IsKept stores store → IsApartFrom effect pending store =
    subst (λ (l : List (Option Access)). (store : Access) → IsKept stores store → IsApartFrom effect l store) c.pending-2.ensures
    (subst (λ (l : List Access). (store : Access) → IsKept l store → IsApartFrom effect c.pending-2.result.now store) c.as_slice.ensures.value (c.if-not-are_free.ensures refl)) in
    let at = subst (λ (l : List (List Access)). IsKept l more) lists is in
    subst (λ (l : List (Option Access)). IsApartFrom effect l store) (sym c.put_kept.ensures.pending)
    (elim (last_or (stores_of c.args.parts.now.items) stores more at) [
      | inl before ↦ free more store before is_store
      | inr same ↦ own store (subst (λ (l : List Access). IsKept l store) (sym same) is_store)
    ])

pub returns-in_err-push-clause-free : goal.returns-in_err-push-clause-free
returns-in_err-push-clause-free c = λ free.
    subst (λ (l : List Part). AreFree c.args.judge.now.standing.pending (stores_of l)) (sym c.in_err-push.ensures.items) free
