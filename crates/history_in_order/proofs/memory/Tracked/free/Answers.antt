use Rattle.std.proofs.Common.{ℕ, None, ap, subst}
use Rattle.std.specs.Ordering.{nat_cmp}
use Rattle.std.specs.BTreeMap.{get}
use Rattle.model_memory.specs.Memory.{with_object}
use Rattle.history_in_order.specs.Objects.{LiveObject, object_in}
use Rattle.history_in_order.specs.Stands.{IsSetAt}
use Rattle.history_in_order.proofs.Commands.{done_is_ok, free_done}
use Rattle.history_in_order.proofs.Trees.{freed_stands, objects_set, serials_set, updated}
use Rattle.history_in_order.proofs.memory.Tracked.free.Goals as goal

pub returns-clause-done : goal.returns-clause-done
returns-clause-done c = λ r st.
    let number = c.in_ok-number.number in
    let g = get nat_cmp c.args.self.now.objects in
    let g' = get nat_cmp c.remove.new.self in
    let gone = updated c.args.self.now.objects c.remove.new.self number None c.remove.ensures.updates in
    let start = ap (λ (o : LiveObject). o.object.address) c.object.view_is in
    let unset = subst (λ (a : ℕ). IsSetAt (get nat_cmp c.args.self.now.starts) (get nat_cmp c.remove-2.new.self) a None) start
    (updated c.args.self.now.starts c.remove-2.new.self c.object.inside.address None c.remove-2.ensures.updates) in (
      with_object r.memory number None,
      free_done r.memory c.args.cell _ (c.in_ok-number.ensures.named r st),
      freed_stands _ _ _ r _ _ _ _ _ _ _ c.args.cell number c.in_ok-number.object.now.object st (ap object_in c.in_ok-number.ensures.live)
          c.in_ok-number.ensures.number (objects_set g g' number None gone) (serials_set g g' number None gone) unset c.in_ok-free.ensures,
    )

pub returns-in_err-free-clause-memory : goal.returns-in_err-free-clause-memory
returns-in_err-free-clause-memory c = λ is r st. done_is_ok _ _ (free_done r.memory c.args.cell _ (c.in_ok-number.ensures.named r st))
