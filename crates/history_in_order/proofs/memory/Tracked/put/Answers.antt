use Rattle.std.proofs.Common.{◌≡◌, ℕ, false, subst, sym}
use Rattle.std.specs.Ordering.{nat_cmp}
use Rattle.std.specs.BTreeMap.{get}
use Rattle.model_memory.specs.Plain.{ends_outside, stored}
use Rattle.history_in_order.proofs.Commands.{done_is_ok, inside, put_done}
use Rattle.history_in_order.proofs.Lines.{stored_keeps}
use Rattle.history_in_order.proofs.Trees.{overwritten_stands}
use Rattle.history_in_order.proofs.memory.Tracked.put.Goals as goal

pub returns-clause-done : goal.returns-clause-done
returns-clause-done c = λ r st.
    let live = c.in_ok-number.object.now in
    let fits = subst (λ (len : ℕ). ends_outside live.object c.args.off len ≡ false) c.len.ensures.value (sym c.if-ends_outside.ensures) in (
      stored r.memory (record { serial = c.in_ok-number.number; object = live.object }) c.args.off c.args.bytes.now.items,
      put_done r.memory c.args.cell c.args.off c.args.bytes.now _ (c.in_ok-number.ensures.named r st) fits,
      overwritten_stands _ _ _ _ r (get nat_cmp c.args.self.now.objects) (get nat_cmp c.store.new.objects) c.in_ok-number.number c.args.off live
          c.args.bytes.now.items c.as_slice.result.now st c.in_ok-number.ensures.live c.as_slice.ensures.value (inside live.object c.args.off _ fits)
          (c.in_ok-store.ensures live c.in_ok-number.ensures.live),
    )

pub returns-in_err-store-clause-memory : goal.returns-in_err-store-clause-memory
returns-in_err-store-clause-memory c = λ is r st.
    let fits = subst (λ (len : ℕ). ends_outside c.in_ok-number.object.now.object c.args.off len ≡ false) c.len.ensures.value (sym c.if-ends_outside.ensures) in
    done_is_ok _ _ (put_done r.memory c.args.cell c.args.off c.args.bytes.now _ (c.in_ok-number.ensures.named r st) fits)

pub returns-clause-lined : goal.returns-clause-lined
returns-clause-lined c =
    stored_keeps (get nat_cmp c.args.self.now.objects) (get nat_cmp c.store.new.objects) c.in_ok-number.number c.in_ok-number.object.now _ c.in_ok-number.ensures.live
    (c.in_ok-store.ensures c.in_ok-number.object.now c.in_ok-number.ensures.live)
