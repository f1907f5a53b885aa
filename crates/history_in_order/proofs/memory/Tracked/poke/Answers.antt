use Rattle.std.proofs.Common.{◌-◌, ℕ, ◌∷◌, [], Some, refl, arith, subst}
use Rattle.std.specs.Ordering.{nat_cmp}
use Rattle.std.specs.BTreeMap.{get}
use Rattle.model_memory.specs.Memory.{overwritten}
use Rattle.model_memory.specs.Plain.{stored}
use Rattle.history_in_order.specs.Objects.{with_bytes}
use Rattle.history_in_order.specs.Stands.{IsSetAt}
use Rattle.history_in_order.proofs.Commands.{done_is_ok, poke_done}
use Rattle.history_in_order.proofs.Lines.{stored_keeps}
use Rattle.history_in_order.proofs.Trees.{overwritten_stands}
use Rattle.history_in_order.proofs.memory.Tracked.poke.Goals as goal

pub returns-clause-done : goal.returns-clause-done
returns-clause-done c = λ r st.
    let live = c.in_ok-number.object.now in
    let off = c.args.address - live.object.address in
    let set = subst (λ (at : ℕ). IsSetAt (get nat_cmp c.args.self.now.objects) (get nat_cmp c.store.new.objects) c.in_ok-number.number
    (Some (with_bytes live (overwritten live.object.bytes at (c.args.byte ∷ []))))) c.offset_of-off.ensures.value (c.in_ok-store.ensures live c.in_ok-number.ensures.live) in
    let within = c.offset_of-off.ensures.within in
    let is = c.offset_of-off.ensures.value in (
      stored r.memory (record { serial = c.in_ok-number.number; object = live.object }) off (c.args.byte ∷ []),
      poke_done r.memory c.args.address c.args.byte _ (c.in_ok-number.ensures.held r st),
      overwritten_stands _ _ _ _ r (get nat_cmp c.args.self.now.objects) (get nat_cmp c.store.new.objects) c.in_ok-number.number off live (c.args.byte ∷ [])
          (c.args.byte ∷ []) st c.in_ok-number.ensures.live refl (omega (arith, within, is)) set,
    )

pub returns-in_err-store-clause-memory : goal.returns-in_err-store-clause-memory
returns-in_err-store-clause-memory c = λ is r st. done_is_ok _ _ (poke_done r.memory c.args.address c.args.byte _ (c.in_ok-number.ensures.held r st))

pub returns-clause-lined : goal.returns-clause-lined
returns-clause-lined c =
    stored_keeps (get nat_cmp c.args.self.now.objects) (get nat_cmp c.store.new.objects) c.in_ok-number.number c.in_ok-number.object.now _ c.in_ok-number.ensures.live
    (c.in_ok-store.ensures c.in_ok-number.object.now c.in_ok-number.ensures.live)
