use Rattle.std.proofs.Common.{◌≡◌, ◌+◌, ◌≤◌, ℕ, List, length, slice_range, Some, ap, sym, arith, ◌∙◌}
use Rattle.std.specs.Ordering.{nat_cmp}
use Rattle.std.specs.BTreeMap.{get}
use Rattle.model_memory.specs.Memory.{overwritten, with_object}
use Rattle.history_in_order.specs.Objects.{LiveObject}
use Rattle.history_in_order.proofs.Commands.{done_is_ok}
use Rattle.history_in_order.proofs.Lines.{stored_keeps}
use Rattle.history_in_order.proofs.Trees.{overwritten_stands}
use Rattle.history_in_order.proofs.memory.Tracked.copy.Goals as goal

pub store-requires : goal.store-requires
store-requires c = λ o at.
    let copied = c.in_ok-number.ensures.copied in
    let same : copied.0 ≡ o = cc (sym copied.1 ∙ at) in
    let l : length copied.0.object.bytes ≡ length o.object.bytes = ap (λ (x : LiveObject). length x.object.bytes) same in
    let bytes = slice_range c.in_ok-number.source.now.object.bytes c.args.from_off (c.args.from_off + c.args.len) in
    let loaded : c.as_slice.result.now ≡ bytes
    = c.as_slice.ensures.value ∙ c.in_ok-bytes.ensures.bytes
    ∙ ap (λ (x : LiveObject). slice_range x.object.bytes c.args.from_off (c.args.from_off + c.args.len)) c.source.view_is in
    let k : length c.as_slice.result.now ≡ length bytes = ap (λ (x : List ℕ). length x) loaded in
    let fits : c.args.to_off + length bytes ≤ length copied.0.object.bytes = copied.2 in omega (arith, l, k, fits)

pub returns-clause-done : goal.returns-clause-done
returns-clause-done c = λ r st.
    let copied = c.in_ok-number.ensures.copied in
    let live = copied.0 in
    let bytes = slice_range c.in_ok-number.source.now.object.bytes c.args.from_off (c.args.from_off + c.args.len) in
    let loaded : c.as_slice.result.now ≡ bytes
    = c.as_slice.ensures.value ∙ c.in_ok-bytes.ensures.bytes
    ∙ ap (λ (x : LiveObject). slice_range x.object.bytes c.args.from_off (c.args.from_off + c.args.len)) c.source.view_is in (
      with_object r.memory c.in_ok-number.number (Some (record live.object { bytes = overwritten live.object.bytes c.args.to_off bytes })),
      copied.3 r st,
      overwritten_stands _ _ _ _ r (get nat_cmp c.args.self.now.objects) (get nat_cmp c.store.new.objects) c.in_ok-number.number c.args.to_off live bytes
          c.as_slice.result.now st copied.1 loaded copied.2 (c.in_ok-store.ensures live copied.1),
    )

pub returns-in_err-store-clause-memory : goal.returns-in_err-store-clause-memory
returns-in_err-store-clause-memory c = λ is r st. done_is_ok _ _ (c.in_ok-number.ensures.copied.3 r st)

pub returns-clause-lined : goal.returns-clause-lined
returns-clause-lined c =
    let copied = c.in_ok-number.ensures.copied in
    stored_keeps (get nat_cmp c.args.self.now.objects) (get nat_cmp c.store.new.objects) c.in_ok-number.number copied.0 _ copied.1 (c.in_ok-store.ensures copied.0 copied.1)
