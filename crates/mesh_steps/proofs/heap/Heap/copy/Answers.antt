use Rattle.std.proofs.Common.{◌+◌, inl, inr}
use Rattle.model_heap.specs.Mesh.{is_blocked}
use Rattle.mesh_steps.proofs.Copies.{copied_past, copy_stored}
use Rattle.mesh_steps.proofs.Stores.{answers_refused}
use Rattle.mesh_steps.specs.Heap.{IsStore, copied_at, plain_of, table_of}
use Rattle.mesh_steps.proofs.heap.Heap.copy.Goals.{After-save, then-not-has_range-via-then-not-has_range, then-not-has_range-via-else-not-has_range+then-not-has_range-2}
use Rattle.mesh_steps.proofs.heap.Heap.copy.Goals as goal

pub returns-then-not-has_range-clause-refused : goal.returns-then-not-has_range-clause-refused
returns-then-not-has_range-clause-refused c refusal e =
    answers_refused _ _ _ _ (copied_past _ _ _ _ _ _ _ _ c.in-Some.ensures.there c.in-Some-live.ensures.there (elim c.then-not-has_range.branch [
      | then-not-has_range-via-then-not-has_range w ↦ inl w.if-not-has_range.ensures.past
      | then-not-has_range-via-else-not-has_range+then-not-has_range-2 w ↦ inr w.if-not-has_range-2.ensures.past
    ])) e

-- what the store of the bytes comes to as a copy
stored : (c : After-save) → IsStore c.args.self.now c.save.new.self
    (copied_at (plain_of c.args.self.now) c.args.to c.args.to_off c.args.from c.args.from_off c.args.len)
    (is_blocked (table_of c.args.self.now) (c.args.to.addr + c.args.to_off) c.args.len) c.save.result
stored c =
    copy_stored _ _ _ _ _ _ _ _ _ _ _ _ c.live.ensures.sound c.in-Some.ensures.there c.in-Some-live.ensures.there
    c.if-not-has_range.ensures.within c.if-not-has_range-2.ensures.within c.fetch-bytes.ensures.count c.fetch-bytes.ensures.bytes c.as_slice.ensures.value
    c.save.ensures

pub returns : goal.returns
returns c = let is = stored c in record { done = is.done; blocked = is.blocked; refused = is.refused }
