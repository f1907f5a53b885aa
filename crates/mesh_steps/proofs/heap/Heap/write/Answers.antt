use Rattle.mesh_steps.proofs.Stores.{answers_refused, stored_past, stored_stale}
use Rattle.mesh_steps.proofs.heap.Heap.write.Goals as goal

pub returns-in_default-clause-refused : goal.returns-in_default-clause-refused
returns-in_default-clause-refused c refusal e =
    answers_refused _ _ _ _ (stored_stale c.args.self.now c.args.object c.args.off c.args.bytes.now c.in_default.ensures.none) e

pub returns-then-not-has_range-clause-refused : goal.returns-then-not-has_range-clause-refused
returns-then-not-has_range-clause-refused c refusal e =
    answers_refused _ _ _ _ (stored_past _ _ _ _ _ c.in-Some.ensures.there c.if-not-has_range.ensures.past) e

pub save-requires-clause-live : goal.save-requires-clause-live
save-requires-clause-live c = record { len = c.in-Some.live.len; recorded = c.in-Some.ensures.there.recorded; enough = c.if-not-has_range.ensures.within }
