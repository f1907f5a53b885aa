use Rattle.std.proofs.Common.{◌∙◌, sym}
use Rattle.std.specs.Ordering.{nat_cmp}
use Rattle.std.specs.BTreeMap.{get}
use Rattle.history_in_order.proofs.Kept.{absent_bytes, kept_bytes}
use Rattle.history_in_order.proofs.chunks.chunk_bytes.Goals as goal

pub returns-in-Some-clause-bytes : goal.returns-in-Some-clause-bytes
returns-in-Some-clause-bytes c = c.bytes.ensures.bytes ∙ sym (kept_bytes (get nat_cmp c.args.chunks.now) c.args.number c.in-Some.kept.now (sym c.in-Some.ensures.value))

pub returns-in-None-clause-bytes : goal.returns-in-None-clause-bytes
returns-in-None-clause-bytes c = sym (absent_bytes (get nat_cmp c.args.chunks.now) c.args.number (sym c.in-None.ensures.value))
