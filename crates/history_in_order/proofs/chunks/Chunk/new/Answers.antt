use Rattle.std.proofs.Common.{None, ap, refl, sym, ◌∙◌}
use Rattle.history_in_order.specs.declared.chunks.Stores.{Stores}
use Rattle.history_in_order.proofs.Kept.{absent_bytes}
use Rattle.history_in_order.proofs.chunks.Chunk.new.Goals as goal

pub returns : goal.returns
returns c = ap (λ (s : Stores). s.bytes) c.in_ok-new.ensures.ok ∙ sym (absent_bytes (λ _. None) 0 refl)
