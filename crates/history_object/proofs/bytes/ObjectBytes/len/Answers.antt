use Rattle.std.proofs.Common.{ap, sym, ◌∙◌}
use Rattle.history_object.specs.ObjectBytes.{State}
use Rattle.history_object.proofs.Offsets.{bytes_of-length}
use Rattle.history_object.proofs.bytes.ObjectBytes.len.Goals as goal

pub returns : goal.returns
returns c = ap (λ (s : State). s.len) c.self.view_is ∙ sym (bytes_of-length c.args.self.now)
