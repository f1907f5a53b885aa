use Rattle.std.proofs.Common.{subst}
use Rattle.mesh_spans.specs.Index.{Index, IsIndex}
use Rattle.mesh_spans.proofs.index.Spans.sound.Goals as goal

pub returns : goal.returns
returns c = subst (λ (x : Index). IsIndex x.spans x.groups) c.self.view_is c.self.invariant.0
