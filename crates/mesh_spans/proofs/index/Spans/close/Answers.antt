use Rattle.mesh_spans.proofs.FlagLemmas.{closed_flag}
use Rattle.mesh_spans.proofs.index.Spans.close.Goals as goal

pub returns-clause-closed : goal.returns-clause-closed
returns-clause-closed c = λ m. rw c.set_in_mesh.ensures.groups (closed_flag c.args.self.now.groups c.args.n m c.requires)
