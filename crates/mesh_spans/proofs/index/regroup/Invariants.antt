use Rattle.mesh_spans.specs.Changes.{Regroups}
use Rattle.mesh_spans.proofs.index.regroup.Given as goal

abbrev pub invariant-loop-member : goal.invariant-loop-member
invariant-loop-member l = Regroups l.fn.spans.items l.spans.items l.members l.member-index l.group
