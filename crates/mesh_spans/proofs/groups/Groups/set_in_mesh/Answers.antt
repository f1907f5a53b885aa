use Rattle.std.proofs.Common.{sym, ◌∙◌}
use Rattle.mesh_spans.proofs.KeptLemmas.{changed_back}
use Rattle.mesh_spans.proofs.groups.Groups.set_in_mesh.Goals as goal

pub returns-in-Some : goal.returns-in-Some
returns-in-Some c =
    changed_back _ _ _ _ _ _ c.take.ensures.groups (sym c.take.ensures.group ∙ c.in-Some.is) (rw c.set_in_mesh.ensures at c.put_back.ensures)
