use Rattle.std.proofs.Common.{List, ℕ, ap, ◌∙◌}
use Rattle.mesh_shared.specs.MesherRuns.{words_in}
use Rattle.mesh_shared.proofs.Words.{words_cut}
use Rattle.mesh_shared.proofs.plan.MeshPlan.words_of.Goals as goal

pub returns : goal.returns
returns c =
    words_cut _ _ _ _ c.min-first.ensures c.min-end.ensures ∙ ap (λ (l : List ℕ). words_in l c.args.round) c.as_slice-all.ensures.value
