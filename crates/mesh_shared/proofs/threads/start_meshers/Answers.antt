use Rattle.std.proofs.Common.{rules, ◌≡◌, None, Global, Vec, ap, sym, ◌∙◌, arith}
use Rattle.std.specs.declared.thread.PromisedHandle.{PromisedHandle}
use Rattle.mesh_shared.specs.declared.mesher.MesherEnd.{MesherEnd}
use Rattle.mesh_shared.specs.declared.mesher.Meshes.{Meshes}
use Rattle.mesh_shared.proofs.JoinedThreads.{one_mesher_more}
use Rattle.mesh_shared.proofs.threads.start_meshers.Goals as goal
use Rattle.mesh_shared.proofs.threads.start_meshers.Goals.{in-Err, in-Ok}

pub loop-number-preserved : goal.loop-number-preserved
loop-number-preserved g c =
    let was = c.loop-number.invariant in (
      search rules,
      search rules,
      search rules,
      λ started q d below. elim c.match-spawn_with.branch [
        | in-Ok w ↦ (
            let before : c.loop-number.refused ≡ None = sym w.refused-is ∙ started in
            one_mesher_more _ _ _ _ _ _ (omega (arith, was.2 before, c.loop-number.meshers.ok.0))
            (ap (λ (v : Vec (PromisedHandle MesherEnd Meshes) Global). v.items) w.meshers-is ∙ w.push_reserved.ensures.items)
            w.in-Ok.ensures.ok (was.3 before) _ _ below)
        | in-Err w ↦ absurd (cc (sym w.refused-is ∙ started))
      ],
      search rules,
    )
