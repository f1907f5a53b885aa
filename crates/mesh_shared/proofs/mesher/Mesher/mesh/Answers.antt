use Rattle.std.proofs.Common.{◌≡◌, ℕ, Option, refl, subst, sym, ◌∙◌}
use Rattle.mesh_shared.specs.MesherRuns.{HasCounted}
use Rattle.mesh_shared.proofs.mesher.Mesher.mesh.Goals as goal

pub returns : goal.returns
returns g c =
    let made = c.make_rounds-rounds in
    let most : made.new.calls.budget.most ≡ c.args.most = made.ensures.most ∙ c.of-calls.ensures.most in record {
      named = refl;
      whole = λ left none. made.ensures.whole (λ over. left (sym most ∙ over)) none;
      few = λ n limit. made.new.calls.budget.within n (most ∙ limit);
      counted = subst (λ (m : Option ℕ). HasCounted c.args.self.now.plan.now.rounds m made.new.calls.budget.made made.result.1 made.new.calls.counts) most made.ensures.counted;
    }
