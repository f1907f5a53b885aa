use Rattle.std.proofs.Common.{[], ◌∷◌, arith, refl}
use Rattle.model_orders.specs.Pages.{Make, Store}
use Rattle.model_orders.proofs.Witnesses.{wrong_by, wrong_held}
use Rattle.model_orders.proofs.rule_laws.forbidden_lists.Goals as goal

pub returns : goal.returns
returns c = record {
  copied_early = (refl, wrong_by _ (Make 0 ∷ Store 0 0 7 ∷ Make 0 ∷ Make 0 ∷ []) 5 7 refl refl (λ e. omega (arith, e)) refl (λ e. cc e));
  remapped_early = (refl, wrong_by _ (Make 0 ∷ Make 0 ∷ []) 0 5 refl refl (λ e. omega (arith, e)) refl (λ e. cc e));
  unprotected_early = (refl, wrong_by _ (Make 0 ∷ Make 0 ∷ Make 0 ∷ Store 0 0 7 ∷ Make 0 ∷ []) 5 7 refl refl (λ e. omega (arith, e)) refl (λ e. cc e));
  never_copied = (refl, wrong_by _ (Make 0 ∷ Make 0 ∷ Make 0 ∷ Make 0 ∷ []) 0 5 refl refl (λ e. omega (arith, e)) refl (λ e. cc e));
  copied_late = (refl, wrong_by _ (Make 0 ∷ Make 0 ∷ Make 0 ∷ Make 0 ∷ Store 0 0 7 ∷ Make 0 ∷ Make 0 ∷ []) 5 7 refl refl (λ e. omega (arith, e)) refl (λ e. cc e));
  hidden_late = (refl, wrong_by _ (Make 0 ∷ []) 0 5 refl refl (λ e. omega (arith, e)) refl (λ e. cc e));
  released_early = (refl, wrong_held _ (Make 0 ∷ Make 0 ∷ Make 0 ∷ []) refl refl);
}
