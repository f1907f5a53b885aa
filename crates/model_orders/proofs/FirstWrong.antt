-- A list has no wrong step if and only if the rule allows it.
use Rattle.std.proofs.Common.{◌≡◌, ◌↔◌, ℕ, ◌+◌, Bool, true, false, ◌&&◌, not, Option, Some, None, List, [], ◌∷◌, ap, refl, ◌∙◌}
use Rattle.std.specs.Option.{is_none}
use Rattle.std.proofs.Math.Bool.{and_assoc}
use Rattle.model_orders.specs.declared.steps.Step.{Step}
use Rattle.model_orders.specs.declared.steps.Step.TheVariants.{Protect, Hide, Copy, Remap, Unprotect, Release}
use Rattle.model_orders.specs.declared.facts.Protection.{Protection}
use Rattle.model_orders.specs.declared.facts.Protection.TheVariants.{ReadWrite, ReadOnly, Hidden}
use Rattle.model_orders.specs.declared.facts.Side.{Side}
use Rattle.model_orders.specs.declared.facts.Side.TheVariants.{Source, Destination}
use Rattle.model_orders.specs.declared.facts.Truth.{Truth}
use Rattle.model_orders.specs.declared.facts.Truth.TheVariants.{InSource, InBoth, InDestination}
use Rattle.model_orders.specs.declared.facts.Facts.{Facts}
use Rattle.model_orders.specs.declared.wrong.Reason.{Reason}
use Rattle.model_orders.specs.declared.wrong.Wrong.{Wrong}
use Rattle.model_orders.specs.Rule.{facts_after, first_facts, is_over, is_right, is_right_between, is_right_from, is_settled, may_copy, may_make, may_release}
use Rattle.model_orders.specs.Wrong.{access_fault, copy_fault, end_fault, fault_of, first_of_two, first_wrong, first_wrong_from, release_fault, step_fault, wrong_here}

copy_same : (t : Truth) → is_none (copy_fault t) ≡ may_copy t
copy_same InSource = refl
copy_same InBoth = refl
copy_same InDestination = refl

release_same : (side : Side) (t : Truth) (released : Bool) → is_none (release_fault side t released) ≡ may_release side t && not released
release_same Source t released = refl
release_same Destination InSource released = refl
release_same Destination InBoth true = refl
release_same Destination InBoth false = refl
release_same Destination InDestination true = refl
release_same Destination InDestination false = refl

pub step_same : (step : Step) (facts : Facts) → is_none (step_fault step facts) ≡ may_make step facts
step_same Protect facts = refl
step_same Hide facts = refl
step_same Copy facts = copy_same facts.truth
step_same Remap facts = refl
step_same Unprotect facts = refl
step_same Release facts = release_same facts.target facts.truth facts.released

pub access_same : (protection : Protection) (side : Side) (t : Truth) → is_none (access_fault protection side t) ≡ is_settled protection side t
access_same ReadWrite Source InSource = refl
access_same ReadWrite Source InBoth = refl
access_same ReadWrite Source InDestination = refl
access_same ReadWrite Destination InSource = refl
access_same ReadWrite Destination InBoth = refl
access_same ReadWrite Destination InDestination = refl
access_same ReadOnly Source InSource = refl
access_same ReadOnly Source InBoth = refl
access_same ReadOnly Source InDestination = refl
access_same ReadOnly Destination InSource = refl
access_same ReadOnly Destination InBoth = refl
access_same ReadOnly Destination InDestination = refl
access_same Hidden side t = refl

end_same : (side : Side) (protection : Protection) (released : Bool) → is_none (end_fault side protection released) ≡ is_over protection side released
end_same Source ReadWrite released = refl
end_same Source ReadOnly released = refl
end_same Source Hidden released = refl
end_same Destination ReadOnly released = refl
end_same Destination Hidden released = refl
end_same Destination ReadWrite true = refl
end_same Destination ReadWrite false = refl

two_same : (one other : Option Reason) → is_none (first_of_two one other) ≡ is_none one && is_none other
two_same (Some reason) other = refl
two_same None other = refl

here_same : (place : ℕ) (one : Option Reason) (other : Option Wrong) → is_none (wrong_here place one other) ≡ is_none one && is_none other
here_same place (Some reason) other = refl
here_same place None other = refl

pub fault_same : (step : Step) (facts : Facts) → is_none (fault_of step facts) ≡ may_make step facts && is_right_between (facts_after step facts)
fault_same step facts =
    let after = facts_after step facts in
    two_same (step_fault step facts) (access_fault after.protection after.target after.truth)
    ∙ ap (λ b. b && is_none (access_fault after.protection after.target after.truth)) (step_same step facts)
    ∙ ap (λ b. may_make step facts && b) (access_same after.protection after.target after.truth)

and-true : (b : Bool) → b && true ≡ b
and-true true = refl
and-true false = refl

-- the test for a wrong step is the rule
pub wrong_same : (steps : List Step) (place : ℕ) (facts : Facts) → is_none (first_wrong_from place facts steps) ≡ is_right_from facts steps
wrong_same [] place facts =
    here_same place (end_fault facts.target facts.protection facts.released) None
    ∙ and-true (is_none (end_fault facts.target facts.protection facts.released)) ∙ end_same facts.target facts.protection facts.released
wrong_same (step ∷ steps) place facts =
    let after = facts_after step facts in
    here_same place (fault_of step facts) (first_wrong_from (place + 1) after steps)
    ∙ ap (λ b. b && is_none (first_wrong_from (place + 1) after steps)) (fault_same step facts)
    ∙ ap (λ b. may_make step facts && is_right_between after && b) (wrong_same steps (place + 1) after)
    ∙ and_assoc (may_make step facts) (is_right_between after) (is_right_from after steps)

none_exactly : (wrong : Option Wrong) (b : Bool) → is_none wrong ≡ b → (wrong ≡ None) ↔ (b ≡ true)
none_exactly None true same = (λ _. refl, λ _. refl)
none_exactly None false same = absurd (cc same)
none_exactly (Some wrong) true same = absurd (cc same)
none_exactly (Some wrong) false same = (λ none. absurd (cc none), λ is. absurd (cc is))

pub wrong_exactly : (steps : List Step) → (first_wrong steps ≡ None) ↔ (is_right steps ≡ true)
wrong_exactly steps = none_exactly (first_wrong steps) (is_right steps) (wrong_same steps 0 first_facts)
