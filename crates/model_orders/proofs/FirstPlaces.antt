-- The first wrong step is the first one that no right list has there.
use Rattle.std.proofs.Common.{◌≡◌, ℕ, suc, ◌+◌, ◌<◌, ◌≤◌, ◌⊎◌, inl, inr, Bool, true, false, ◌&&◌, Option, Some, None, List, [], ◌∷◌, ◌++◌, take, length, ap, arith, refl, subst, sym, ◌∙◌}
use Rattle.std.specs.Option.{is_none}
use Rattle.std.proofs.lemmas.Bool.{and_parts}
use Rattle.std.proofs.Math.Bool.{and_assoc}
use Rattle.model_orders.specs.declared.steps.Step.{Step}
use Rattle.model_orders.specs.declared.steps.Step.TheVariants.{Protect, Hide, Copy, Remap, Unprotect, Release}
use Rattle.model_orders.specs.declared.facts.Protection.{Protection}
use Rattle.model_orders.specs.declared.facts.Protection.TheVariants.{ReadWrite, ReadOnly, Hidden}
use Rattle.model_orders.specs.declared.facts.Side.{Side}
use Rattle.model_orders.specs.declared.facts.Side.TheVariants.{Source, Destination}
use Rattle.model_orders.specs.declared.facts.Truth.{Truth}
use Rattle.model_orders.specs.declared.facts.Truth.TheVariants.{InSource, InBoth, InDestination}
use Rattle.model_orders.specs.declared.facts.Facts.{Facts}
use Rattle.model_orders.specs.declared.wrong.Reason.{Reason}
use Rattle.model_orders.specs.declared.wrong.Wrong.{Wrong}
use Rattle.model_orders.specs.Rule.{facts_after, first_facts, is_right_between, is_right_from, may_copy, may_make, truth_copied, truth_unprotected}
use Rattle.model_orders.specs.Wrong.{end_fault, fault_of, first_wrong, first_wrong_from, wrong_here}
use Rattle.model_orders.specs.WrongLaws.{IsFirstWrong}
use Rattle.model_orders.proofs.FirstWrong.{fault_same}
use Rattle.model_orders.proofs.Points.{released_target}

-- what the facts always keep
abbrev AreSound : Facts → Type 0
AreSound facts = (facts.truth ≡ InDestination → facts.target ≡ Destination) × (facts.released ≡ true → facts.truth ≡ InDestination)

-- steps that make a right list of what was made so far
completed : (protection : Protection) (side : Side) (t : Truth) (released : Bool) → (t ≡ InDestination → side ≡ Destination) → (released ≡ true → t ≡ InDestination)
    → (more : List Step) × (is_right_from (record { protection = protection; target = side; truth = t; released = released }) more ≡ true)
completed protection side InSource true mapped kept = absurd (cc (kept refl))
completed protection side InBoth true mapped kept = absurd (cc (kept refl))
completed protection Source InDestination released mapped kept = absurd (cc (mapped refl))
completed protection Source InSource false mapped kept = (Protect ∷ Copy ∷ Remap ∷ Unprotect ∷ Release ∷ [], refl)
completed protection Source InBoth false mapped kept = (Protect ∷ Copy ∷ Remap ∷ Unprotect ∷ Release ∷ [], refl)
completed protection Destination InSource false mapped kept = (Hide ∷ Copy ∷ Unprotect ∷ Release ∷ [], refl)
completed protection Destination InBoth false mapped kept = (Unprotect ∷ Release ∷ [], refl)
completed protection Destination InDestination false mapped kept = (Unprotect ∷ Release ∷ [], refl)
completed protection Destination InDestination true mapped kept = (Unprotect ∷ [], refl)

no_copy : (t : Truth) → may_copy t ≡ true → t ≡ InDestination → ⊥
no_copy InSource may is = cc is
no_copy InBoth may is = cc is
no_copy InDestination may is = cc may

copied_apart : (protection : Protection) (t : Truth) → may_copy t ≡ true → truth_copied protection t ≡ InDestination → ⊥
copied_apart ReadWrite t may is = no_copy t may is
copied_apart ReadOnly t may is = cc is
copied_apart Hidden t may is = cc is

unprotected_mapped : (side : Side) (t : Truth) → (t ≡ InDestination → side ≡ Destination) → truth_unprotected side t ≡ InDestination → side ≡ Destination
unprotected_mapped side InSource mapped is = absurd (cc is)
unprotected_mapped Source InBoth mapped is = absurd (cc is)
unprotected_mapped Destination InBoth mapped is = refl
unprotected_mapped side InDestination mapped is = mapped refl

step_sound : (step : Step) (facts : Facts) → AreSound facts → may_make step facts ≡ true → AreSound (facts_after step facts)
step_sound Protect facts sound may = sound
step_sound Hide facts sound may = sound
step_sound Copy facts sound may = (
  λ is. absurd (copied_apart facts.protection facts.truth may is),
  λ released. absurd (no_copy facts.truth may (sound.1 released)),
)
step_sound Remap facts sound may = (λ _. refl, sound.1)
step_sound Unprotect facts sound may = (
  unprotected_mapped facts.target facts.truth sound.0,
  λ released. ap (truth_unprotected facts.target) (sound.1 released),
)
step_sound Release facts sound may = (λ _. released_target facts.target facts.truth (and_parts _ _ may).0, λ _. refl)

-- what is wrong is wrong here, or further on
here_or_on : (place : ℕ) (one : Option Reason) (other : Option Wrong) (wrong : Wrong) → wrong_here place one other ≡ Some wrong
    → ((is_none one ≡ false) × (wrong.place ≡ place)) ⊎ ((is_none one ≡ true) × (other ≡ Some wrong))
here_or_on place (Some reason) other wrong is =
    let same : record { place = place; reason = reason } ≡ wrong = cc is in
    inl (refl, sym (ap (λ (w : Wrong). w.place) same))
here_or_on place None other wrong is = inr (refl, is)

-- what holds of the first wrong step of the steps that are left
record IsFirstFrom (facts : Facts) (steps : List Step) (place : ℕ) (wrong : Wrong) : Type 0 where
  pub made : ℕ
  pub is : wrong.place ≡ made + place
  pub within : made ≤ length steps
  pub refused : (more : List Step) → made < length steps → is_right_from facts (take (suc made) steps ++ more) ≡ false
  pub before : (more : List Step) × (is_right_from facts (take made steps ++ more) ≡ true)

forbidden : (step : Step) (facts : Facts) (rest : Bool) → is_none (fault_of step facts) ≡ false → may_make step facts && (is_right_between (facts_after step facts) && rest) ≡ false
forbidden step facts rest is =
    sym (and_assoc (may_make step facts) (is_right_between (facts_after step facts)) rest) ∙ ap (λ b. b && rest) (sym (fault_same step facts) ∙ is)

allowed : (step : Step) (facts : Facts) (rest b : Bool) → is_none (fault_of step facts) ≡ true → rest ≡ b
    → may_make step facts && (is_right_between (facts_after step facts) && rest) ≡ b
allowed step facts rest b is same =
    sym (and_assoc (may_make step facts) (is_right_between (facts_after step facts)) rest) ∙ ap (λ b. b && rest) (sym (fault_same step facts) ∙ is) ∙ same

first_from : (steps : List Step) (place : ℕ) (facts : Facts) (wrong : Wrong) → AreSound facts → first_wrong_from place facts steps ≡ Some wrong
    → IsFirstFrom facts steps place wrong
first_from [] place facts wrong sound is = elim (here_or_on place (end_fault facts.target facts.protection facts.released) None wrong is) [
  | inl here ↦ record {
    made = 0;
    is = (let at = here.1 in omega (arith, at));
    within = omega arith;
    refused = λ more some. absurd (omega (arith, some));
    before = completed facts.protection facts.target facts.truth facts.released sound.0 sound.1;
  }
  | inr on ↦ absurd (cc on.1)
]
first_from (step ∷ steps) place facts wrong sound is =
    let after = facts_after step facts in
    elim (here_or_on place (fault_of step facts) (first_wrong_from (place + 1) after steps) wrong is) [
      | inl here ↦ record {
        made = 0;
        is = (let at = here.1 in omega (arith, at));
        within = omega arith;
        refused = λ more some. forbidden step facts (is_right_from after more) here.0;
        before = completed facts.protection facts.target facts.truth facts.released sound.0 sound.1;
      }
      | inr on ↦ (
          let may = (and_parts (may_make step facts) (is_right_between after) (sym (fault_same step facts) ∙ on.0)).0 in
          let rest = first_from steps (place + 1) after wrong (step_sound step facts sound may) on.1 in
          let at = rest.is in
          let within = rest.within in
          record {
            made = suc rest.made;
            is = omega (arith, at);
            within = omega (arith, within);
            refused = λ more some. allowed step facts (is_right_from after (take (suc rest.made) steps ++ more)) false on.0 (rest.refused more (omega (arith, some)));
            before = (rest.before.0, allowed step facts (is_right_from after (take rest.made steps ++ rest.before.0)) true on.0 rest.before.1);
          })
    ]

pub first_is_first : (steps : List Step) (wrong : Wrong) → first_wrong steps ≡ Some wrong → IsFirstWrong steps wrong
first_is_first steps wrong is =
    let first = first_from steps 0 first_facts wrong (λ e. absurd (cc e), λ e. absurd (cc e)) is in
    let at = first.is in
    let same : first.made ≡ wrong.place = omega (arith, at) in
    let next : suc first.made ≡ wrong.place + 1 = omega (arith, at) in
    let within = first.within in
    record {
      within = omega (arith, at, within);
      refused = λ more some. subst (λ (n : ℕ). is_right_from first_facts (take n steps ++ more) ≡ false) next (first.refused more (omega (arith, at, some)));
      before = (first.before.0, subst (λ (n : ℕ). is_right_from first_facts (take n steps ++ first.before.0) ≡ true) same first.before.1);
    }
