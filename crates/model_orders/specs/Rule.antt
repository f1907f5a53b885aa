-- The rule that decides a list of steps by one walk over it.
use Rattle.std.specs.Prelude.{Bool, true, false, ◌&&◌, not, List, [], ◌∷◌}
use Rattle.model_orders.specs.declared.steps.Step.{Step}
use Rattle.model_orders.specs.declared.steps.Step.TheVariants.{Protect, Hide, Copy, Remap, Unprotect, Release}
use Rattle.model_orders.specs.declared.facts.Protection.{Protection}
use Rattle.model_orders.specs.declared.facts.Protection.TheVariants.{ReadWrite, ReadOnly, Hidden}
use Rattle.model_orders.specs.declared.facts.Side.{Side}
use Rattle.model_orders.specs.declared.facts.Side.TheVariants.{Source, Destination}
use Rattle.model_orders.specs.declared.facts.Truth.{Truth}
use Rattle.model_orders.specs.declared.facts.Truth.TheVariants.{InSource, InBoth, InDestination}
use Rattle.model_orders.specs.declared.facts.Facts.{Facts}

-- where a store leaves the right byte
abbrev pub truth_at : Side → Truth
truth_at Source = InSource
truth_at Destination = InDestination

-- where the right bytes are once stores are allowed
abbrev pub truth_unprotected : Side → Truth → Truth
truth_unprotected target InSource = InSource
truth_unprotected target InBoth = truth_at target
truth_unprotected target InDestination = InDestination

-- where the right bytes are after a copy. If stores are allowed, the copy is of no use
abbrev pub truth_copied : Protection → Truth → Truth
truth_copied ReadWrite truth = truth
truth_copied ReadOnly truth = InBoth
truth_copied Hidden truth = InBoth

-- the facts after a step
abbrev pub facts_after : Step → Facts → Facts
facts_after Protect facts = record facts { protection = ReadOnly }
facts_after Hide facts = record facts { protection = Hidden }
facts_after Copy facts = record facts { truth = truth_copied facts.protection facts.truth }
facts_after Remap facts = record facts { target = Destination }
facts_after Unprotect facts = record facts { protection = ReadWrite; truth = truth_unprotected facts.target facts.truth }
facts_after Release facts = record facts { truth = InDestination; released = true }

-- a copy reads the source's bytes, so these must be right
abbrev pub may_copy : Truth → Bool
may_copy InSource = true
may_copy InBoth = true
may_copy InDestination = false

-- only a page that isn't mapped, whose bytes are in the destination too, may be released
abbrev pub may_release : Side → Truth → Bool
may_release Source truth = false
may_release Destination InSource = false
may_release Destination InBoth = true
may_release Destination InDestination = true

-- whether a step may be made
abbrev pub may_make : Step → Facts → Bool
may_make Protect facts = true
may_make Hide facts = true
may_make Copy facts = may_copy facts.truth
may_make Remap facts = true
may_make Unprotect facts = true
may_make Release facts = may_release facts.target facts.truth && not facts.released

-- loads find the right bytes at this target
abbrev pub is_found : Side → Truth → Bool
is_found Source InSource = true
is_found Source InBoth = true
is_found Source InDestination = false
is_found Destination InSource = false
is_found Destination InBoth = true
is_found Destination InDestination = true

-- whether loads find the right bytes, unless they are blocked. Where stores are allowed, the right bytes are at the
-- target alone
abbrev pub is_settled : Protection → Side → Truth → Bool
is_settled ReadWrite Source InSource = true
is_settled ReadWrite Source InBoth = false
is_settled ReadWrite Source InDestination = false
is_settled ReadWrite Destination InSource = false
is_settled ReadWrite Destination InBoth = false
is_settled ReadWrite Destination InDestination = true
is_settled ReadOnly target truth = is_found target truth
is_settled Hidden target truth = true

abbrev pub is_right_between : Facts → Bool
is_right_between facts = is_settled facts.protection facts.target facts.truth

-- the facts are those of a page that is moved
abbrev pub is_over : Protection → Side → Bool → Bool
is_over ReadWrite Destination released = released
is_over ReadWrite Source released = false
is_over ReadOnly target released = false
is_over Hidden target released = false

-- whether these steps are right from here on
abbrev pub is_right_from : Facts → List Step → Bool
is_right_from facts [] = is_over facts.protection facts.target facts.released
is_right_from facts (step ∷ steps) = may_make step facts && (is_right_between (facts_after step facts) && is_right_from (facts_after step facts) steps)

abbrev pub first_facts : Facts
first_facts = record { protection = ReadWrite; target = Source; truth = InSource; released = false }

-- whether a mesh with these steps is right
abbrev pub is_right : List Step → Bool
is_right steps = is_right_from first_facts steps
