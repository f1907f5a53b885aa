-- The first wrong step of a list, and the reason. There is none if and only if the rule allows the list.
use Rattle.std.specs.Prelude.{ℕ, ◌+◌, Bool, true, false, Option, Some, None, Result, Ok, Err, List, [], ◌∷◌}
use Rattle.model_orders.specs.declared.steps.Step.{Step}
use Rattle.model_orders.specs.declared.steps.Step.TheVariants.{Protect, Hide, Copy, Remap, Unprotect, Release}
use Rattle.model_orders.specs.declared.facts.Protection.{Protection}
use Rattle.model_orders.specs.declared.facts.Protection.TheVariants.{ReadWrite, ReadOnly, Hidden}
use Rattle.model_orders.specs.declared.facts.Side.{Side}
use Rattle.model_orders.specs.declared.facts.Side.TheVariants.{Source, Destination}
use Rattle.model_orders.specs.declared.facts.Truth.{Truth}
use Rattle.model_orders.specs.declared.facts.Truth.TheVariants.{InSource, InBoth, InDestination}
use Rattle.model_orders.specs.declared.facts.Facts.{Facts}
use Rattle.model_orders.specs.declared.wrong.Reason.{Reason}
use Rattle.model_orders.specs.declared.wrong.Reason.TheVariants.{CopiesOldBytes, ReleasesMapped, ReleasesOnlyBytes, ReleasesAgain, StoresElsewhere, LoadsOldBytes, EndsMapped, EndsBlocked, EndsUnreleased}
use Rattle.model_orders.specs.declared.wrong.Wrong.{Wrong}
use Rattle.model_orders.specs.Rule.{facts_after, first_facts}

-- why a copy must not be made
abbrev pub copy_fault : Truth → Option Reason
copy_fault InSource = None
copy_fault InBoth = None
copy_fault InDestination = Some CopiesOldBytes

-- why pages that may be released otherwise must not be released
abbrev pub again_fault : Bool → Option Reason
again_fault true = Some ReleasesAgain
again_fault false = None

-- why a release must not be made
abbrev pub release_fault : Side → Truth → Bool → Option Reason
release_fault Source truth released = Some ReleasesMapped
release_fault Destination InSource released = Some ReleasesOnlyBytes
release_fault Destination InBoth released = again_fault released
release_fault Destination InDestination released = again_fault released

-- why a step must not be made
abbrev pub step_fault : Step → Facts → Option Reason
step_fault Protect facts = None
step_fault Hide facts = None
step_fault Copy facts = copy_fault facts.truth
step_fault Remap facts = None
step_fault Unprotect facts = None
step_fault Release facts = release_fault facts.target facts.truth facts.released

-- why an access between two steps is wrong
abbrev pub access_fault : Protection → Side → Truth → Option Reason
access_fault ReadWrite Source InSource = None
access_fault ReadWrite Source InBoth = Some StoresElsewhere
access_fault ReadWrite Source InDestination = Some StoresElsewhere
access_fault ReadWrite Destination InSource = Some StoresElsewhere
access_fault ReadWrite Destination InBoth = Some StoresElsewhere
access_fault ReadWrite Destination InDestination = None
access_fault ReadOnly Source InSource = None
access_fault ReadOnly Source InBoth = None
access_fault ReadOnly Source InDestination = Some LoadsOldBytes
access_fault ReadOnly Destination InSource = Some LoadsOldBytes
access_fault ReadOnly Destination InBoth = None
access_fault ReadOnly Destination InDestination = None
access_fault Hidden target truth = None

abbrev pub facts_fault : Facts → Option Reason
facts_fault facts = access_fault facts.protection facts.target facts.truth

-- why the list must not end
abbrev pub end_fault : Side → Protection → Bool → Option Reason
end_fault Source protection released = Some EndsMapped
end_fault Destination ReadOnly released = Some EndsBlocked
end_fault Destination Hidden released = Some EndsBlocked
end_fault Destination ReadWrite true = None
end_fault Destination ReadWrite false = Some EndsUnreleased

-- the first reason, or the second if there is no first
abbrev pub first_of_two : Option Reason → Option Reason → Option Reason
first_of_two (Some reason) other = Some reason
first_of_two None other = other

-- why a step is wrong: it must not be made, or an access after it is wrong
abbrev pub fault_of : Step → Facts → Option Reason
fault_of step facts = first_of_two (step_fault step facts) (facts_fault (facts_after step facts))

-- what is wrong at this place, or what is wrong after it
abbrev pub wrong_here : ℕ → Option Reason → Option Wrong → Option Wrong
wrong_here place (Some reason) other = Some (record { place = place; reason = reason })
wrong_here place None other = other

-- the first wrong step of these, whose first is at this place of the list, if there is one
abbrev pub first_wrong_from : ℕ → Facts → List Step → Option Wrong
first_wrong_from place facts [] = wrong_here place (end_fault facts.target facts.protection facts.released) None
first_wrong_from place facts (step ∷ steps) = wrong_here place (fault_of step facts) (first_wrong_from (place + 1) (facts_after step facts) steps)

-- the first wrong step of a list, if there is one
abbrev pub first_wrong : List Step → Option Wrong
first_wrong steps = first_wrong_from 0 first_facts steps

-- the answer of the rule
abbrev pub verdict : Option Wrong → Result (Unit {0}) Wrong
verdict None = Ok tt
verdict (Some wrong) = Err wrong
