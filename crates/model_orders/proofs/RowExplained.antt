-- The facts of the rule, read as a statement on a row in the middle of a step.
use Rattle.std.proofs.Common.{◌≡◌, ℕ, ◌<◌, ◌≤◌, true, List, [], ◌∷◌, ap, refl}
use Rattle.std.proofs.lemmas.Bool.{and_parts}
use Rattle.model_orders.specs.declared.steps.Step.{Step}
use Rattle.model_orders.specs.declared.steps.Step.TheVariants.{Protect, Hide, Copy, Remap, Unprotect, Release}
use Rattle.model_orders.specs.declared.facts.Protection.{Protection}
use Rattle.model_orders.specs.declared.facts.Protection.TheVariants.{ReadWrite, ReadOnly, Hidden}
use Rattle.model_orders.specs.declared.facts.Side.{Side}
use Rattle.model_orders.specs.declared.facts.Side.TheVariants.{Source, Destination}
use Rattle.model_orders.specs.declared.facts.Truth.{Truth}
use Rattle.model_orders.specs.declared.facts.Truth.TheVariants.{InSource, InBoth, InDestination}
use Rattle.model_orders.specs.declared.facts.Facts.{Facts}
use Rattle.model_orders.specs.Rule.{facts_after, is_found, is_right_between, is_right_from, is_settled, may_copy, may_make, may_release, truth_copied, truth_unprotected}
use Rattle.model_orders.proofs.Points.{Agree, release_agrees, unprotect_agrees}
use Rattle.model_orders.specs.Views.{Row, Shape, View, changed}

-- where the right bytes are during a step, and where those are that a copy has reached
abbrev pub truth_in : Step → Facts → Truth
truth_in Protect facts = facts.truth
truth_in Hide facts = facts.truth
truth_in Copy facts = facts.truth
truth_in Remap facts = facts.truth
truth_in Unprotect facts = truth_unprotected facts.target facts.truth
truth_in Release facts = InDestination

abbrev pub truth_during : List Step → Facts → Truth
truth_during [] facts = facts.truth
truth_during (step ∷ steps) facts = truth_in step facts

abbrev pub facts_next : List Step → Facts → Facts
facts_next [] facts = facts
facts_next (step ∷ steps) facts = facts_after step facts

abbrev pub Matches : View → Facts → Type 0
Matches view facts = (view.protection ≡ facts.protection) × (view.target ≡ facts.target)

-- what holds of a row before the list `left`, whose first step has made some moves
pub record IsMiddle (shape : Shape) (left : List Step) (made : ℕ) (row : Row) : Type 0 where
  pub facts : Facts
  pub agrees : (offset : ℕ) → row.live offset ≡ true
      → Agree (truth_during left facts) (row.source offset) (row.destination offset) (row.memory offset)
  pub copied : (offset : ℕ) → row.live offset ≡ true → shape.piece offset < made
      → Agree (facts_next left facts).truth (row.source offset) (row.destination offset) (row.memory offset)
  pub before : (view : ℕ) → view < shape.views → made ≤ view → Matches (row.views view) facts
  pub done : (view : ℕ) → view < shape.views → view < made → Matches (row.views view) (facts_next left facts)
  pub kept : row.released ≡ true → (truth_during left facts ≡ InDestination) × ((view : ℕ) → view < shape.views → (row.views view).target ≡ Destination)
  pub was : facts.released ≡ true → row.released ≡ true
  pub is_released : 1 ≤ made → (facts_next left facts).released ≡ true → row.released ≡ true
  pub between : is_right_between facts ≡ true
  pub right : is_right_from facts left ≡ true

abbrev pub IsExplained : Shape → Row → Type 0
IsExplained shape row = IsMiddle shape row.left row.made row

-- ---- cases on the steps

no_copy : (t : Truth) → may_copy t ≡ true → t ≡ InDestination → ⊥
no_copy InSource may is = cc is
no_copy InBoth may is = cc is
no_copy InDestination may is = cc may

-- where the right bytes are in the destination during a step, they are there after it
pub next_kept : (step : Step) (facts : Facts) → may_make step facts ≡ true → truth_in step facts ≡ InDestination → (facts_after step facts).truth ≡ InDestination
next_kept Protect facts may is = is
next_kept Hide facts may is = is
next_kept Copy facts may is = absurd (no_copy facts.truth may is)
next_kept Remap facts may is = is
next_kept Unprotect facts may is = is
next_kept Release facts may is = is

found_anew : (side : Side) (t : Truth) → is_found side t ≡ true → is_found side (truth_unprotected side t) ≡ true
found_anew Source InSource h = refl
found_anew Source InBoth h = refl
found_anew Source InDestination h = h
found_anew Destination InSource h = h
found_anew Destination InBoth h = refl
found_anew Destination InDestination h = refl

settled_anew : (protection : Protection) (side : Side) (t : Truth) → is_settled protection side t ≡ true → is_settled protection side (truth_unprotected side t) ≡ true
settled_anew Hidden side t h = refl
settled_anew ReadOnly side t h = found_anew side t h
settled_anew ReadWrite Source InSource h = refl
settled_anew ReadWrite Source InBoth h = refl
settled_anew ReadWrite Source InDestination h = cc h
settled_anew ReadWrite Destination InSource h = cc h
settled_anew ReadWrite Destination InBoth h = refl
settled_anew ReadWrite Destination InDestination h = refl

settled_released : (protection : Protection) (side : Side) (t : Truth) → may_release side t ≡ true → is_settled protection side InDestination ≡ true
settled_released protection Source t may = cc may
settled_released Hidden Destination t may = refl
settled_released ReadOnly Destination t may = refl
settled_released ReadWrite Destination t may = refl

settled_copied : (protection : Protection) (side : Side) (t : Truth) → is_settled protection side t ≡ true → is_settled protection side (truth_copied protection t) ≡ true
settled_copied Hidden side t h = refl
settled_copied ReadOnly Source t h = refl
settled_copied ReadOnly Destination t h = refl
settled_copied ReadWrite side t h = h

-- a view that the step has not reached is settled during the step
pub before_settled : (step : Step) (facts : Facts) → may_make step facts ≡ true → is_right_between facts ≡ true
    → is_settled facts.protection facts.target (truth_in step facts) ≡ true
before_settled Protect facts may h = h
before_settled Hide facts may h = h
before_settled Copy facts may h = h
before_settled Remap facts may h = h
before_settled Unprotect facts may h = settled_anew facts.protection facts.target facts.truth h
before_settled Release facts may h = settled_released facts.protection facts.target facts.truth (and_parts _ _ may).0

-- and also at the bytes that a copy has reached
pub before_next : (step : Step) (facts : Facts) → may_make step facts ≡ true → is_right_between facts ≡ true
    → is_settled facts.protection facts.target (facts_after step facts).truth ≡ true
before_next Protect facts may h = h
before_next Hide facts may h = h
before_next Copy facts may h = settled_copied facts.protection facts.target facts.truth h
before_next Remap facts may h = h
before_next Unprotect facts may h = settled_anew facts.protection facts.target facts.truth h
before_next Release facts may h = settled_released facts.protection facts.target facts.truth (and_parts _ _ may).0

-- a view that the step has reached is settled during the step
pub done_settled : (step : Step) (facts : Facts) → is_right_between facts ≡ true → is_right_between (facts_after step facts) ≡ true
    → is_settled (facts_after step facts).protection (facts_after step facts).target (truth_in step facts) ≡ true
done_settled Protect facts was h = h
done_settled Hide facts was h = h
done_settled Copy facts was h = was
done_settled Remap facts was h = h
done_settled Unprotect facts was h = h
done_settled Release facts was h = h

pub agree_begins : (step : Step) (facts : Facts) (s d m : ℕ) → may_make step facts ≡ true → Agree facts.truth s d m → Agree (truth_in step facts) s d m
agree_begins Protect facts s d m may h = h
agree_begins Hide facts s d m may h = h
agree_begins Copy facts s d m may h = h
agree_begins Remap facts s d m may h = h
agree_begins Unprotect facts s d m may h = unprotect_agrees facts.target facts.truth s d m h
agree_begins Release facts s d m may h = release_agrees facts.target facts.truth s d m (and_parts _ _ may).0 h

pub kept_begins : (step : Step) (facts : Facts) → facts.truth ≡ InDestination → truth_in step facts ≡ InDestination
kept_begins Protect facts is = is
kept_begins Hide facts is = is
kept_begins Copy facts is = is
kept_begins Remap facts is = is
kept_begins Unprotect facts is = ap (truth_unprotected facts.target) is
kept_begins Release facts is = refl

pub changed_matches : (step : Step) (view : View) (facts : Facts) → Matches view facts → Matches (changed step view) (facts_after step facts)
changed_matches Protect view facts h = (refl, h.1)
changed_matches Hide view facts h = (refl, h.1)
changed_matches Copy view facts h = h
changed_matches Remap view facts h = (h.0, refl)
changed_matches Unprotect view facts h = (refl, h.1)
changed_matches Release view facts h = h

pub changed_target : (step : Step) (view : View) → view.target ≡ Destination → (changed step view).target ≡ Destination
changed_target Protect view h = h
changed_target Hide view h = h
changed_target Copy view h = h
changed_target Remap view h = refl
changed_target Unprotect view h = h
changed_target Release view h = h
