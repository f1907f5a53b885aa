-- What the first wrong step of a list has to do with the rule.
use Rattle.std.specs.Prelude.{ℕ, ◌≡◌, ◌↔◌, ◌+◌, ◌<◌, ◌≤◌, true, false, Some, None, List, [], ◌∷◌, ◌++◌, length, take}
use Rattle.model_orders.specs.declared.steps.Step.{Step}
use Rattle.model_orders.specs.declared.steps.Step.TheVariants.{Protect, Hide, Copy, Remap, Unprotect, Release}
use Rattle.model_orders.specs.declared.wrong.Reason.{Reason}
use Rattle.model_orders.specs.declared.wrong.Reason.TheVariants.{CopiesOldBytes, ReleasesMapped, ReleasesOnlyBytes, ReleasesAgain, StoresElsewhere, LoadsOldBytes, EndsMapped, EndsBlocked, EndsUnreleased}
use Rattle.model_orders.specs.declared.wrong.Wrong.{Wrong}
use Rattle.model_orders.specs.Rule.{is_right}
use Rattle.model_orders.specs.Wrong.{first_wrong}

-- a list has no wrong step if and only if the rule allows it
abbrev pub FirstWrongIsExact : Type 0
FirstWrongIsExact = (steps : List Step) → (first_wrong steps ≡ None) ↔ (is_right steps ≡ true)

-- no right list begins with the steps up to the wrong one, but some right list begins with the steps before it. If the
-- place is the list's length, only the end is wrong
pub record IsFirstWrong (steps : List Step) (wrong : Wrong) : Type 0 where
  pub within : wrong.place ≤ length steps
  pub refused : (more : List Step) → wrong.place < length steps → is_right (take (wrong.place + 1) steps ++ more) ≡ false
  pub before : (more : List Step) × (is_right (take wrong.place steps ++ more) ≡ true)

-- the step that is named is the first one that no right list has there
abbrev pub FirstWrongIsFirst : Type 0
FirstWrongIsFirst = (steps : List Step) (wrong : Wrong) → first_wrong steps ≡ Some wrong → IsFirstWrong steps wrong

-- the list's first wrong step is at this place, for this reason
abbrev pub IsWrongAt : List Step → ℕ → Reason → Type 0
IsWrongAt steps place reason = first_wrong steps ≡ Some (record { place = place; reason = reason })

-- lists that the rule forbids, at least one for each reason
abbrev pub ReasonsAreGiven : Type 0
ReasonsAreGiven = IsWrongAt (Copy ∷ Protect ∷ Remap ∷ Unprotect ∷ Release ∷ []) 2 LoadsOldBytes
    × IsWrongAt (Protect ∷ Remap ∷ Copy ∷ Unprotect ∷ Release ∷ []) 1 LoadsOldBytes
    × IsWrongAt (Protect ∷ Copy ∷ Unprotect ∷ Remap ∷ Release ∷ []) 3 StoresElsewhere
    × IsWrongAt (Remap ∷ Hide ∷ Copy ∷ Unprotect ∷ Release ∷ []) 0 StoresElsewhere
    × IsWrongAt (Hide ∷ Remap ∷ Release ∷ Unprotect ∷ []) 2 ReleasesOnlyBytes
    × IsWrongAt (Protect ∷ Copy ∷ Remap ∷ Unprotect ∷ Protect ∷ Copy ∷ Unprotect ∷ Release ∷ []) 5 CopiesOldBytes
    × IsWrongAt (Protect ∷ Copy ∷ Release ∷ Remap ∷ Unprotect ∷ []) 2 ReleasesMapped
    × IsWrongAt (Protect ∷ Copy ∷ Remap ∷ Unprotect ∷ Release ∷ Release ∷ []) 5 ReleasesAgain
    × IsWrongAt (Protect ∷ Copy ∷ Unprotect ∷ []) 3 EndsMapped
    × IsWrongAt (Protect ∷ Copy ∷ Remap ∷ Release ∷ []) 4 EndsBlocked
    × IsWrongAt (Protect ∷ Copy ∷ Remap ∷ Unprotect ∷ []) 4 EndsUnreleased
