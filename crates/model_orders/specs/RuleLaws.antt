-- A list of steps that the rule allows is right, whatever moves are made in between.
use Rattle.std.specs.Prelude.{◌≡◌, ◌⊎◌, ℕ, true, false, List, [], ◌∷◌, ◌++◌, length, map, filter}
use Rattle.model_orders.specs.declared.steps.Step.{Step}
use Rattle.model_orders.specs.declared.steps.Step.TheVariants.{Protect, Hide, Copy, Remap, Unprotect, Release}
use Rattle.model_orders.specs.Pages.{Page, Move, after_all, IsAtStart, IsLoadedRight, IsMoved}
use Rattle.model_orders.specs.Rule.{is_right}

-- in each state that moves reach, loads are right, and each page whose steps are all made is moved
abbrev pub RightListsAreSafe : Type 0
RightListsAreSafe = (steps : List Step) (pages : ℕ → Page) (moves : List Move) → is_right steps ≡ true → ((place : ℕ) → IsAtStart steps (pages place))
    → (place : ℕ) → IsLoadedRight (after_all moves pages place) × ((after_all moves pages place).left ≡ [] → IsMoved (after_all moves pages place))

-- some pages and moves that end in a state with a wrong load
pub record IsWrong (steps : List Step) : Type 0 where
  pub pages : ℕ → Page
  pub moves : List Move
  pub place : ℕ
  pub start : (other : ℕ) → IsAtStart steps (pages other)
  pub wrong : IsLoadedRight (after_all moves pages place) → ⊥

-- the rule forbids the list, and the list is wrong
abbrev pub IsForbiddenRightly : List Step → Type 0
IsForbiddenRightly steps = (is_right steps ≡ false) × IsWrong steps

abbrev pub CopyBeforeProtectIsWrong : Type 0
CopyBeforeProtectIsWrong = IsForbiddenRightly (Copy ∷ Protect ∷ Remap ∷ Unprotect ∷ Release ∷ [])

abbrev pub RemapBeforeCopyIsWrong : Type 0
RemapBeforeCopyIsWrong = IsForbiddenRightly (Protect ∷ Remap ∷ Copy ∷ Unprotect ∷ Release ∷ [])

abbrev pub UnprotectBeforeRemapIsWrong : Type 0
UnprotectBeforeRemapIsWrong = IsForbiddenRightly (Protect ∷ Copy ∷ Unprotect ∷ Remap ∷ Release ∷ [])

abbrev pub ReleaseWithoutCopyIsWrong : Type 0
ReleaseWithoutCopyIsWrong = IsForbiddenRightly (Hide ∷ Remap ∷ Release ∷ Unprotect ∷ [])

abbrev pub CopyAfterUnprotectIsWrong : Type 0
CopyAfterUnprotectIsWrong = IsForbiddenRightly (Protect ∷ Copy ∷ Remap ∷ Unprotect ∷ Protect ∷ Copy ∷ Unprotect ∷ Release ∷ [])

abbrev pub RemapBeforeHideIsWrong : Type 0
RemapBeforeHideIsWrong = IsForbiddenRightly (Remap ∷ Hide ∷ Copy ∷ Unprotect ∷ Release ∷ [])

abbrev pub ReleaseBeforeRemapIsWrong : Type 0
ReleaseBeforeRemapIsWrong = IsForbiddenRightly (Protect ∷ Copy ∷ Release ∷ Remap ∷ Unprotect ∷ [])

-- four lists that the rule allows. The first is the order of the steps of this repository's heap
abbrev pub ListsAreAllowed : Type 0
ListsAreAllowed = (is_right (Protect ∷ Copy ∷ Remap ∷ Unprotect ∷ Release ∷ []) ≡ true)
    × (is_right (Protect ∷ Copy ∷ Remap ∷ Release ∷ Unprotect ∷ []) ≡ true)
    × (is_right (Copy ∷ Protect ∷ Copy ∷ Remap ∷ Unprotect ∷ Release ∷ []) ≡ true)
    × (is_right (Hide ∷ Remap ∷ Copy ∷ Unprotect ∷ Release ∷ []) ≡ true)

-- the mesh is over, and has left the page as it must not
abbrev pub IsLeftWrong : Page → Type 0
IsLeftWrong page = (page.left ≡ []) × (IsMoved page → ⊥)

-- the next step releases the source's physical page, which is released
abbrev pub IsReleasedAgain : Page → Type 0
IsReleasedAgain page = (page.released ≡ true) × ((steps : List Step) × (page.left ≡ Release ∷ steps))

abbrev pub IsFault : Page → Type 0
IsFault page = (IsLoadedRight page → ⊥) ⊎ (IsLeftWrong page ⊎ IsReleasedAgain page)

-- some moves lead to a fault
pub record HasFault (steps : List Step) : Type 0 where
  pub pages : ℕ → Page
  pub moves : List Move
  pub place : ℕ
  pub start : (other : ℕ) → IsAtStart steps (pages other)
  pub fault : IsFault (after_all moves pages place)

-- the rule allows a list exactly if no moves lead to a fault
abbrev pub RuleIsExact : Type 0
RuleIsExact = (steps : List Step) → (is_right steps ≡ true → HasFault steps → ⊥) × (is_right steps ≡ false → HasFault steps)

-- the lists with a step put in at each place of the list
abbrev pub insertions : Step → List Step → List (List Step)
insertions step [] = (step ∷ []) ∷ []
insertions step (other ∷ steps) = (step ∷ other ∷ steps) ∷ map (λ list. other ∷ list) (insertions step steps)

abbrev pub all_insertions : Step → List (List Step) → List (List Step)
all_insertions step [] = []
all_insertions step (list ∷ lists) = insertions step list ++ all_insertions step lists

-- all orders of the steps
abbrev pub orders : List Step → List (List Step)
orders [] = [] ∷ []
orders (step ∷ steps) = all_insertions step (orders steps)

abbrev pub first_order : List Step
first_order = Protect ∷ Copy ∷ Remap ∷ Unprotect ∷ Release ∷ []

-- of the 120 orders of these five steps, the rule allows two
abbrev pub TwoOrdersAreRight : Type 0
TwoOrdersAreRight = (length (orders first_order) ≡ 120)
    × (filter is_right (orders first_order) ≡ first_order ∷ (Protect ∷ Copy ∷ Remap ∷ Release ∷ Unprotect ∷ []) ∷ [])
