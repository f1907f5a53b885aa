-- A list of steps that the rule allows is right, whenever the groups are merged.
use Rattle.std.specs.Prelude.{◌≡◌, ℕ, true, false, List, [], ◌∷◌}
use Rattle.model_orders.specs.Merging.{Step, Page, Move, Protect, Copy, Remap, Unprotect, Release, Look, Merge, after_all, is_right, IsAtStart, IsLoadedRight, IsMoved}

-- in each state that moves reach, loads are right, and each page whose steps are all made is moved
abbrev pub MergedListsAreSafe : Type 0
MergedListsAreSafe = (steps : List Step) (pages : ℕ → Page) (moves : List Move) → is_right steps ≡ true → ((place : ℕ) → IsAtStart steps (pages place))
    → (place : ℕ) → IsLoadedRight (after_all moves pages place) × ((after_all moves pages place).left ≡ [] → IsMoved (after_all moves pages place))

-- merging first is allowed, and so is a look, but not both before a copy
abbrev pub MergesAreJudged : Type 0
MergesAreJudged = (is_right (Merge ∷ Protect ∷ Copy ∷ Remap ∷ Unprotect ∷ Release ∷ []) ≡ true)
    × (is_right (Look ∷ Protect ∷ Copy ∷ Remap ∷ Merge ∷ Unprotect ∷ Release ∷ []) ≡ true)
    × (is_right (Look ∷ Merge ∷ Protect ∷ Copy ∷ Remap ∷ Unprotect ∷ Release ∷ []) ≡ false)

-- some pages and moves that end in a state with a wrong load
pub record IsWrong (steps : List Step) : Type 0 where
  pub pages : ℕ → Page
  pub moves : List Move
  pub place : ℕ
  pub start : (other : ℕ) → IsAtStart steps (pages other)
  pub wrong : IsLoadedRight (after_all moves pages place) → ⊥

abbrev pub MergeAfterLookIsWrong : Type 0
MergeAfterLookIsWrong = IsWrong (Look ∷ Merge ∷ Protect ∷ Copy ∷ Remap ∷ Unprotect ∷ Release ∷ [])
