-- A list of steps that the rule allows is right also where several virtual pages share a physical page.
use Rattle.std.specs.Prelude.{◌≡◌, ℕ, true, List, []}
use Rattle.model_orders.specs.declared.steps.Step.{Step}
use Rattle.model_orders.specs.Rule.{is_right}
use Rattle.model_orders.specs.Views.{Shape, Row, Move, IsShape, after_all, IsAtStart, IsLoadedRight, IsMoved}

-- in each state that moves reach, loads are right, and each row whose steps are all over is moved
abbrev pub RowsAreSafe : Type 0
RowsAreSafe = (steps : List Step) (shapes : ℕ → Shape) (rows : ℕ → Row) (moves : List Move) → is_right steps ≡ true
    → ((place : ℕ) → IsShape (shapes place)) → ((place : ℕ) → IsAtStart (shapes place) steps (rows place))
    → (place : ℕ) → IsLoadedRight (shapes place) (after_all shapes moves rows place)
    × ((after_all shapes moves rows place).left ≡ [] → IsMoved (shapes place) (after_all shapes moves rows place))
