-- The text of a verdict as a list of pieces: bytes, and the texts of outcomes. This project's own choice.
use Rattle.std.specs.Prelude.{◌≡◌, ℕ, List, [], ◌∷◌, ◌++◌}
use Rattle.explore_interleavings.specs.ExploreStates.{Setting}
use Rattle.explore_interleavings.specs.declared.explorer.Explorer.{Explorer}
use Rattle.explore_report.specs.OutcomeTexts.{IsOutcomeText}
use Rattle.explore_report.specs.declared.outcomes.Outcome.{Outcome}
use Rattle.states_reach.specs.declared.reached.Reached.{Reached}

-- a piece: bytes, or what the listing has of an outcome with this number
pub data Piece : Type 0 where
  plain : List ℕ → Piece
  shown : ℕ → Outcome → Piece

-- the text consists of these pieces, one behind another
abbrev pub IsWritten : Setting → Reached Explorer → List Piece → List ℕ → Type 0
IsWritten x reached [] text = text ≡ []
IsWritten x reached (plain bytes ∷ pieces) text = (rest : List ℕ) × IsWritten x reached pieces rest × (text ≡ bytes ++ rest)
IsWritten x reached (shown number outcome ∷ pieces) text =
    (front : List ℕ) × (rest : List ℕ) × IsOutcomeText x reached outcome number front × IsWritten x reached pieces rest × (text ≡ front ++ rest)

-- these pieces were added at the end of the text
abbrev pub HasWritten : Setting → Reached Explorer → List Piece → List ℕ → List ℕ → Type 0
HasWritten x reached pieces old new = (added : List ℕ) × IsWritten x reached pieces added × (new ≡ old ++ added)
