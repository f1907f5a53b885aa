-- A picture as contracts see it.
use Rattle.std.specs.Prelude.{ℕ, List}
use Rattle.draw_picture.specs.declared.gathering.Gathering.{Gathering}
use Rattle.draw_picture.specs.declared.layout.Layout.{Layout}

-- the number of the line that is expected next, the title of the file, the title that is drawn, the note below it, the
-- places of the parts of a card, and the lines since the last card
pub record Shown : Type 0 where
  pub next : ℕ
  pub title : List ℕ
  pub name : List ℕ
  pub note : List ℕ
  pub layout : Layout
  pub gathering : Gathering
