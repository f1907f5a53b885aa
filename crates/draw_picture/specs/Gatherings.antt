-- The captions of the lines that are gathered above a frame.
use Rattle.std.specs.Prelude.{◌≡◌, ◌++◌, ◌∷◌, [], List}
use Rattle.draw_picture.specs.Notes.{cut_text}
use Rattle.draw_picture.specs.declared.gathering.Caption.{Caption}
use Rattle.draw_picture.specs.declared.gathering.Line.{Line}

-- a caption ends at this line, and has the line's words and answer, each cut
pub record IsCaptionOf (caption : Caption) (line : Line) : Type 0 where
  pub to : caption.to ≡ line.number
  pub words : caption.words.items ≡ cut_text 50 line.words.now
  pub answer : caption.answer.items ≡ cut_text 56 line.answer.now

-- this caption is the last one
abbrev pub EndsWith : List Caption → Caption → Type 0
EndsWith captions caption = (before : List Caption) × (captions ≡ before ++ caption ∷ [])

-- the last caption is that of this line, which may stand for the lines before it too
abbrev pub EndsWithLine : List Caption → Line → Type 0
EndsWithLine captions line = (caption : Caption) × IsCaptionOf caption line × EndsWith captions caption
