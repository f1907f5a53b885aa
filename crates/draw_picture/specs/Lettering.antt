-- Labels: words in letters of a fixed width.
use Rattle.std.specs.Prelude.{ℕ, ◌-◌, ◌^◌, ◌||◌, Bool, List, Some, codes, max, min, nat_le, nat_lt}
use Rattle.draw_picture.specs.Numbers.{counted, times}
use Rattle.draw_picture.specs.declared.lettering.Face.{Face}
use Rattle.draw_picture.specs.declared.lettering.Face.TheVariants.{Title, Plain, Strong}
use Rattle.draw_picture.specs.declared.lettering.Label.{Label}
use Rattle.draw_svg.specs.Shapes.{Style, joined, nth, plain, style_of, words_text}
use Rattle.draw_svg.specs.declared.shapes.Anchor.{Anchor}
use Rattle.draw_svg.specs.declared.shapes.Anchor.TheVariants.{Start, Middle, End}

-- the style rule of a lettering
abbrev pub face_rule : Face → List ℕ
face_rule Title = codes "ft"
face_rule Plain = codes "fn"
face_rule Strong = codes "fs"

-- the width of a letter
abbrev pub advance : Face → ℕ
advance Title = 102
advance Plain = 66
advance Strong = 66

-- whether a byte of UTF-8 isn't the continuation of a letter
abbrev pub is_letter : ℕ → Bool
is_letter byte = nat_lt byte 128 || nat_le 192 byte

-- the number of letters in words of UTF-8
abbrev pub letters : List ℕ → ℕ
letters words = counted is_letter 0 words

-- the width of words
abbrev pub words_width : Face → List ℕ → ℕ
words_width face words = times (letters words) (advance face)

-- the lettering, the colour, the place and the greatest width of words
pub record Lettering : Type 0 where
  pub face : Face
  pub ink : Style
  pub anchor : Anchor
  pub x : ℕ
  pub y : ℕ
  pub room : ℕ

-- the lettering of a label
unfoldable pub lettering_of : Label → Lettering
lettering_of label =
    record { face = label.face; ink = style_of label.ink; anchor = label.anchor; x = label.x; y = label.y; room = label.room }

-- words that start at a place
abbrev pub beginning : Face → List ℕ → ℕ → ℕ → Lettering
beginning face ink x y = record { face = face; ink = plain ink; anchor = Start; x = x; y = y; room = 2 ^ 32 - 1 }

-- words that end at a place
abbrev pub ending : Face → List ℕ → ℕ → ℕ → Lettering
ending face ink x y = record { face = face; ink = plain ink; anchor = End; x = x; y = y; room = 2 ^ 32 - 1 }

-- words that are centred at a place
abbrev pub centred : Face → List ℕ → ℕ → ℕ → Lettering
centred face ink x y = record { face = face; ink = plain ink; anchor = Middle; x = x; y = y; room = 2 ^ 32 - 1 }

-- the same words in the colour with this number in a family of colours
abbrev pub inked : Lettering → List ℕ → ℕ → Lettering
inked l family number = record { face = l.face; ink = nth family number; anchor = l.anchor; x = l.x; y = l.y; room = l.room }

-- the same words, at most this wide
abbrev pub limited : Lettering → ℕ → Lettering
limited l room = record { face = l.face; ink = l.ink; anchor = l.anchor; x = l.x; y = l.y; room = room }

-- the text of words in this lettering
unfoldable pub label_text : Lettering → List ℕ → List ℕ
label_text l words =
    words_text
    (record { style = joined l.ink (face_rule l.face); anchor = l.anchor; x = l.x; y = l.y; width = Some (max (min (words_width l.face words) l.room) 1) })
    words
