-- The slots and the objects of a page whose upper left corner is at 0, 0.
use Rattle.std.specs.Prelude.{ℕ, ◌-◌, ◌/◌, ◌%◌, ◌||◌, ◌&&◌, ◌++◌, ◌∷◌, [], zero, suc, Bool, List, Option, None, Some, codes, if◌then◌else◌, max, min, nat_eq, nat_le}
use Rattle.model_words.specs.Classes.{slots_of}
use Rattle.draw_picture.specs.Lettering.{Lettering, centred, inked, label_text, words_width}
use Rattle.draw_picture.specs.Numbers.{plus, quotient, remainder, share, times}
use Rattle.draw_picture.specs.declared.lettering.Face.TheVariants.{Strong}
use Rattle.draw_picture.specs.declared.parts.Part.{Part}
use Rattle.draw_picture.specs.declared.parts.State.{State}
use Rattle.draw_picture.specs.declared.parts.State.TheVariants.{Live, Copied, Old}
use Rattle.draw_svg.specs.Shapes.{Style, joined, nth, path_text, plain, rect_text}
use Rattle.draw_svg.specs.Templates.{filled}
use Rattle.draw_svg.specs.declared.shapes.Area.{Area}
use Rattle.draw_svg.specs.declared.shapes.Point.{Point}
use Rattle.draw_svg.specs.declared.shapes.Way.TheVariants.{Line, Move}

-- the lists that a function returns for each number below this one, in order, joined
abbrev pub below : {A : Type 0} → ℕ → (ℕ → List A) → List A
below zero list = []
below (suc n) list = below n list ++ list n

-- the list that a function returns for an optional value: empty if the value is missing
abbrev pub listing : {A B : Type 0} → Option A → (A → List B) → List B
listing None list = []
listing (Some x) list = list x

-- the number of bytes in one row of a page's slots: at most sixteen slots are side by side
abbrev pub row_bytes : ℕ → ℕ
row_bytes size = min (times size 16) 4096

-- the height of a row of slots
abbrev pub row_height : ℕ → ℕ
row_height size = share 480 (row_bytes size) 4096

-- the area of bytes of one row in a page with slots of this size
unfoldable pub bytes_area : ℕ → ℕ → ℕ → ℕ → Area
bytes_area size from to page =
    record {
      x = share page (remainder from (row_bytes size)) (row_bytes size);
      y = times (quotient from (row_bytes size)) (row_height size);
      w = share page (to - from) (row_bytes size);
      h = row_height size;
    }

-- an area without a small border on each side
abbrev pub slot_area : Area → Area
slot_area area = record { x = plus area.x 6; y = plus area.y 6; w = max (area.w - 12) 6; h = max (area.h - 12) 6 }

-- a line from one point to another
abbrev pub line : ℕ → ℕ → ℕ → ℕ → List Point
line x y x' y' = record { way = Move; x = x; y = y } ∷ record { way = Line; x = x'; y = y' } ∷ []

-- the upper bound of a row of slots. The first row has none
abbrev pub row_bound : ℕ → ℕ → ℕ → List Point
row_bound rows page row = if nat_eq row 0 then [] else line 0 (share 480 row rows) page (share 480 row rows)

-- the left bound of a slot that begins at this byte of a page, if it is within the first row
abbrev pub bound_at : ℕ → ℕ → ℕ → List Point
bound_at class page from =
    if nat_eq from 0 || nat_le (row_bytes class) from then [] else line (share page from (row_bytes class)) 0 (share page from (row_bytes class)) 480

-- the left bound of a slot in the page at a place of its span
abbrev pub slot_bound : ℕ → ℕ → ℕ → ℕ → List Point
slot_bound class place page slot = bound_at class page (times slot class - times place 4096)

-- the bounds of rows and slots in a page
abbrev pub bounds : ℕ → ℕ → ℕ → List Point
bounds class place page =
    below (quotient 4096 (row_bytes class)) (row_bound (quotient 4096 (row_bytes class)) page) ++ below (slots_of class) (slot_bound class place page)

-- the drawing of the bounds of slots
unfoldable pub grid_text : ℕ → ℕ → ℕ → List ℕ
grid_text class place page = path_text (plain (codes "grid")) (bounds class place page)

-- the style of an object's slot or bytes: the object's colour, and a rule
abbrev pub part_style : Part → List ℕ → Style
part_style part rule = joined (nth (codes "o") (part.serial % 12)) rule

-- the rule of an object's slot
abbrev pub rest_rule : State → List ℕ
rest_rule Live = codes "rest"
rest_rule Copied = codes "restc"
rest_rule Old = codes "resto"

-- the rule of an object's bytes
abbrev pub filled_rule : State → List ℕ
filled_rule Live = []
filled_rule Copied = codes "copy"
filled_rule Old = codes "old"

-- the area of the slot of a part
abbrev pub area_of : ℕ → Part → Area
area_of page part = slot_area (bytes_area part.size part.from part.to page)

-- the drawing of the filled part of a slot
unfoldable pub filled_text : ℕ → Part → List ℕ
filled_text page part =
    if nat_le part.filled part.from then []
    else rect_text (part_style part (filled_rule part.state)) (slot_area (bytes_area part.size part.from part.filled page)) 0

-- the label of a serial in the middle of a slot
abbrev pub serial_at : Part → State → ℕ → ℕ → Lettering
serial_at part Live x y = inked (centred Strong [] x y) (codes "u") (part.serial % 12)
serial_at part Copied x y = centred Strong (codes "ink") x y
serial_at part Old x y = centred Strong (codes "soft") x y

abbrev pub serial_label : Part → Area → Lettering
serial_label part slot = serial_at part part.state (plus slot.x (slot.w / 2)) (plus (plus slot.y (slot.h / 2)) 38)

-- whether words fit into a slot
abbrev pub fits : List ℕ → Area → Bool
fits words slot = nat_le 115 slot.h && nat_le (words_width Strong words) slot.w

-- the number of an object as words
abbrev pub serial_words : Part → List ℕ
serial_words part = filled (codes "#") (part.serial ∷ [])

-- the drawing of a serial, if there is room for it
unfoldable pub serial_text : Part → Area → List ℕ
serial_text part slot = if fits (serial_words part) slot then label_text (serial_label part slot) (serial_words part) else []

-- the drawing of the part of an object in a page
unfoldable pub part_text : ℕ → Part → List ℕ
part_text page part = rect_text (part_style part (rest_rule part.state)) (area_of page part) 0 ++ filled_text page part ++ serial_text part (area_of page part)
