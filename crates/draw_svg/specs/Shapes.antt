-- The text of shapes.
use Rattle.std.specs.Prelude.{ℕ, ◌++◌, ◌∷◌, [], List, Option, Some, None, codes, decimal, nat_eq, if◌then◌else◌}
use Rattle.std.specs.List.{flat_map}
use Rattle.draw_svg.specs.Texts.{Adds, escaped}
use Rattle.draw_svg.specs.declared.shapes.Anchor.{Anchor}
use Rattle.draw_svg.specs.declared.shapes.Anchor.TheVariants.{Start, Middle, End}
use Rattle.draw_svg.specs.declared.shapes.Area.{Area}
use Rattle.draw_svg.specs.declared.shapes.Label.{Label}
use Rattle.draw_svg.specs.declared.shapes.Look.{Look}
use Rattle.draw_svg.specs.declared.shapes.Point.{Point}
use Rattle.draw_svg.specs.declared.shapes.Shape.{Shape}
use Rattle.draw_svg.specs.declared.shapes.Shape.TheVariants.{Rect, Path, Words}
use Rattle.draw_svg.specs.declared.shapes.Way.{Way}
use Rattle.draw_svg.specs.declared.shapes.Way.TheVariants.{Move, Line, Curve, Bend}

-- an attribute with a number
abbrev pub attribute_text : List ℕ → ℕ → List ℕ
attribute_text name number = codes " " ++ name ++ codes "=\"" ++ decimal number ++ codes "\""

-- the number of a style rule in a numbered family
abbrev pub number_text : Option ℕ → List ℕ
number_text None = []
number_text (Some number) = decimal number

-- the name of a second style rule, if there is one
abbrev pub also_text : List ℕ → List ℕ
also_text [] = []
also_text (letter ∷ letters) = codes " " ++ letter ∷ letters

-- the style of a shape: the names of one or two style rules. The first one may have a number
pub record Style : Type 0 where
  pub name : List ℕ
  pub number : Option ℕ
  pub also : List ℕ

-- the style of these names
abbrev pub style_of : Look → Style
style_of look = record { name = look.name.now; number = look.number; also = look.also.now }

-- the style of one rule
abbrev pub plain : List ℕ → Style
plain name = record { name = name; number = None; also = [] }

-- the style of one rule in a numbered family
abbrev pub nth : List ℕ → ℕ → Style
nth name number = record { name = name; number = Some number; also = [] }

-- a style with this second rule
abbrev pub joined : Style → List ℕ → Style
joined style also = record { name = style.name; number = style.number; also = also }

-- the attribute with the names of style rules
abbrev pub style_text : Style → List ℕ
style_text style = codes " class=\"" ++ style.name ++ number_text style.number ++ also_text style.also ++ codes "\""

-- the attribute for the radius of corners, which sharp corners don't have
abbrev pub round_text : ℕ → List ℕ
round_text round = if nat_eq round 0 then [] else attribute_text (codes "rx") round

-- the letter of a path command. The second and the third point of a curve have none
abbrev pub way_text : Way → List ℕ
way_text Move = codes "M"
way_text Line = codes "L"
way_text Curve = codes "C"
way_text Bend = []

-- a point of a path
abbrev pub point_text : Point → List ℕ
point_text point = way_text point.way ++ decimal point.x ++ codes "," ++ decimal point.y ++ codes " "

-- the attribute of an anchor. The start of a text needs none
abbrev pub anchor_text : Anchor → List ℕ
anchor_text Start = []
anchor_text Middle = codes " text-anchor=\"middle\""
anchor_text End = codes " text-anchor=\"end\""

-- the attributes of a fixed width
abbrev pub width_text : Option ℕ → List ℕ
width_text None = []
width_text (Some width) = attribute_text (codes "textLength") width ++ codes " lengthAdjust=\"spacingAndGlyphs\""

-- the attributes of an area
abbrev pub area_text : Area → List ℕ
area_text area =
    attribute_text (codes "x") area.x ++ attribute_text (codes "y") area.y ++ attribute_text (codes "width") area.w ++ attribute_text (codes "height") area.h

-- the style and the place of words, with a fixed width or without
pub record Place : Type 0 where
  pub style : Style
  pub anchor : Anchor
  pub x : ℕ
  pub y : ℕ
  pub width : Option ℕ

-- the style and the place of a label
abbrev pub place_of : Label → Place
place_of label = record { style = style_of label.look; anchor = label.anchor; x = label.x; y = label.y; width = label.width }

-- the attributes of a label
abbrev pub place_text : Place → List ℕ
place_text place =
    style_text place.style ++ attribute_text (codes "x") place.x ++ attribute_text (codes "y") place.y ++ anchor_text place.anchor ++ width_text place.width

-- the text of a rectangle
unfoldable pub rect_text : Style → Area → ℕ → List ℕ
rect_text style area round = codes "<rect" ++ style_text style ++ area_text area ++ round_text round ++ codes "/>\n"

-- the text of a path
unfoldable pub path_text : Style → List Point → List ℕ
path_text style points = codes "<path" ++ style_text style ++ codes " d=\"" ++ flat_map point_text points ++ codes "\"/>\n"

-- the text of words at a place. The words are escaped
unfoldable pub words_text : Place → List ℕ → List ℕ
words_text place words = codes "<text" ++ place_text place ++ codes ">" ++ escaped words ++ codes "</text>\n"

-- the start of a group of shapes, whose places are relative to this one
unfoldable pub group_text : ℕ → ℕ → List ℕ
group_text x y = codes "<g transform=\"translate(" ++ decimal x ++ codes "," ++ decimal y ++ codes ")\">\n"

-- the end of a group of shapes
unfoldable pub group_end : List ℕ
group_end = codes "</g>\n"

-- the text of a shape
abbrev pub shape_text : Shape → List ℕ
shape_text (Rect look area round) = rect_text (style_of look) area round
shape_text (Path look points) = path_text (style_of look) points.items
shape_text (Words label words) = words_text (place_of label) words.items

-- the text of shapes, one after the other
abbrev pub shapes_text : List Shape → List ℕ
shapes_text shapes = flat_map shape_text shapes

-- the text of some shapes was appended
abbrev pub Draws : Option (List ℕ) → Option (List ℕ) → Type 0
Draws old new = (shapes : List Shape) × Adds old new (shapes_text shapes)
