-- What a picture appends to its text.
use Rattle.std.specs.Prelude.{◌≡◌, ◌⊎◌, ◌-◌, ◌++◌, ◌∷◌, [], ℕ, List, Option, codes, if◌then◌else◌, length, min}
use Rattle.draw_picture.specs.Captions.{captions_text}
use Rattle.draw_picture.specs.Lettering.{beginning, label_text, limited}
use Rattle.draw_picture.specs.Meshes.{mesh_text}
use Rattle.draw_picture.specs.Numbers.{fitting, plus, times}
use Rattle.draw_picture.specs.Occupancy.{map_text}
use Rattle.draw_picture.specs.Pages.{pages_text}
use Rattle.draw_picture.specs.Pictures.{Shown}
use Rattle.draw_picture.specs.declared.frame.Frame.{Frame}
use Rattle.draw_picture.specs.declared.frame.RunningMesh.{RunningMesh}
use Rattle.draw_picture.specs.Gatherings.{EndsWithLine}
use Rattle.draw_picture.specs.declared.gathering.Gathering.{Gathering}
use Rattle.draw_picture.specs.declared.gathering.Line.{Line}
use Rattle.draw_picture.specs.declared.layout.Layout.{Layout}
use Rattle.draw_picture.specs.declared.lettering.Face.TheVariants.{Plain, Title}
use Rattle.draw_svg.specs.Begins.{Begins}
use Rattle.draw_svg.specs.Files.{root_text}
use Rattle.draw_svg.specs.Shapes.{Place, group_end, group_text, plain, rect_text, words_text}
use Rattle.draw_svg.specs.Texts.{Adds}
use Rattle.draw_svg.specs.declared.shapes.Area.{Area}

-- some words were appended
abbrev pub AddsSome : Option (List ℕ) → Option (List ℕ) → Type 0
AddsSome old new = (words : List ℕ) × Adds old new words

-- the number of lines of text above a frame
abbrev pub height_of : Gathering → ℕ
height_of gathering = plus (fitting (length gathering.captions.items)) (min gathering.hidden 1)

-- the bars of running meshes, one below the other from a height on
abbrev pub bars_text : Frame → ℕ → ℕ → List RunningMesh → List ℕ
bars_text frame card y [] = []
bars_text frame card y (mesh ∷ meshes) = mesh_text frame card y mesh ++ bars_text frame card (plus y 380) meshes

-- the height of the lines and the bars above a heap
abbrev pub above : ℕ → ℕ → ℕ
above lines meshes = plus (plus (times lines 200) (times meshes 380)) 120

-- the heap from a height on: its pages, or a map of occupancy
unfoldable pub heap_text : Layout → Frame → Frame → ℕ → List ℕ
heap_text layout now before top =
    group_text 0 top ++ (if layout.by_pages then pages_text layout now before else map_text now layout.card) ++ group_end

-- a card: its rectangle, the gathered lines, the running meshes, and the heap below them
unfoldable pub card_text : Gathering → Layout → Frame → Frame → Area → List ℕ
card_text gathering layout now before area =
    rect_text (plain (codes "card")) area 60 ++ group_text area.x area.y ++ captions_text gathering.captions.items gathering.hidden
    ++ bars_text now layout.card (plus (times (height_of gathering) 200) 120) now.meshes.items
    ++ heap_text layout now before (above (height_of gathering) (fitting (length now.meshes.items))) ++ group_end

-- the frame that was drawn before, or this one if none was
abbrev pub before : Gathering → Frame → Frame
before gathering frame = if gathering.begun then gathering.last else frame

-- the text of a card with a frame was appended
pub record DrawsCard (picture : Shown) (frame : Frame) (old new : Option (List ℕ)) : Type 0 where
  pub area : Area
  pub adds : Adds old new (card_text picture.gathering picture.layout frame (before picture.gathering frame) area)

-- the text of a card was appended, with a frame and the lines since the card before. The last of them is this line
pub record DrawsPoint (picture : Shown) (line : Line) (frame : Frame) (old new : Option (List ℕ)) : Type 0 where
  pub gathering : Gathering
  pub ends : EndsWithLine gathering.captions.items line
  pub last : gathering.last ≡ picture.gathering.last
  pub begun : gathering.begun ≡ picture.gathering.begun
  pub area : Area
  pub adds : Adds old new (card_text gathering picture.layout frame (before gathering frame) area)

-- a card with the last frame was appended, if there are lines since the last card
abbrev pub Rests : Shown → Option (List ℕ) → Option (List ℕ) → Type 0
Rests picture old new = ((picture.gathering.captions.items ≡ []) × (new ≡ old)) ⊎ DrawsCard picture picture.gathering.last old new

-- a card for the last lines and the end of the file were appended
pub record EndsFile (picture : Shown) (old new : Option (List ℕ)) : Type 0 where
  pub between : Option (List ℕ)
  pub rest : Rests picture old between
  pub adds : Adds between new (codes "</svg>\n")

-- the titles above the cards, within this width: the name of the job, and the note below it
unfoldable pub titles_text : Shown → ℕ → List ℕ
titles_text picture room =
    label_text (limited (beginning Title (codes "ink") 200 290) room) picture.name
    ++ label_text (limited (beginning Plain (codes "soft") 200 490) room) picture.note

-- the shapes above the cards of a picture with this area: the background, the titles, and the legend
unfoldable pub top_text : Shown → Area → List ℕ → List ℕ
top_text picture all legend = rect_text (plain (codes "bg")) all 0 ++ titles_text picture (all.w - 400) ++ legend

-- the shapes above the cards were appended, with some legend
pub record AddsTop (picture : Shown) (old new : Option (List ℕ)) : Type 0 where
  pub all : Area
  pub legend : List ℕ
  pub adds : Adds old new (top_text picture all legend)

-- a text has these words at some place, escaped
pub record HasWords (words text : List ℕ) : Type 0 where
  pub before : List ℕ
  pub place : Place
  pub after : List ℕ
  pub is : text ≡ before ++ (words_text place words ++ after)

-- a text begins as a picture's file does: with the root element and the title of the file. It has the title that is
-- drawn, and the note after it
pub record IsHead (picture : Shown) (text : List ℕ) : Type 0 where
  pub width : ℕ
  pub height : ℕ
  pub titled : Begins (root_text picture.title width height) text
  pub named : HasWords picture.name text
  pub noted : HasWords picture.note text
