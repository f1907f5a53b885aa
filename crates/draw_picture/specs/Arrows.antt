-- The arrows from virtual pages to physical pages.
use Rattle.std.specs.Prelude.{ℕ, ◌-◌, ◌/◌, ◌++◌, ◌∷◌, [], Bool, true, false, List, Option, None, Some, codes, if◌then◌else◌, nat_eq}
use Rattle.std.specs.List.{flat_map}
use Rattle.std.specs.Option.{is_some}
use Rattle.draw_picture.specs.Layouts.{page_left, physical_left, span_of}
use Rattle.draw_picture.specs.Numbers.{plus}
use Rattle.draw_picture.specs.Objects.{listing}
use Rattle.draw_picture.specs.Parts.{groups_colour, lead_of}
use Rattle.draw_picture.specs.declared.frame.Frame.{Frame}
use Rattle.draw_picture.specs.declared.layout.Layout.{Layout}
use Rattle.draw_svg.specs.Shapes.{Style, joined, nth, path_text, plain}
use Rattle.draw_svg.specs.declared.shapes.Way.TheVariants.{Bend, Curve, Line, Move}
use Rattle.mesh_pagemap.specs.declared.mapping.Mapping.{Mapping}

-- the horizontal middle of a physical page
abbrev pub middle : Layout → ℕ → ℕ
middle layout page = plus (physical_left layout page) (layout.page / 2)

-- the physical page of an earlier mapping, if it isn't that of this one
abbrev pub other_page : Mapping → Option Mapping → Option ℕ
other_page lead None = None
other_page lead (Some was) = if nat_eq was.physical_page lead.physical_page then None else Some was.physical_page

-- the physical page that a virtual page was mapped to before, if it is another one now
abbrev pub moved_from : Frame → Mapping → Option ℕ
moved_from before lead = other_page lead (lead_of before lead.virtual_page)

-- a curve from below the virtual pages to the physical pages
unfoldable pub curve_text : Style → ℕ → ℕ → List ℕ
curve_text style from to =
    path_text style
    (record { way = Move; x = from; y = 1330 } ∷ record { way = Curve; x = from; y = 1590 } ∷ record { way = Bend; x = to; y = 1520 }
    ∷ record { way = Bend; x = to; y = 1780 } ∷ [])

-- the head of an arrow
unfoldable pub head_text : Style → ℕ → List ℕ
head_text style to =
    path_text style
    (record { way = Move; x = to - 42; y = 1715 } ∷ record { way = Line; x = to; y = 1780 } ∷ record { way = Line; x = plus to 42; y = 1715 } ∷ [])

-- a curve to the physical page that a virtual page was mapped to before, if there is one
unfoldable pub was_text : Layout → ℕ → Option ℕ → List ℕ
was_text layout from was = listing was (λ page. curve_text (plain (codes "was")) from (middle layout page))

-- the colour of an arrow: that of changes if the mapping has changed, and otherwise that of the page's group
abbrev pub arrow_style : Frame → Mapping → Bool → Style
arrow_style frame lead changed = if changed then plain (codes "chg") else nth (codes "a") (groups_colour frame lead.virtual_page)

-- the rule of an arrow's line: dashed if the page is read-only, and bold if the mapping has changed
abbrev pub line_rule : Bool → Bool → List ℕ
line_rule false false = []
line_rule true false = codes "hold"
line_rule false true = codes "bold"
line_rule true true = codes "bold hold"

-- the arrow of a mapping, which starts at this place
unfoldable pub arrow_text : Layout → Frame → Frame → Mapping → ℕ → List ℕ
arrow_text layout now before lead from =
    was_text layout from (moved_from before lead)
    ++ curve_text (joined (arrow_style now lead (is_some (moved_from before lead))) (line_rule lead.read_only (is_some (moved_from before lead)))) from
    (middle layout lead.physical_page)
    ++ head_text (arrow_style now lead (is_some (moved_from before lead))) (middle layout lead.physical_page)

-- the arrow of a mapping, if the virtual page has a place
unfoldable pub lead_text : Layout → Frame → Frame → Mapping → List ℕ
lead_text layout now before lead =
    listing (span_of layout lead.virtual_page)
    (λ span. arrow_text layout now before lead (plus (page_left layout span (lead.virtual_page - span.first)) (layout.page / 2)))

-- the arrows of a frame
unfoldable pub arrows_text : Layout → Frame → Frame → List ℕ
arrows_text layout now before = flat_map (lead_text layout now before) now.leads.items
