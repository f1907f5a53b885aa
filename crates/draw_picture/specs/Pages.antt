-- The drawing of the virtual and the physical pages of a frame.
use Rattle.std.specs.Prelude.{ℕ, ◌-◌, ◌/◌, ◌%◌, ◌^◌, ◌||◌, ◌&&◌, ◌++◌, ◌∷◌, [], Bool, false, not, List, Option, None, Some, codes, find, if◌then◌else◌, length, nat_eq, nat_le}
use Rattle.std.specs.List.{flat_map, list_any}
use Rattle.std.specs.Option.{is_some}
use Rattle.std.specs.Str.{bytes_eq}
use Rattle.model_words.specs.Classes.{pages_of}
use Rattle.draw_picture.specs.Alike.{copied_slots}
use Rattle.draw_picture.specs.Arrows.{arrows_text}
use Rattle.draw_picture.specs.Layouts.{page_left, physical_left, span_of, span_width}
use Rattle.draw_picture.specs.Lettering.{beginning, centred, ending, inked, label_text, limited}
use Rattle.draw_picture.specs.Numbers.{plus}
use Rattle.draw_picture.specs.Objects.{below, grid_text, listing, part_text}
use Rattle.draw_picture.specs.Parts.{is_read_only, lead_of, part_of, state_in}
use Rattle.draw_picture.specs.declared.frame.Counts.{Counts}
use Rattle.draw_picture.specs.declared.frame.Frame.{Frame}
use Rattle.draw_picture.specs.declared.frame.Home.{Home}
use Rattle.draw_picture.specs.declared.frame.Mark.{Mark}
use Rattle.draw_picture.specs.declared.frame.Mark.TheVariants.{Virtual, Physical}
use Rattle.draw_picture.specs.declared.frame.Member.{Member}
use Rattle.draw_picture.specs.declared.frame.Object.{Object}
use Rattle.draw_picture.specs.declared.frame.RunningMesh.{RunningMesh}
use Rattle.draw_picture.specs.declared.layout.Layout.{Layout}
use Rattle.draw_picture.specs.declared.layout.Span.{Span}
use Rattle.draw_picture.specs.declared.lettering.Face.TheVariants.{Plain, Strong}
use Rattle.draw_picture.specs.declared.pages.Held.{Held}
use Rattle.draw_picture.specs.declared.parts.State.{State}
use Rattle.draw_picture.specs.declared.parts.State.TheVariants.{Live, Copied, Old}
use Rattle.draw_svg.specs.Shapes.{Style, group_end, group_text, nth, path_text, plain, rect_text}
use Rattle.draw_svg.specs.Templates.{filled}
use Rattle.draw_svg.specs.declared.shapes.Area.{Area}
use Rattle.draw_svg.specs.declared.shapes.Way.TheVariants.{Line, Move}
use Rattle.mesh_pagemap.specs.declared.mapping.Mapping.{Mapping}

-- the name of a row of pages
unfoldable pub pages_name : List ℕ → ℕ → List ℕ
pages_name name y = label_text (beginning Plain (codes "soft") 120 y) name

-- the counts of pages
unfoldable pub counts_text : Counts → ℕ → ℕ → List ℕ
counts_text counts card y =
    label_text (if nat_eq counts.saved 0 then ending Plain (codes "soft") (card - 120) y else ending Strong (codes "green") (card - 120) y)
    (filled (codes "# mapped - # taken = # saved") (counts.mapped ∷ counts.taken ∷ counts.saved ∷ []))

-- the area of a page whose upper left corner is at 0, 0
abbrev pub page_area : ℕ → Area
page_area page = record { x = 0; y = 0; w = page; h = 480 }

-- the empty place of a span
unfoldable pub empty_text : Layout → Span → List ℕ
empty_text layout span = rect_text (plain (codes "no")) (record { x = span.x; y = 540; w = span_width layout span.class; h = 480 }) 30

-- the bracket above a member's pages
unfoldable pub bracket_text : ℕ → ℕ → ℕ → List ℕ
bracket_text left right colour =
    path_text (nth (codes "a") colour)
    (record { way = Move; x = left; y = 510 } ∷ record { way = Line; x = left; y = 470 } ∷ record { way = Line; x = right; y = 470 }
    ∷ record { way = Line; x = right; y = 510 } ∷ [])

-- the heading of a member: a bracket, its group and its class
unfoldable pub heading_text : Layout → Span → Member → List ℕ
heading_text layout span member =
    bracket_text span.x (plus span.x (span_width layout span.class)) (member.group % 8)
    ++ label_text (limited (inked (beginning Strong [] span.x 290) (codes "k") (member.group % 8)) (span_width layout span.class))
    (filled (codes "group #") (member.group ∷ []))
    ++ label_text (limited (beginning Plain (codes "soft") span.x 430) (span_width layout span.class)) (filled (codes "# B") (member.class ∷ []))

-- the member that begins at a virtual page
abbrev pub member_at : Frame → ℕ → Option Member
member_at frame first = find (λ member. nat_eq member.first first) frame.members.items

-- a span's heading, or an empty place if there is no such member
abbrev pub headed : Layout → Span → Option Member → List ℕ
headed layout span None = empty_text layout span
headed layout span (Some member) = heading_text layout span member

unfoldable pub span_text : Layout → Frame → Span → List ℕ
span_text layout frame span = headed layout span (member_at frame span.first)

-- the style of a virtual page
abbrev pub page_style : Bool → Style
page_style read_only = plain (if read_only then codes "ro" else codes "pg")

-- the part of an object that is in the page at a place of a span, if it is one of the span's objects
unfoldable pub object_text : Span → ℕ → ℕ → Object → List ℕ
object_text span place page object = if nat_eq object.member span.first then listing (part_of object span.class place Live) (part_text page) else []

-- the parts of a span's objects in the page at a place of the span
unfoldable pub objects_text : Frame → Span → ℕ → ℕ → List ℕ
objects_text frame span place page = flat_map (object_text span place page) frame.objects.items

-- whether loads of a virtual page are blocked
abbrev pub is_hidden : Frame → ℕ → Bool
is_hidden frame page = list_any (λ hidden. nat_eq hidden page) frame.hidden.items

-- the words for the protection of a virtual page
abbrev pub protection_words : Frame → ℕ → List ℕ
protection_words frame page = if is_read_only frame page then (if is_hidden frame page then codes "hidden" else codes "read-only") else []

-- the words for the protection of a page, if it has one
unfoldable pub protection_text : List ℕ → ℕ → List ℕ
protection_text words width =
    if nat_eq (length words) 0 then [] else label_text (limited (beginning Strong (codes "amber") 20 760) width) words

-- the number of a page below it, and the words for its protection if it has one
unfoldable pub labels_text : ℕ → List ℕ → ℕ → List ℕ
labels_text page words width =
    label_text (limited (beginning Plain (codes "soft") 20 620) width) (filled (codes "#") (page ∷ [])) ++ protection_text words width

-- whether something is wrong on a virtual page
abbrev pub marks_virtual : Option Mark → ℕ → Bool
marks_virtual (Some (Virtual marked)) page = nat_eq marked page
marks_virtual mark page = false

-- whether something is wrong on a physical page
abbrev pub marks_physical : Option Mark → ℕ → Bool
marks_physical (Some (Physical marked)) page = nat_eq marked page
marks_physical mark page = false

-- the mark of a page on which something is wrong
unfoldable pub mark_text : Bool → ℕ → List ℕ
mark_text marked width =
    if marked then rect_text (plain (codes "pr")) (record { x = 0; y = 420; w = width; h = 60 }) 0
    ++ label_text (ending Strong (codes "red") (width - 20) 620) (filled (codes "wrong") []) else []

-- whether two answers aren't the same
abbrev pub differ : Bool → Bool → Bool
differ one other = if one then not other else other

-- the mark of a page that has changed
unfoldable pub change_text : Bool → ℕ → List ℕ
change_text changed width = if changed then rect_text (plain (codes "new")) (page_area width) 30 else []

-- a virtual page of a span
abbrev pub virtual_at : Layout → Frame → Frame → Span → ℕ → ℕ → List ℕ
virtual_at layout now before span page place =
    group_text (page_left layout span place) 540 ++ rect_text (page_style (is_read_only now page)) (page_area layout.page) 30
    ++ grid_text span.class place layout.page ++ objects_text now span place layout.page ++ labels_text page (protection_words now page) layout.page
    ++ change_text (differ (is_read_only now page) (is_read_only before page)) layout.page ++ mark_text (marks_virtual now.mark page) layout.page ++ group_end

unfoldable pub virtual_text : Layout → Frame → Frame → Span → ℕ → List ℕ
virtual_text layout now before span page = virtual_at layout now before span page (page - span.first)

-- a mapped virtual page, if it belongs to a span that has a place
unfoldable pub mapped_text : Layout → Frame → Frame → Mapping → List ℕ
mapped_text layout now before lead = listing (span_of layout lead.virtual_page) (λ span. virtual_text layout now before span lead.virtual_page)

-- whether a virtual page is mapped
abbrev pub is_mapped : Frame → ℕ → Bool
is_mapped frame page = is_some (lead_of frame page)

-- the place of a virtual page of a span that isn't mapped
abbrev pub unmapped_at : Layout → Frame → Frame → Span → ℕ → ℕ → List ℕ
unmapped_at layout now before span place page =
    group_text (page_left layout span place) 540 ++ rect_text (plain (codes "no")) (page_area layout.page) 30
    ++ labels_text page (codes "not mapped") layout.page ++ change_text (is_mapped before page) layout.page
    ++ mark_text (marks_virtual now.mark page) layout.page ++ group_end

-- the place of the page at a place of a span, if the page isn't mapped
unfoldable pub unmapped_text : Layout → Frame → Frame → Span → ℕ → List ℕ
unmapped_text layout now before span place =
    if is_mapped now (plus span.first place) then [] else unmapped_at layout now before span place (plus span.first place)

-- the places of a span's pages that aren't mapped, if there is such a member
abbrev pub unmapped_in : Layout → Frame → Frame → Span → Option Member → List ℕ
unmapped_in layout now before span None = []
unmapped_in layout now before span (Some member) = below (pages_of span.class) (unmapped_text layout now before span)

unfoldable pub unmapped_of_text : Layout → Frame → Frame → Span → List ℕ
unmapped_of_text layout now before span = unmapped_in layout now before span (member_at now span.first)

-- the home of a physical page, if the page is taken
abbrev pub home_of : Frame → ℕ → Option Home
home_of frame page = find (λ home. nat_eq home.page page && home.taken) frame.homes.items

-- a free physical page
unfoldable pub free_text : ℕ → List ℕ
free_text width = rect_text (plain (codes "no")) (page_area width) 30 ++ label_text (centred Plain (codes "soft") (width / 2) 275) (codes "free")

-- the part of an object that is in a physical page, if it is one of the member's objects
unfoldable pub held_object_text : Held → Member → State → Object → List ℕ
held_object_text held member state object =
    if not (nat_eq object.member member.first) || nat_le held.below object.slot then []
    else listing (part_of object member.class held.place state) (part_text held.width)

-- the objects of a member that are in a physical page
unfoldable pub member_objects_text : Frame → Held → Member → State → List ℕ
member_objects_text frame held member state = flat_map (held_object_text held member state) frame.objects.items

-- the same, if the member is one of the group
unfoldable pub member_text : Frame → Held → Member → List ℕ
member_text frame held member =
    if nat_eq member.group held.group then member_objects_text frame held member (state_in frame member held.place held.page held.unmapped) else []

-- the objects of a group that are in a physical page
unfoldable pub held_text : Frame → Held → List ℕ
held_text frame held = flat_map (member_text frame held) frame.members.items

-- the objects of a physical page's own group
abbrev pub held_by : ℕ → Home → Held
held_by width home = record { page = home.page; place = home.place; group = home.group; below = 2 ^ 32 - 1; unmapped = Old; width = width }

-- the objects that a mesh has copied to a physical page
abbrev pub copied_by : Frame → ℕ → Home → RunningMesh → Held
copied_by frame width home mesh =
    record { page = home.page; place = home.place; group = mesh.source; below = copied_slots frame mesh; unmapped = Copied; width = width }

unfoldable pub copies_text : Frame → ℕ → Home → RunningMesh → List ℕ
copies_text frame width home mesh = if nat_eq mesh.destination home.group then held_text frame (copied_by frame width home mesh) else []

-- a taken physical page: the objects of its group, and those that a mesh has copied to it
unfoldable pub taken_text : Frame → ℕ → Home → List ℕ
taken_text frame width home =
    rect_text (plain (codes "pg")) (page_area width) 30 ++ held_text frame (held_by width home) ++ flat_map (copies_text frame width home) frame.meshes.items

-- the contents of a physical page
abbrev pub filled_or_free : Frame → ℕ → Option Home → List ℕ
filled_or_free frame width None = free_text width
filled_or_free frame width (Some home) = taken_text frame width home

unfoldable pub contents_text : Frame → ℕ → ℕ → List ℕ
contents_text frame width page = filled_or_free frame width (home_of frame page)

-- a physical page, with a mark if it isn't drawn as in the frame before
unfoldable pub physical_text : Layout → Frame → Frame → ℕ → List ℕ
physical_text layout now before page =
    group_text (physical_left layout page) 1820 ++ contents_text now layout.page page ++ labels_text page [] layout.page
    ++ change_text (not (bytes_eq (contents_text now layout.page page) (contents_text before layout.page page))) layout.page
    ++ mark_text (marks_physical now.mark page) layout.page ++ group_end

-- what is below the physical pages
unfoldable pub bottom_text : Layout → Frame → List ℕ
bottom_text layout now = pages_name (codes "physical pages") 2600 ++ counts_text now.counts layout.card 2600

-- the headings of spans
unfoldable pub spans_text : Layout → Frame → List ℕ
spans_text layout now = flat_map (span_text layout now) layout.spans.items

-- the mapped virtual pages
unfoldable pub all_mapped_text : Layout → Frame → Frame → List ℕ
all_mapped_text layout now before = flat_map (mapped_text layout now before) now.leads.items

-- the places of the virtual pages that aren't mapped
abbrev pub all_unmapped_text : Layout → Frame → Frame → List ℕ
all_unmapped_text layout now before = flat_map (unmapped_of_text layout now before) layout.spans.items

-- the virtual pages with their name and the headings of spans
unfoldable pub upper_text : Layout → Frame → Frame → List ℕ
upper_text layout now before =
    pages_name (codes "virtual pages") 110 ++ spans_text layout now ++ all_mapped_text layout now before ++ all_unmapped_text layout now before

-- the physical pages, what is below them, and the arrows to them
unfoldable pub lower_text : Layout → Frame → Frame → List ℕ
lower_text layout now before = below layout.physical (physical_text layout now before) ++ bottom_text layout now ++ arrows_text layout now before

-- the pages of a frame
unfoldable pub pages_text : Layout → Frame → Frame → List ℕ
pages_text layout now before = upper_text layout now before ++ lower_text layout now before
