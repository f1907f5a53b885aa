-- The parts of objects in a page, and what a frame says of a page.
use Rattle.std.specs.Prelude.{ℕ, ◌-◌, ◌%◌, ◌||◌, ◌&&◌, Bool, false, Option, None, Some, find, if◌then◌else◌, min, nat_eq, nat_le, nat_lt}
use Rattle.model_words.specs.Classes.{pages_of}
use Rattle.draw_picture.specs.Numbers.{plus, times}
use Rattle.draw_picture.specs.declared.frame.Frame.{Frame}
use Rattle.draw_picture.specs.declared.frame.Member.{Member}
use Rattle.draw_picture.specs.declared.frame.Object.{Object}
use Rattle.draw_picture.specs.declared.parts.Part.{Part}
use Rattle.draw_picture.specs.declared.parts.State.{State}
use Rattle.draw_picture.specs.declared.parts.State.TheVariants.{Live}
use Rattle.mesh_pagemap.specs.declared.mapping.Mapping.{Mapping}

-- the part of an object's slot between two bytes of its span, in the page with the bytes `low` to `high` of the span.
-- `filled` is the end of the object's bytes
abbrev pub part_between : Object → ℕ → State → ℕ → ℕ → ℕ → ℕ → ℕ → Option Part
part_between object class state from to filled low high =
    if nat_le to low || nat_le high from then None
    else Some (record { serial = object.serial; size = class; from = from - low; filled = min filled high - low; to = min to high - low; state = state })

-- the part of the bytes from `from` on that are an object's slot, in the page from byte `low` on
abbrev pub part_at : Object → ℕ → State → ℕ → ℕ → Option Part
part_at object class state from low =
    part_between object class state from (plus from class) (min (plus from object.len) (plus from class)) low (plus low 4096)

-- the part of an object's slot in the page at a place of the object's span, if the page has bytes of it
abbrev pub part_of : Object → ℕ → ℕ → State → Option Part
part_of object class place state = part_at object class state (times object.slot class) (times place 4096)

-- the mapping of a virtual page, if the page is mapped
abbrev pub lead_of : Frame → ℕ → Option Mapping
lead_of frame page = find (λ lead. nat_eq lead.virtual_page page) frame.leads.items

-- whether a mapping is there and read-only
abbrev pub is_held : Option Mapping → Bool
is_held None = false
is_held (Some lead) = lead.read_only

-- whether a virtual page is mapped and read-only
abbrev pub is_read_only : Frame → ℕ → Bool
is_read_only frame page = is_held (lead_of frame page)

-- the state of bytes whose virtual page has this mapping, in a physical page
abbrev pub state_at : ℕ → State → Option Mapping → State
state_at page unmapped None = unmapped
state_at page unmapped (Some lead) = if nat_eq lead.physical_page page then Live else unmapped

-- the state of a member's bytes in the physical page at a place of a group
abbrev pub state_in : Frame → Member → ℕ → ℕ → State → State
state_in frame member place page unmapped = state_at page unmapped (lead_of frame (plus member.first place))

-- whether a virtual page belongs to a member
abbrev pub has_page : ℕ → Member → Bool
has_page page member = nat_le member.first page && nat_lt (page - member.first) (pages_of member.class)

-- the colour of a member's group
abbrev pub colour_of : Option Member → ℕ
colour_of None = 0
colour_of (Some member) = member.group % 8

-- the colour of the group that a virtual page belongs to
abbrev pub groups_colour : Frame → ℕ → ℕ
groups_colour frame page = colour_of (find (has_page page) frame.members.items)
