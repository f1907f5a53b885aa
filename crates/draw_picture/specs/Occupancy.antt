-- The map of occupancy: a row for each member of each group.
use Rattle.std.specs.Prelude.{ℕ, ◌-◌, ◌%◌, ◌&&◌, ◌++◌, ◌∷◌, [], Bool, List, codes, find, if◌then◌else◌, length, min, nat_eq, take}
use Rattle.std.specs.List.{flat_map}
use Rattle.std.specs.Option.{is_some}
use Rattle.model_words.specs.Classes.{slots_of}
use Rattle.draw_picture.specs.Lettering.{beginning, ending, inked, label_text, limited}
use Rattle.draw_picture.specs.Numbers.{counted, fitting, plus, share, times}
use Rattle.draw_picture.specs.Pages.{counts_text}
use Rattle.draw_picture.specs.Parts.{has_page}
use Rattle.draw_picture.specs.declared.frame.Frame.{Frame}
use Rattle.draw_picture.specs.declared.frame.Member.{Member}
use Rattle.draw_picture.specs.declared.frame.Object.{Object}
use Rattle.draw_picture.specs.declared.frame.RunningMesh.{RunningMesh}
use Rattle.draw_picture.specs.declared.lettering.Face.TheVariants.{Plain, Strong}
use Rattle.draw_svg.specs.Shapes.{group_end, group_text, plain, rect_text}
use Rattle.draw_svg.specs.Templates.{filled}
use Rattle.mesh_pagemap.specs.declared.mapping.Mapping.{Mapping}

-- the group, the class and the span of a member
unfoldable pub member_text : Member → List ℕ
member_text member =
    label_text (limited (inked (beginning Strong [] 0 110) (codes "k") (member.group % 8)) 770) (filled (codes "group #") (member.group ∷ []))
    ++ label_text (ending Plain (codes "soft") 1250 110) (filled (codes "# B") (member.class ∷ []))
    ++ label_text (limited (beginning Plain (codes "soft") 1350 110) 740) (filled (codes "span #") (member.first ∷ []))

-- whether a mapping is read-only and of a member's page
abbrev pub holds : Member → Mapping → Bool
holds member lead = lead.read_only && has_page lead.virtual_page member

-- whether a page of a member is read-only
abbrev pub is_held : Frame → Member → Bool
is_held frame member = is_some (find (holds member) frame.leads.items)

-- whether an object is one of a member's
abbrev pub is_in : Member → Object → Bool
is_in member object = nat_eq object.member member.first

-- an occupied slot of a member, if the object is one of the member's
unfoldable pub occupied_text : Member → Object → List ℕ
occupied_text member object =
    if is_in member object then rect_text (plain (codes "occ"))
    (record { x = plus 2150 (share 3000 object.slot (slots_of member.class)); y = 30; w = share 3000 1 (slots_of member.class); h = 90 })
    0
    else []

-- which slots of a member are occupied
unfoldable pub slots_text : Frame → Member → List ℕ
slots_text frame member =
    rect_text (plain (if is_held frame member then codes "rom" else codes "pg")) (record { x = 2150; y = 20; w = 3000; h = 110 }) 0
    ++ flat_map (occupied_text member) frame.objects.items

-- the number of a member's objects
abbrev pub occupied : Frame → Member → ℕ
occupied frame member = counted (is_in member) 0 frame.objects.items

-- the number of occupied slots of a member, and a mark if a page of the member is read-only
unfoldable pub state_text : Frame → Member → List ℕ
state_text frame member =
    label_text (ending Plain (codes "ink") 5700 110) (filled (codes "#/#") (occupied frame member ∷ slots_of member.class ∷ []))
    ++ (if is_held frame member then label_text (beginning Strong (codes "amber") 5800 110) (filled (codes "read-only") []) else [])

-- the role of a group in a running mesh, if it is the mesh's source or destination
unfoldable pub role_text : ℕ → RunningMesh → List ℕ
role_text group mesh =
    if nat_eq mesh.source group then label_text (beginning Strong (codes "blue") 6500 110) (filled (codes "goes into #") (mesh.destination ∷ []))
    else if nat_eq mesh.destination group then label_text (beginning Strong (codes "blue") 6500 110) (filled (codes "takes in #") (mesh.source ∷ []))
    else []

-- the row of a member
unfoldable pub row_text : Frame → ℕ → Member → List ℕ
row_text frame row member =
    group_text 120 (plus 200 (times row 170)) ++ member_text member ++ slots_text frame member ++ state_text frame member
    ++ flat_map (role_text member.group) frame.meshes.items ++ group_end

-- a row for each of these members, from a row on
abbrev pub rows_text : Frame → ℕ → List Member → List ℕ
rows_text frame row [] = []
rows_text frame row (member ∷ members) = row_text frame row member ++ rows_text frame (plus row 1) members

-- the number of members that are left out, if there are any
unfoldable pub left_out_text : ℕ → List ℕ
left_out_text members =
    if nat_eq members 0 then [] else label_text (beginning Plain (codes "soft") 120 (plus 310 34000)) (filled (codes ".. and # more spans") (members ∷ []))

-- the map of a frame
unfoldable pub map_text : Frame → ℕ → List ℕ
map_text frame card =
    counts_text frame.counts card 110 ++ rows_text frame 0 (take (min (length frame.members.items) 200) frame.members.items)
    ++ left_out_text (fitting (length frame.members.items - min (length frame.members.items) 200))
