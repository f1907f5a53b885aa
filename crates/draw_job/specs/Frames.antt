-- The parts of a heap that a picture shows, and the lists of a heap's parts from which its frame is made.
use Rattle.std.specs.Prelude.{◌≡◌, ℕ, zero, suc, ◌+◌, not, nat_lt, List, [], ◌∷◌, ◌++◌, Option, Some, None, slice_get, length}
use Rattle.std.specs.Option.{option_map}
use Rattle.model_words.specs.Classes.{pages_of, slots_of}
use Rattle.model_heap.specs.Table.{Mesh, Report, group_of, report_of}
use Rattle.mesh_page_heap.specs.MeshLayouts.{mesh_from}
use Rattle.mesh_steps.specs.Heap.{Heap, arena_of, index_of, map_of, table_of}
use Rattle.mesh_page_heap.specs.Shown.{home_at, lead_at, member_at, object_at, released_of}
use Rattle.mesh_pagemap.specs.declared.mapping.Mapping.{Mapping}
use Rattle.mesh_running.specs.Progress.{stored_progress}
use Rattle.draw_picture.specs.declared.frame.Counts.{Counts}
use Rattle.draw_picture.specs.declared.frame.Frame.{Frame}
use Rattle.draw_picture.specs.declared.frame.Home.{Home}
use Rattle.draw_picture.specs.declared.frame.Member.{Member}
use Rattle.draw_picture.specs.declared.frame.MeshProgress.TheVariants.{Steps}
use Rattle.draw_picture.specs.declared.frame.Object.{Object}
use Rattle.draw_picture.specs.declared.frame.RunningMesh.{RunningMesh}

-- the lists that a function returns for each number below this one, in order, joined
abbrev pub below : {A : Type 0} → ℕ → (ℕ → List A) → List A
below zero list = []
below (suc n) list = below n list ++ list n

-- an optional value as a list of at most one
abbrev pub listed : {A : Type 0} → Option A → List A
listed None = []
listed (Some x) = x ∷ []

-- the list that a function returns for an optional value: empty if the value is missing
abbrev pub listing : {A B : Type 0} → Option A → (A → List B) → List B
listing None list = []
listing (Some x) list = list x

-- the class of group `n`, if this group exists
abbrev pub class_in : Heap → ℕ → Option ℕ
class_in h n = option_map (λ g. g.class) (group_of (table_of h) n)

-- the first virtual page of the member at a place of group `n`, if this member exists
abbrev pub first_in : Heap → ℕ → ℕ → Option ℕ
first_in h n place = member_at (group_of (table_of h) n) place

-- the member at a place of group `n`, if this member exists. The class is passed along
abbrev pub member_row : Heap → ℕ → ℕ → ℕ → Option Member
member_row h n class place = option_map (λ first. record { group = n; class = class; first = first }) (first_in h n place)

-- the mapping of a virtual page, if the page is mapped
abbrev pub lead_row : Heap → ℕ → Option Mapping
lead_row h v = lead_at (map_of h) v

-- the object in slot `k` of the member at a place of group `n`, if the slot has an object. `first` is the member's
-- first virtual page
abbrev pub object_row : Heap → ℕ → ℕ → ℕ → ℕ → Option Object
object_row h n place first k = option_map (λ o. record { member = first; slot = k; serial = o.0; len = o.1 }) (object_at (group_of (table_of h) n) place k)

-- the number of physical pages that group `n` has released
abbrev pub released_in : Heap → ℕ → ℕ
released_in h n = released_of (group_of (table_of h) n) (mesh_from n (table_of h).meshes)

-- the physical page at place `i` of group `n`, if there is one. The page is taken unless a mesh has released it: the
-- pages of a group are released in their order
abbrev pub home_row : Heap → ℕ → ℕ → Option Home
home_row h n i =
    option_map (λ page. record { group = n; place = i; page = page; taken = not (nat_lt i (released_in h n)) }) (home_at (index_of h) n i)

-- a running mesh, from its record in the table
abbrev pub mesh_row : Mesh → RunningMesh
mesh_row mesh = record { class = mesh.class; source = mesh.source; destination = mesh.destination; progress = Steps (stored_progress mesh.progress) }

-- the page counts of a heap: mapped, taken and saved
abbrev pub counts_row : Report → Counts
counts_row report = record { mapped = report.mapped; taken = report.taken; saved = report.saved }

-- the members of a group `n` of this class: at most eight
abbrev pub members_of_class : Heap → ℕ → ℕ → List Member
members_of_class h n class = below 8 (λ place. listed (member_row h n class place))

-- the mappings of the pages of a member. `first` is the member's first virtual page
abbrev pub leads_of_member : Heap → ℕ → ℕ → List Mapping
leads_of_member h class first = below (pages_of class) (λ i. listed (lead_row h (first + i)))

-- the mappings of the pages of the members of a group of this class
abbrev pub leads_of_class : Heap → ℕ → ℕ → List Mapping
leads_of_class h n class = below 8 (λ place. listing (first_in h n place) (leads_of_member h class))

-- the objects of the member at a place of a group. `first` is the member's first virtual page
abbrev pub objects_of_member : Heap → ℕ → ℕ → ℕ → ℕ → List Object
objects_of_member h n class place first = below (slots_of class) (λ k. listed (object_row h n place first k))

-- the objects of the members of a group of this class
abbrev pub objects_of_class : Heap → ℕ → ℕ → List Object
objects_of_class h n class = below 8 (λ place. listing (first_in h n place) (objects_of_member h n class place))

-- the physical pages of a group of this class
abbrev pub homes_of_class : Heap → ℕ → ℕ → List Home
homes_of_class h n class = below (pages_of class) (λ i. listed (home_row h n i))

-- what a group shows, with the group's own class: its members. The next three definitions list the mappings of their
-- pages, their objects, and the group's physical pages
abbrev pub members_of_group : Heap → ℕ → List Member
members_of_group h n = listing (class_in h n) (members_of_class h n)

abbrev pub leads_of_group : Heap → ℕ → List Mapping
leads_of_group h n = listing (class_in h n) (leads_of_class h n)

abbrev pub objects_of_group : Heap → ℕ → List Object
objects_of_group h n = listing (class_in h n) (objects_of_class h n)

abbrev pub homes_of_group : Heap → ℕ → List Home
homes_of_group h n = listing (class_in h n) (homes_of_class h n)

-- the running meshes: at most one for each of the ten classes
abbrev pub meshes_of : Heap → List RunningMesh
meshes_of h = below 10 (λ place. listed (option_map mesh_row (slice_get (table_of h).meshes place)))

-- the members, mappings, objects and physical pages of group `n` were added to a frame. All else is unchanged
pub record AddsGroup (h : Heap) (n : ℕ) (old new : Frame) : Type 0 where
  pub members : new.members.items ≡ old.members.items ++ members_of_group h n
  pub leads : new.leads.items ≡ old.leads.items ++ leads_of_group h n
  pub objects : new.objects.items ≡ old.objects.items ++ objects_of_group h n
  pub homes : new.homes.items ≡ old.homes.items ++ homes_of_group h n
  pub meshes : new.meshes.items ≡ old.meshes.items
  pub hidden : new.hidden.items ≡ old.hidden.items
  pub mark : new.mark ≡ old.mark
  pub counts : new.counts ≡ old.counts

-- a frame shows the groups with numbers below `n`, all running meshes, and the counts. Nothing is hidden or wrong
pub record ShowsBelow (h : Heap) (n : ℕ) (f : Frame) : Type 0 where
  pub members : f.members.items ≡ below n (members_of_group h)
  pub leads : f.leads.items ≡ below n (leads_of_group h)
  pub objects : f.objects.items ≡ below n (objects_of_group h)
  pub homes : f.homes.items ≡ below n (homes_of_group h)
  pub meshes : f.meshes.items ≡ meshes_of h
  pub hidden : f.hidden.items ≡ []
  pub mark : f.mark ≡ None
  pub counts : f.counts ≡ counts_row (report_of (length (arena_of h)) (table_of h))

-- a frame shows the whole heap: all groups have numbers below the lowest virtual page that was never used
abbrev pub IsFrame : Heap → Frame → Type 0
IsFrame h f = ShowsBelow h (table_of h).next_page f
