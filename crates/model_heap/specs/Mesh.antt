-- Meshing: how two groups of one class are put on one physical span, step by step. Protecting, copying and remapping
-- follow the publication (Powers, Tench, Berger, McGregor, "Mesh", 2019). The order of the steps and everything else
-- are this project's own choice.
use Rattle.std.specs.Prelude.{ℕ, ◌+◌, ◌-◌, ◌*◌, ◌/◌, Bool, true, false, ◌&&◌, ◌||◌, not, if◌then◌else◌, nat_eq, nat_le, nat_lt, min, List, [], ◌∷◌, ◌++◌, Option, Some, None, Result, Ok, length, map, filter, find}
use Rattle.std.specs.List.{list_any, flat_map, range_with_len}
use Rattle.model_words.specs.Classes.{pages_of, slots_of}
use Rattle.model_heap.specs.Table.{Slot, Group, Progress, Made, Unwinding, Mesh, Table, group_of, has_number, changed_at, Counted}
use Rattle.model_words.specs.Words.{◌>>=◌, or_refuse, refuse_if}
use Rattle.model_words.specs.declared.commands.StepKind.{StepKind}
use Rattle.model_words.specs.declared.commands.StepKind.TheVariants.{Protect, Copy, Remap, Unprotect, Release}
use Rattle.model_words.specs.declared.refusals.Refusal.{Refusal}
use Rattle.model_words.specs.declared.refusals.Refusal.TheVariants.{NoGroup, Same, Class, Busy, Overlap, Members, NoMesh, TooLate}

-- whether both slots have an object
abbrev pub both_occupied : Option Slot → Option Slot → Bool
both_occupied (Some x) (Some y) = true
both_occupied x y = false

-- whether some slot number is occupied in both groups
abbrev pub do_overlap : List (Option Slot) → List (Option Slot) → Bool
do_overlap [] ys = false
do_overlap (x ∷ xs) [] = false
do_overlap (x ∷ xs) (y ∷ ys) = both_occupied x y || do_overlap xs ys

-- the first slot if it has an object, else the second slot
abbrev pub either_slot : Option Slot → Option Slot → Option Slot
either_slot (Some x) y = Some x
either_slot None y = y

-- the slots of two groups together, for groups that have no occupied slot number in common
abbrev pub united : List (Option Slot) → List (Option Slot) → List (Option Slot)
united [] ys = ys
united (x ∷ xs) [] = x ∷ xs
united (x ∷ xs) (y ∷ ys) = either_slot x y ∷ united xs ys

-- the number of virtual pages that a group's members have
abbrev pub page_count : Group → ℕ
page_count group = length group.members * pages_of group.class

-- the number of steps of a whole mesh: each virtual page of the source is protected, remapped and unprotected, each
-- slot is copied, and each physical page is released
abbrev pub step_count : Group → ℕ
step_count source = 3 * page_count source + slots_of source.class + pages_of source.class

-- the number of steps left in a mesh from this source
abbrev pub left_of : Group → Progress → ℕ
left_of source (Made d) = step_count source - d
left_of source (Unwinding q u) = q - u

-- whether any mesh is running, of whatever class
abbrev pub any_mesh : Table → ℕ → Bool
any_mesh t class = list_any (λ mesh. true) t.meshes

-- whether a mesh of the class is running
abbrev pub mesh_of_class : Table → ℕ → Bool
mesh_of_class t class = list_any (λ mesh. nat_eq mesh.class class) t.meshes

-- the two groups that may be meshed
pub record Pair : Type 0 where
  pub source : Group
  pub destination : Group

-- the two groups if a mesh of them may begin now, else the refusal. The caller passes the test for busy classes
abbrev pub may_begin : (Table → ℕ → Bool) → Table → ℕ → ℕ → Result Pair Refusal
may_begin busy t source destination =
    or_refuse NoGroup (group_of t source) >>= λ a. or_refuse NoGroup (group_of t destination) >>= λ b.
    refuse_if Same (nat_eq source destination) >>= λ _. refuse_if Class (not (nat_eq a.class b.class)) >>= λ _.
    refuse_if Busy (busy t a.class) >>= λ _. refuse_if Overlap (do_overlap a.slots b.slots) >>= λ _.
    refuse_if Members (nat_lt 8 (length a.members + length b.members)) >>= λ _. Ok (record { source = a; destination = b })

-- the result of `begin`: the number of steps of the new mesh and the table with this mesh, or the refusal
abbrev pub begin : (Table → ℕ → Bool) → Table → ℕ → ℕ → Result Counted Refusal
begin busy t source destination =
    may_begin busy t source destination >>= λ pair. Ok (record {
      count = step_count pair.source;
      table = record t {
        meshes = t.meshes ++ record { class = pair.source.class; source = source; destination = destination; progress = Made 0 } ∷ [];
      };
    })

-- the group with the source's members added after its own members, and with the objects of both groups
abbrev pub merged_into : Group → Group → Group
merged_into source group = record group { members = group.members ++ source.members; slots = united group.slots source.slots }

-- the groups after the source is merged into the destination and removed
abbrev pub merged : List Group → Group → ℕ → List Group
merged groups source destination =
    filter (λ g. not (has_number source.number g)) (map (changed_at destination (merged_into source)) groups)

-- whether both meshes have the same source and the same destination
abbrev pub is_mesh : Mesh → Mesh → Bool
is_mesh x y = nat_eq x.source y.source && nat_eq x.destination y.destination

-- the mesh with another progress if it is the given mesh, else the unchanged mesh
abbrev pub mesh_at : Mesh → Progress → Mesh → Mesh
mesh_at this progress mesh = if is_mesh this mesh then record mesh { progress = progress } else mesh

-- the meshes after the given mesh has changed its progress
abbrev pub with_progress : List Mesh → Mesh → Progress → List Mesh
with_progress meshes this progress = map (mesh_at this progress) meshes

-- the meshes without the given mesh
abbrev pub without_mesh : List Mesh → Mesh → List Mesh
without_mesh meshes this = filter (λ mesh. not (is_mesh this mesh)) meshes

-- the kind of the next step when `d` steps are made
abbrev pub kind_after : Group → ℕ → StepKind
kind_after source d =
    if nat_lt d (page_count source) then Protect
    else (if nat_lt d (page_count source + slots_of source.class) then Copy
    else (if nat_lt d (2 * page_count source + slots_of source.class) then Remap
    else (if nat_lt d (3 * page_count source + slots_of source.class) then Unprotect else Release)))

-- the result of a step: its kind, the number of steps left, and the table after the step
pub record Stepped : Type 0 where
  pub kind : StepKind
  pub left : ℕ
  pub table : Table

-- the number of free pages after a step: a release frees one page
abbrev pub free_after : StepKind → ℕ → ℕ
free_after Release n = n + 1
free_after kind n = n

-- the table after the next step of a mesh that has made `d` steps; the last step merges the groups and ends the mesh
abbrev pub table_after : Table → Mesh → Group → ℕ → Table
table_after t mesh source d =
    if nat_le (step_count source) (d + 1)
    then record t {
      free_pages = free_after (kind_after source d) t.free_pages;
      meshes = without_mesh t.meshes mesh;
      groups = merged t.groups source mesh.destination;
    }
    else record t {
      free_pages = free_after (kind_after source d) t.free_pages;
      meshes = with_progress t.meshes mesh (Made (d + 1));
    }

-- the table after an unprotect of a cancelled mesh; the last unprotect ends the mesh
abbrev pub table_unwound : Table → Mesh → ℕ → ℕ → Table
table_unwound t mesh q u =
    if nat_le q (u + 1) then record t { meshes = without_mesh t.meshes mesh }
    else record t { meshes = with_progress t.meshes mesh (Unwinding q (u + 1)) }

-- the result of the next step of a mesh from this source
abbrev pub stepped : Table → Mesh → Group → Progress → Stepped
stepped t mesh source (Made d) =
    record { kind = kind_after source d; left = step_count source - (d + 1); table = table_after t mesh source d }
stepped t mesh source (Unwinding q u) = record { kind = Unprotect; left = q - (u + 1); table = table_unwound t mesh q u }

-- the first running mesh
abbrev pub first_mesh : Table → Option Mesh
first_mesh t = find (λ mesh. true) t.meshes

-- the running mesh of a class
abbrev pub mesh_in : Table → ℕ → Option Mesh
mesh_in t class = find (λ mesh. nat_eq mesh.class class) t.meshes

-- the result of the next step of a mesh, or the refusal if there is no mesh. In a sound table the mesh's source is a
-- group, so only the first test can refuse
abbrev pub step : Table → Option Mesh → Result Stepped Refusal
step t which =
    or_refuse NoMesh which >>= λ mesh. or_refuse NoMesh (group_of t mesh.source) >>= λ source. Ok (stepped t mesh source mesh.progress)

-- the result of a cancel before the first remap, when `q` pages are protected: `q` unprotects are left, or the mesh
-- ends if `q` is 0
abbrev pub cancelled_at : Table → Mesh → Group → ℕ → Counted
cancelled_at t mesh source q =
    if nat_eq q 0 then record { count = 0; table = record t { meshes = without_mesh t.meshes mesh } }
    else record { count = q; table = record t { meshes = with_progress t.meshes mesh (Unwinding q 0) } }

-- the result of a cancel, or `TooLate` if a page was remapped. A second cancel returns the number of unprotects left
-- and changes nothing
abbrev pub cancelled : Table → Mesh → Group → Progress → Result Counted Refusal
cancelled t mesh source (Made d) =
    refuse_if TooLate (nat_lt (page_count source + slots_of source.class) d) >>= λ _.
    Ok (cancelled_at t mesh source (min d (page_count source)))
cancelled t mesh source (Unwinding q u) = Ok (record { count = q - u; table = t })

-- the result of a cancel of a mesh, or the refusal
abbrev pub cancel : Table → Option Mesh → Result Counted Refusal
cancel t which =
    or_refuse NoMesh which >>= λ mesh. or_refuse NoMesh (group_of t mesh.source) >>= λ source. cancelled t mesh source mesh.progress

-- the result of a whole mesh: the number of freed pages and the table with the groups merged, or the refusal
abbrev pub mesh_whole : (Table → ℕ → Bool) → Table → ℕ → ℕ → Result Counted Refusal
mesh_whole busy t source destination =
    may_begin busy t source destination >>= λ pair. Ok (record {
      count = pages_of pair.source.class;
      table = record t { free_pages = t.free_pages + pages_of pair.source.class; groups = merged t.groups pair.source destination };
    })

-- whether page `j` of a source with `mp` virtual pages and `s` slots is read-only at this progress
abbrev pub is_protected : ℕ → ℕ → Progress → ℕ → Bool
is_protected mp s (Made d) j = nat_lt j d && nat_lt j mp && nat_le d (j + 2 * mp + s)
is_protected mp s (Unwinding q u) j = nat_le u j && nat_lt j q

-- the virtual pages of a group, member by member, and ascending in each member
abbrev pub virtual_pages : Group → List ℕ
virtual_pages group = flat_map (λ v. range_with_len v (pages_of group.class)) group.members

-- the pages of a list whose numbers pass the test; the first page has the number `j`
abbrev pub pages_where : (ℕ → Bool) → ℕ → List ℕ → List ℕ
pages_where test j [] = []
pages_where test j (v ∷ vs) = if test j then v ∷ pages_where test (j + 1) vs else pages_where test (j + 1) vs

-- the read-only virtual pages of a mesh from this source
abbrev pub read_only_of : Option Group → Mesh → List ℕ
read_only_of None mesh = []
read_only_of (Some source) mesh = pages_where (is_protected (page_count source) (slots_of source.class) mesh.progress) 0 (virtual_pages source)

-- the read-only virtual pages: those of all running meshes
abbrev pub read_only_pages : Table → List ℕ
read_only_pages t = flat_map (λ mesh. read_only_of (group_of t mesh.source) mesh) t.meshes

-- whether a store of `len` bytes to an address touches a read-only page
abbrev pub is_blocked : Table → ℕ → ℕ → Bool
is_blocked t address len = list_any (λ x. list_any (nat_eq (x / 4096)) (read_only_pages t)) (range_with_len address len)
