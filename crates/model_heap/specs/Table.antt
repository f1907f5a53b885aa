-- The table: the state of a heap without its bytes. Spans, groups and their order are this project's own choice.
use Rattle.std.specs.Prelude.{ℕ, ◌+◌, ◌-◌, ◌*◌, ◌%◌, Bool, ◌&&◌, ◌||◌, not, if◌then◌else◌, nat_eq, nat_lt, List, [], ◌∷◌, ◌++◌, Option, Some, None, Result, Ok, length, map, filter, find, count_by, sum_by, is_some, replicate, slice_index, slice_set}
use Rattle.std.specs.List.{list_any}
use Rattle.model_words.specs.Classes.{pages_of, slots_of, class_for}
use Rattle.model_words.specs.Words.{◌>>=◌, or_refuse, refuse_if}
use Rattle.model_words.specs.declared.refusals.Refusal.{Refusal}
use Rattle.model_words.specs.declared.refusals.Refusal.TheVariants.{Zero, TooLarge, NoPages, NoAddresses, NoGroup, Busy, NotEmpty}

-- an object in a slot: the member that holds the object's address (by the member's first virtual page), the serial and
-- the length
pub record Slot : Type 0 where
  pub member : ℕ
  pub serial : ℕ
  pub len : ℕ

-- a group: its number, its class (the slot size in bytes), the first virtual page of each member, and the content of
-- each slot
pub record Group : Type 0 where
  pub number : ℕ
  pub class : ℕ
  pub members : List ℕ
  pub slots : List (Option Slot)

-- the progress of a mesh: the number of steps made or, for a cancelled mesh, the number of its unprotects and how many
-- of them are made
pub data Progress : Type 0 where
  Made : ℕ → Progress
  Unwinding : ℕ → ℕ → Progress

-- a running mesh: the class of its two groups, the numbers of its source and its destination, and its progress
pub record Mesh : Type 0 where
  pub class : ℕ
  pub source : ℕ
  pub destination : ℕ
  pub progress : Progress

-- the table: the number of the next span, the lowest virtual page that was never used, the number of free physical
-- pages, the running meshes, and the groups, ascending by their numbers
pub record Table : Type 0 where
  pub next_span : ℕ
  pub next_page : ℕ
  pub free_pages : ℕ
  pub meshes : List Mesh
  pub groups : List Group

-- the table of a heap with `pages` physical pages and no span
abbrev pub empty_table : ℕ → Table
empty_table pages = record { next_span = 0; next_page = 1; free_pages = pages; meshes = []; groups = [] }

-- whether the group has this number
abbrev pub has_number : ℕ → Group → Bool
has_number n group = nat_eq group.number n

-- the group of a number, if there is one
abbrev pub group_of : Table → ℕ → Option Group
group_of t n = find (has_number n) t.groups

-- for each slot of the group, whether it is occupied
abbrev pub occupied_of : Group → List Bool
occupied_of group = map is_some group.slots

-- how many objects the group has
abbrev pub object_count : Group → ℕ
object_count group = count_by is_some group.slots

-- whether the group is the source or the destination of the mesh
abbrev pub takes_part : ℕ → Mesh → Bool
takes_part n mesh = nat_eq mesh.source n || nat_eq mesh.destination n

-- whether the group is in a running mesh
abbrev pub is_meshing : Table → ℕ → Bool
is_meshing t n = list_any (takes_part n) t.meshes

-- whether the group is open to new objects of the class: it is of the class, its number is not closed, and a slot is
-- free
abbrev pub takes_objects : (ℕ → Bool) → ℕ → Group → Bool
takes_objects closed class group = nat_eq group.class class && not (closed group.number) && nat_lt (object_count group) (length group.slots)

-- whether the group is open to new objects of the class, if the groups in running meshes are closed
abbrev pub is_open : Table → ℕ → Group → Bool
is_open t class group = takes_objects (is_meshing t) class group

-- the numbers of the free slots, ascending; the first slot of the list has the number `k`
abbrev pub free_from : ℕ → List (Option Slot) → List ℕ
free_from k [] = []
free_from k (None ∷ slots) = k ∷ free_from (k + 1) slots
free_from k (Some slot ∷ slots) = free_from (k + 1) slots

-- the number of the slot that a word picks among the group's free slots
abbrev pub picked_slot : Group → ℕ → ℕ
picked_slot group word = slice_index (free_from 0 group.slots) (word % length (free_from 0 group.slots))

-- the group's first member, in which new objects are placed
abbrev pub first_member : Group → ℕ
first_member group = slice_index group.members 0

-- the address of a slot of a member
abbrev pub slot_address : ℕ → ℕ → ℕ → ℕ
slot_address member class k = 4096 * member + k * class

-- the group with an object in a slot
abbrev pub with_object_in : ℕ → Slot → Group → Group
with_object_in k slot group = record group { slots = slice_set group.slots k (Some slot) }

-- the group with nothing in a slot
abbrev pub emptied_at : ℕ → Group → Group
emptied_at k group = record group { slots = slice_set group.slots k None }

-- the group changed if it has the number, else the unchanged group
abbrev pub changed_at : ℕ → (Group → Group) → Group → Group
changed_at n change group = if has_number n group then change group else group

-- the table with the group of a number changed
abbrev pub with_group : Table → ℕ → (Group → Group) → Table
with_group t n change = record t { groups = map (changed_at n change) t.groups }

-- a group of one span at a virtual page, with no object
abbrev pub fresh_group : ℕ → ℕ → ℕ → Group
fresh_group number class page = record { number = number; class = class; members = page ∷ []; slots = replicate (slots_of class) None }

-- the table with a new span of the class
abbrev pub with_span : Table → ℕ → Table
with_span t class = record t {
  next_span = t.next_span + 1;
  next_page = t.next_page + pages_of class;
  free_pages = t.free_pages - pages_of class;
  groups = t.groups ++ fresh_group t.next_span class t.next_page ∷ [];
}

-- the address of a new object, and the table with this object
pub record Placed : Type 0 where
  pub address : ℕ
  pub table : Table

-- the address and the table after an object is put into the group's slot that the word picks
abbrev pub placed_in : Table → Group → ℕ → ℕ → ℕ → Placed
placed_in t group word serial len = record {
  address = slot_address (first_member group) group.class (picked_slot group word);
  table = with_group t group.number (with_object_in (picked_slot group word) (record { member = first_member group; serial = serial; len = len }));
}

-- `Ok` if there is room for a new span of the class, else the refusal. Free pages are tested first, then addresses
abbrev pub room_for_span : Table → ℕ → Result (Unit {0}) Refusal
room_for_span t class =
    refuse_if NoPages (nat_lt t.free_pages (pages_of class)) >>= λ _. refuse_if NoAddresses (nat_lt 65536 (t.next_page + pages_of class))

-- the result of placing a new object of a class in the given group, or in a new span if no group is given
abbrev pub place_in : Option Group → Table → ℕ → ℕ → ℕ → ℕ → Result Placed Refusal
place_in (Some group) t class word serial len = Ok (placed_in t group word serial len)
place_in None t class word serial len =
    room_for_span t class >>= λ _. Ok (placed_in (with_span t class) (fresh_group t.next_span class t.next_page) word serial len)

-- the result of placing a new object of `len` bytes, or the refusal
abbrev pub place_new : Table → ℕ → ℕ → ℕ → Result Placed Refusal
place_new t len word serial =
    refuse_if Zero (nat_eq len 0) >>= λ _. or_refuse TooLarge (class_for len) >>= λ class.
    place_in (find (is_open t class) t.groups) t class word serial len

-- the slot, emptied if its object has the serial
abbrev pub emptied_of : ℕ → Option Slot → Option Slot
emptied_of serial None = None
emptied_of serial (Some slot) = if nat_eq slot.serial serial then None else Some slot

-- the group without the object of a serial
abbrev pub group_without : ℕ → Group → Group
group_without serial group = record group { slots = map (emptied_of serial) group.slots }

-- the table without the object of a serial
abbrev pub without_object : Table → ℕ → Table
without_object t serial = record t { groups = map (group_without serial) t.groups }

-- a number of pages or of steps, and the table after the call
pub record Counted : Type 0 where
  pub count : ℕ
  pub table : Table

-- the result of a sweep of an empty group: the number of freed pages and the table without the group, or the refusal
abbrev pub sweep : Table → ℕ → Result Counted Refusal
sweep t n =
    or_refuse NoGroup (group_of t n) >>= λ group. refuse_if Busy (is_meshing t n) >>= λ _.
    refuse_if NotEmpty (nat_lt 0 (object_count group)) >>= λ _. Ok (record {
      count = pages_of group.class;
      table = record t { free_pages = t.free_pages + pages_of group.class; groups = filter (λ g. not (has_number n g)) t.groups };
    })

-- the length of the object in a slot, or 0 if the slot is empty
abbrev pub len_in : Option Slot → ℕ
len_in None = 0
len_in (Some slot) = slot.len

-- the five counts of a report: live objects and their bytes, mapped virtual pages, taken physical pages, and saved
-- pages
pub record Report : Type 0 where
  pub objects : ℕ
  pub bytes : ℕ
  pub mapped : ℕ
  pub taken : ℕ
  pub saved : ℕ

-- the number of mapped virtual pages
abbrev pub mapped_count : Table → ℕ
mapped_count t = sum_by (λ g. length g.members * pages_of g.class) t.groups

-- the report of a heap with `pages` physical pages
abbrev pub report_of : ℕ → Table → Report
report_of pages t = record {
  objects = sum_by object_count t.groups;
  bytes = sum_by (λ g. sum_by len_in g.slots) t.groups;
  mapped = mapped_count t;
  taken = pages - t.free_pages;
  saved = mapped_count t - (pages - t.free_pages);
}
