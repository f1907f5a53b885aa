-- The span index as two lists: the spans, and the groups with the content of their slots.
use Rattle.std.specs.Prelude.{◌≡◌, ℕ, ◌+◌, ◌<◌, ◌≤◌, Bool, false, ◌&&◌, not, if◌then◌else◌, nat_eq, nat_lt, count_by, is_some, List, [], ◌∷◌, Option, Some, None, length, replicate, slice_get, slice_index, slice_index_or, slice_set, refl}
use Rattle.std.specs.Option.{option_map}
use Rattle.std.specs.Coded.{Coded, code_by, coded×, coded_ℕ, coded_bool, coded_list, coded_option}
use Rattle.mesh_class.specs.Classes.{pages_of, slots_of, IsClass}
use Rattle.model_heap.specs.Stored.{slot_code}
use Rattle.model_heap.specs.Table.{Slot, slot_address}

-- a span: its first virtual page, the slot size of its class, and the number of its group
pub record SpanEntry : Type 0 where
  pub first : ℕ
  pub class : ℕ
  pub group : ℕ

-- a group: the slot size of its class, the span numbers of its members, its physical pages, the content of each slot,
-- and whether it is in a mesh
pub record GroupEntry : Type 0 where
  pub class : ℕ
  pub members : List ℕ
  pub pages : List ℕ
  pub slots : List (Option Slot)
  pub in_mesh : Bool

-- the index: the spans by number, and the groups by number, with `None` for a number without a group
pub record Index : Type 0 where
  pub spans : List SpanEntry
  pub groups : List (Option GroupEntry)

-- a span is stored as its parts
abbrev pub span_code : Coded SpanEntry
span_code =
    code_by (ℕ × (ℕ × ℕ)) (coded× coded_ℕ (coded× coded_ℕ coded_ℕ)) (λ s. (s.first, (s.class, s.group)))
    (λ p. record { first = p.0; class = p.1.0; group = p.1.1 }) (λ _. refl)

-- a group is stored as its parts
abbrev pub group_code : Coded GroupEntry
group_code =
    code_by (ℕ × (List ℕ × (List ℕ × (List (Option Slot) × Bool))))
    (coded× coded_ℕ (coded× (coded_list coded_ℕ) (coded× (coded_list coded_ℕ) (coded× (coded_list (coded_option slot_code)) coded_bool))))
    (λ g. (g.class, (g.members, (g.pages, (g.slots, g.in_mesh)))))
    (λ p. record { class = p.0; members = p.1.0; pages = p.1.1.0; slots = p.1.1.1.0; in_mesh = p.1.1.1.1 })
    (λ _. refl)

-- the index is stored as its two lists
abbrev pub index_code : Coded Index
index_code =
    code_by (List SpanEntry × List (Option GroupEntry)) (coded× (coded_list span_code) (coded_list (coded_option group_code)))
    (λ x. (x.spans, x.groups)) (λ p. record { spans = p.0; groups = p.1 }) (λ _. refl)

-- the default for a span that doesn't exist
abbrev pub no_span : SpanEntry
no_span = record { first = 0; class = 0; group = 0 }

-- the span with this number
abbrev pub span_at : List SpanEntry → ℕ → SpanEntry
span_at spans i = slice_index_or spans i no_span

-- the group with this number, if there is one
abbrev pub group_at : List (Option GroupEntry) → ℕ → Option GroupEntry
group_at groups n = slice_index_or groups n None

-- the address of a slot of a span
abbrev pub address_in : SpanEntry → ℕ → ℕ
address_in span k = slot_address span.first span.class k

-- the content of a slot of a group, if there is any
abbrev pub slot_in : Option GroupEntry → ℕ → Option Slot
slot_in None k = None
slot_in (Some group) k = slice_index_or group.slots k None

-- serial and length of the object in a slot, if it is an object of this member
abbrev pub named_in : ℕ → Option Slot → Option (ℕ × ℕ)
named_in member None = None
named_in member (Some slot) = if nat_eq slot.member member then Some (slot.serial, slot.len) else None

-- the record of a slot of a span: serial and length of the object in this slot of the span's group, if it is an object
-- of the span
abbrev pub span_record : Option SpanEntry → List (Option GroupEntry) → ℕ → Option (ℕ × ℕ)
span_record None groups k = None
span_record (Some span) groups k = named_in span.first (slot_in (group_at groups span.group) k)

-- the record of a slot of the span with this number
abbrev pub record_at : Index → ℕ → ℕ → Option (ℕ × ℕ)
record_at index span k = span_record (slice_get index.spans span) index.groups k

-- the span has a class of the table, and its pages are virtual pages, of which page 0 is none
pub record IsSpan (span : SpanEntry) : Type 0 where
  pub class : IsClass span.class
  pub first : 1 ≤ span.first
  pub last : span.first + pages_of span.class ≤ 65536

-- the object in a slot, if there is one, has at least 1 byte, and at most the slot size of the class
abbrev pub IsObject : ℕ → Option Slot → Type 0
IsObject class None = Unit {0}
IsObject class (Some slot) = (1 ≤ slot.len) × (slot.len ≤ class)

-- the group has a class of the table, 1 to 8 members, and the physical pages and the slots of one span. If a slot has
-- an object, the object fits into it
pub record IsGroup (group : GroupEntry) : Type 0 where
  pub class : IsClass group.class
  pub some_member : 1 ≤ length group.members
  pub few_members : length group.members ≤ 8
  pub pages : length group.pages ≡ pages_of group.class
  pub slots : length group.slots ≡ slots_of group.class
  pub objects : (k : ℕ) → IsObject group.class (slice_index_or group.slots k None)

-- the span exists, has the group's class, and belongs to this group
pub record IsMember (spans : List SpanEntry) (group : GroupEntry) (number span : ℕ) : Type 0 where
  pub below : span < length spans
  pub same_class : (span_at spans span).class ≡ group.class
  pub same_group : (span_at spans span).group ≡ number

-- a new group with one member and no object, in no mesh
abbrev pub new_group : ℕ → ℕ → List ℕ → GroupEntry
new_group class member pages = record {
  class = class;
  members = member ∷ [];
  pages = pages;
  slots = replicate (slots_of class) None;
  in_mesh = false;
}

-- a new span from a virtual page on
abbrev pub new_span : ℕ → ℕ → ℕ → SpanEntry
new_span first class group = record { first = first; class = class; group = group }

-- whether a slot of the group is free
abbrev pub has_room : GroupEntry → Bool
has_room group = nat_lt (count_by is_some group.slots) (length group.slots)

-- whether there is a group, of this class, in no mesh, and with a free slot
abbrev pub is_open : Option GroupEntry → ℕ → Bool
is_open None class = false
is_open (Some group) class = nat_eq group.class class && not group.in_mesh && has_room group

-- the group with another content of slot `k`
abbrev pub with_slot : ℕ → Option Slot → GroupEntry → GroupEntry
with_slot k entry group = record group { slots = slice_set group.slots k entry }

-- the groups with another content of slot `k` of group `n`
abbrev pub with_entry : List (Option GroupEntry) → ℕ → ℕ → Option Slot → List (Option GroupEntry)
with_entry groups n k entry = slice_set groups n (option_map (with_slot k entry) (group_at groups n))

-- if the number has a group, the group's class has slot `k`, and the entry fits into a slot of this class
abbrev pub Fits : List (Option GroupEntry) → ℕ → ℕ → Option Slot → Type 0
Fits groups n k entry = (group : GroupEntry) → group_at groups n ≡ Some group → (k < slots_of group.class) × IsObject group.class entry

-- spans and groups are valid and fit together. Both lists have one length, and each span has a group number below this
-- length and a first page above its own number. Each member of a group is a span of the class that belongs to this
-- group. If the group of a span exists, both have one class
pub record IsIndex (spans : List SpanEntry) (groups : List (Option GroupEntry)) : Type 0 where
  pub span : (i : ℕ) → i < length spans → IsSpan (span_at spans i)
  pub few : (i : ℕ) → i < length spans → i < (span_at spans i).first
  pub paired : length groups ≡ length spans
  pub each : (n : ℕ) (group : GroupEntry) → group_at groups n ≡ Some group → IsGroup group
  pub members : (n place : ℕ) (group : GroupEntry) → group_at groups n ≡ Some group → place < length group.members
      → IsMember spans group n (slice_index group.members place)
  pub numbered : (i : ℕ) → i < length spans → (span_at spans i).group < length groups
  pub classes : (i : ℕ) (group : GroupEntry) → i < length spans → group_at groups (span_at spans i).group ≡ Some group
      → group.class ≡ (span_at spans i).class

-- for each page of each member of a group, the table of virtual pages has this member
pub record IsOwned (spans : List SpanEntry) (groups : List (Option GroupEntry)) (owners : List (Option ℕ)) : Type 0 where
  pub owned : (n place j : ℕ) (group : GroupEntry) → group_at groups n ≡ Some group → place < length group.members → j < pages_of group.class
      → slice_index_or owners ((span_at spans (slice_index group.members place)).first + j) None ≡ Some (slice_index group.members place)

-- the pages of every span are below this virtual page
abbrev pub AreUnused : Index → ℕ → Type 0
AreUnused index page = (i : ℕ) → i < length index.spans → (span_at index.spans i).first + pages_of (span_at index.spans i).class ≤ page

-- the span exists and has the class, and its group has the class too and nothing in slot `k`
pub record IsVacant (index : Index) (class span k : ℕ) : Type 0 where
  pub group : GroupEntry
  pub there : group_at index.groups (span_at index.spans span).group ≡ Some group
  pub same_class : group.class ≡ class
  pub below : span < length index.spans
  pub of_class : (span_at index.spans span).class ≡ class
  pub in_range : k < slots_of class
  pub free : slice_get group.slots k ≡ Some None

-- slot `k` of the span has an object of the span, with this serial and this length, which is at least 1 and at most the
-- slot size
pub record IsRecorded (index : Index) (span k serial len : ℕ) : Type 0 where
  pub below : span < length index.spans
  pub group : GroupEntry
  pub there : group_at index.groups (span_at index.spans span).group ≡ Some group
  pub same_class : group.class ≡ (span_at index.spans span).class
  pub in_range : k < slots_of group.class
  pub filled : slice_get group.slots k ≡ Some (Some (record { member = (span_at index.spans span).first; serial = serial; len = len }))
  pub some : 1 ≤ len
  pub fits : len ≤ group.class

-- `found` is this span, this slot and this offset, and the span exists and belongs to group `n`
pub record IsFoundAt (index : Index) (n span k o : ℕ) (found : Option (ℕ × ℕ × ℕ)) : Type 0 where
  pub found_is : found ≡ Some (span, k, o)
  pub below : span < length index.spans
  pub group_is : (span_at index.spans span).group ≡ n

-- `found` is this span, and the span exists, belongs to group `n` and has the class
pub record IsLedTo (index : Index) (n span class : ℕ) (found : Option ℕ) : Type 0 where
  pub found_is : found ≡ Some span
  pub below : span < length index.spans
  pub group_is : (span_at index.spans span).group ≡ n
  pub class_is : (span_at index.spans span).class ≡ class

-- the span owns the virtual pages from `first` up to but not including `end`, and the owners of the pages below `first`
-- don't change
pub record OwnsUpTo (old new : List (Option ℕ)) (first end span : ℕ) : Type 0 where
  pub own : (v : ℕ) → first ≤ v → v < end → slice_index_or new v None ≡ Some span
  pub below : (v : ℕ) → v < first → slice_index_or new v None ≡ slice_index_or old v None
