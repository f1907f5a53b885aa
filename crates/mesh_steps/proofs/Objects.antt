-- What the records of a heap's live objects say of its slots, its bytes and its plain memory.
use Rattle.std.proofs.Common.{◌≡◌, ℕ, suc, ◌+◌, ◌-◌, ◌<◌, ◌≤◌, Bool, true, false, if◌then◌else◌, List, [], ◌∷◌, Option, Some, None, IfSome, IsSomeAnd, Ok, Err, length, slice_get, slice_index, slice_range, ap, subst, refl, sym, ◌∙◌, arith, inl, inr}
use Rattle.std.specs.Option.{option_map}
use Rattle.std.proofs.lemmas.Bool.{eq-eqb, le-leb, le-ltb, lt-ltb}
use Rattle.std.proofs.lemmas.Bool.Decides.{eqb_tells}
use Rattle.std.proofs.lemmas.List.{get_or-map, length-map}
use Rattle.std.proofs.lemmas.List.FromFn.{length-map-range_with_len}
use Rattle.std.proofs.lemmas.Option.{slice_get_within}
use Rattle.mesh_arena.specs.Pages.{run_of}
use Rattle.mesh_class.specs.Classes.{pages_of, slots_of}
use Rattle.mesh_page_heap.proofs.Groups.{entry_in_table, table_entry}
use Rattle.mesh_page_heap.proofs.Homes.{slot_end}
use Rattle.mesh_page_heap.proofs.Meaning.{record_live}
use Rattle.mesh_page_heap.specs.Indexes.{layout_of}
use Rattle.mesh_page_heap.specs.Layout.{AreInObject}
use Rattle.mesh_page_heap.specs.PageHeapInvariant.{bytes_in, targets_of}
use Rattle.model_heap.proofs.GroupPages.{found_sound}
use Rattle.model_heap.proofs.Holders.{no_holder, one_holder}
use Rattle.model_heap.proofs.Meanings.{bytes_read, meaning_objects}
use Rattle.model_heap.proofs.Records.{record_slot, slot_record, tied_below}
use Rattle.model_memory.specs.Memory.{Object, has_address, object_of}
use Rattle.model_heap.specs.Places.{Record, object_at, place_of, IsIn, record_in, record_with}
use Rattle.model_memory.specs.Plain.{ends_outside, holding}
use Rattle.model_heap.specs.Sound.{IsSound, times_in}
use Rattle.model_heap.specs.Table.{Group, Slot, group_of, slot_address}
use Rattle.model_words.specs.declared.refusals.Refusal.TheVariants.{Freed, Outside, Stray}
use Rattle.mesh_spans.specs.Groups.{first_of, table_group}
use Rattle.mesh_spans.specs.Index.{GroupEntry, Index, IsIndex, SpanEntry, group_at, span_at}
use Rattle.mesh_store.specs.Places.{byte_of}
use Rattle.mesh_steps.specs.Heap.{Heap, IsHeap, IsHeld, IsLiveFor, IsObjectAt, IsReferred, arena_of, bytes_at, index_of, live_record, live_records, map_of, memory_of, object_in, plain_of, referred, table_of}
use Rattle.mesh_page_heap.specs.PageHeap.{IsInSlotOf, IsStanding, PageHeap, table_in}
use Rattle.mesh_page_heap.specs.declared.answers.Occupied.{Occupied}
use Rattle.mesh_steps.specs.declared.answers.Ref.{Ref}

-- an object that stands in a slot has its record
pub standing_record : (h : Heap) (span k serial len address : ℕ) → IsHeap h → IsStanding (index_of h) span k serial len address
    → record_with serial (live_records h) ≡ Some (record { serial = serial; address = address; len = len })
standing_record h span k serial len address heap standing =
    let slot : Slot = record { member = (span_at (index_of h).spans span).first; serial = serial; len = len } in
    let n : ℕ = (span_at (index_of h).spans span).group in
    let recorded = standing.recorded in
    let there = entry_in_table (index_of h) n recorded.group recorded.there in
    let is = slot_record h.next_serial (table_of h) (targets_of (map_of h)) (bytes_in (arena_of h)) [] n k
    (table_group (index_of h).spans n recorded.group) slot heap.sound heap.tied there recorded.filled in
    let at : slot_address (span_at (index_of h).spans span).first recorded.group.class k ≡ address
    = ap (λ (class : ℕ). slot_address (span_at (index_of h).spans span).first class k) recorded.same_class ∙ standing.address_is in
    is ∙ ap (λ (a : ℕ). Some (record { serial = serial; address = a; len = len })) at

-- where the object of a record stands
pub record LivePlace (g : PageHeap) (r : Record) : Type 0 where
  pub n : ℕ
  pub place : ℕ
  pub k : ℕ
  pub entry : GroupEntry
  pub at : group_at g.index.groups n ≡ Some entry
  pub within : place < length entry.members
  pub below : k < slots_of entry.class
  pub filled : slice_get entry.slots k
      ≡ Some (Some (record { member = (span_at g.index.spans (slice_index entry.members place)).first; serial = r.serial; len = r.len }))
  pub address : slot_address (span_at g.index.spans (slice_index entry.members place)).first entry.class k ≡ r.address
  pub some : 1 ≤ r.len
  pub fits : r.len ≤ entry.class

-- a number that is in a list stands at a place of it
place_in : (v : ℕ) (xs : List ℕ) → 1 ≤ times_in v xs → (place : ℕ) × (place < length xs) × (slice_index xs place ≡ v)
place_in v [] some = absurd (omega (arith, some))
place_in v (x ∷ xs) some = elim (eqb_tells x v) [
  | inl same ↦ (0, omega arith, same.1)
  | inr other ↦ let more : 1 ≤ 0 + times_in v xs = subst (λ (b : Bool). 1 ≤ (if◌then◌else◌ {A = ℕ} b 1 0) + times_in v xs) other.0 some in
      let rest = place_in v xs (omega (arith, more)) in (suc rest.0, omega (arith, rest.1), rest.2)
]

slot_placed : (g : PageHeap) (n k : ℕ) (group : Group) (slot : Slot) (entry : GroupEntry) → IsSound (table_in g) → group_of (table_in g) n ≡ Some group
    → slice_get group.slots k ≡ Some (Some slot) → group_at g.index.groups n ≡ Some entry → group ≡ table_group g.index.spans n entry
    → LivePlace g (record_in group.class k slot)
slot_placed g n k group slot entry sound there filled at same =
    let spans : List SpanEntry = g.index.spans in
    let is = found_sound _ _ _ sound there in
    let object = is.objects k slot filled in
    let member = place_in _ _ (subst (λ (x : Group). 1 ≤ times_in slot.member x.members) same object.in_member) in
    let within : member.0 < length entry.members = omega (arith, member.1, length-map entry.members (first_of spans)) in
    let first : (span_at spans (slice_index entry.members member.0)).first ≡ slot.member
    = sym (get_or-map (first_of spans) entry.members member.0 0 0 within) ∙ member.2 in
    let class : group.class ≡ entry.class = ap (λ (x : Group). x.class) same in
    record {
      n = n;
      place = member.0;
      k = k;
      entry = entry;
      at = at;
      within = within;
      below = omega (arith, slice_get_within group.slots k (Some slot) filled, is.places, ap slots_of class);
      filled = ap (λ (xs : List (Option Slot)). slice_get xs k) (sym (ap (λ (x : Group). x.slots) same)) ∙ filled
          ∙ ap (λ (m : ℕ). Some (Some (record { member = m; serial = slot.serial; len = slot.len }))) (sym first);
      address = ap (λ (m : ℕ). slot_address m entry.class k) first ∙ ap (λ (c : ℕ). slot_address slot.member c k) (sym class);
      some = object.some;
      fits = omega (arith, object.fits, class);
    }

-- the object of each record stands in a slot
pub live_place : (h : Heap) (serial : ℕ) (r : Record) → IsHeap h → record_with serial (live_records h) ≡ Some r
    → (r.serial ≡ serial) × LivePlace h.pages r
live_place h serial r heap found =
    let slot = record_slot (table_of h) serial r heap.sound found in
    let entry = table_entry (index_of h) slot.1.filled.number slot.1.filled.group slot.1.filled.there in (
      slot.0,
      subst (λ (x : Record). LivePlace h.pages x) (sym slot.1.is)
          (slot_placed h.pages slot.1.filled.number slot.1.k slot.1.filled.group slot.1.slot entry.entry heap.sound slot.1.filled.there slot.1.filled.filled entry.there entry.same),
    )

-- a part of a live object is one of the layout's
pub live_in_object : (h : Heap) (serial off count : ℕ) (r : Record) → IsHeap h → record_with serial (live_records h) ≡ Some r → off + count ≤ r.len
    → AreInObject (layout_of (index_of h)) (r.address + off) count
live_in_object h serial off count r heap found fits = grind (arith, record_live (index_of h) (table_of h) serial r heap.sound refl found)

-- a live object ends within the addresses that there are
pub live_ends : (h : Heap) (serial : ℕ) (r : Record) → IsHeap h → IsIndex (index_of h).spans (index_of h).groups → record_with serial (live_records h) ≡ Some r
    → r.address + r.len ≤ 268435456
live_ends h serial r heap index found =
    let live = (live_place h serial r heap found).1 in
    let member = index.members live.n live.place live.entry live.at live.within in
    let span = index.span (slice_index live.entry.members live.place) member.below in
    let class = (index.each live.n live.entry live.at).class in
    let last : (span_at (index_of h).spans (slice_index live.entry.members live.place)).first + pages_of live.entry.class ≤ 65536
    = subst (λ (c : ℕ). (span_at (index_of h).spans (slice_index live.entry.members live.place)).first + pages_of c ≤ 65536) member.same_class span.last in
    let at = live.address in
    omega (arith, slot_end live.k (slots_of live.entry.class) live.entry.class (pages_of live.entry.class) live.below class.full, last, at, live.fits)

-- the object of a serial is that of its record
pub live_object : (h : Heap) (roots : List (Option ℕ)) (serial : ℕ) → IsHeap h
    → object_of (memory_of h roots) serial ≡ option_map (object_at (targets_of (map_of h)) (bytes_in (arena_of h))) (record_with serial (live_records h))
live_object h roots serial heap =
    meaning_objects h.next_serial (live_records h) (targets_of (map_of h)) (bytes_in (arena_of h)) roots serial
    (tied_below h.next_serial (table_of h) (targets_of (map_of h)) (bytes_in (arena_of h)) [] heap.sound heap.tied)

-- the object of a serial with a record
pub live_found : (h : Heap) (serial : ℕ) (r : Record) → IsHeap h → record_with serial (live_records h) ≡ Some r
    → object_of (plain_of h) serial ≡ Some (object_in h r)
live_found h serial r heap found = live_object h [] serial heap ∙ ap (λ (o : Option Record). option_map (object_at (targets_of (map_of h)) (bytes_in (arena_of h))) o) found

-- a live object has a record
pub record HasRecord (h : Heap) (serial : ℕ) (object : Object) : Type 0 where
  pub r : Record
  pub found : record_with serial (live_records h) ≡ Some r
  pub is : object ≡ object_in h r

has_record : (h : Heap) (serial : ℕ) (object : Object) (o : Option Record) → record_with serial (live_records h) ≡ o
    → option_map (object_at (targets_of (map_of h)) (bytes_in (arena_of h))) o ≡ Some object → HasRecord h serial object
has_record h serial object None at e = absurd (let two : ◌≡◌ {A = Option Object} None (Some object) = e in cc two)
has_record h serial object (Some r) at e =
    let same : object_in h r ≡ object = (let both : Some (object_in h r) ≡ Some object = e in cc both) in record { r = r; found = at; is = sym same }

pub object_record : (h : Heap) (serial : ℕ) (object : Object) → IsHeap h → object_of (plain_of h) serial ≡ Some object → HasRecord h serial object
object_record h serial object heap live = has_record _ _ _ _ refl (sym (live_object _ [] serial heap) ∙ live)

-- as many bytes as the record says
pub object_len : (h : Heap) (r : Record) → length (object_in h r).bytes ≡ r.len
object_len h r = length-map-range_with_len (λ x. bytes_in (arena_of h) (place_of (targets_of (map_of h)) x)) r.address r.len

-- a reference names the object of its serial that stands at its address
pub reference_names : (h : Heap) (object : Ref) (r : Record) → IsHeap h → record_with object.serial (live_records h) ≡ Some r → r.address ≡ object.addr
    → referred (plain_of h) object ≡ Ok (record { serial = object.serial; object = object_in h r })
reference_names h object r heap found at = rw (live_found h object.serial r heap found, eq-eqb r.address object.addr at) refl

-- a reference is stale where no record of its serial is at its address
pub reference_stale : (h : Heap) (object : Ref) → IsHeap h
    → ((r : Record) → record_with object.serial (live_records h) ≡ Some r → r.address ≡ object.addr → ⊥)
    → referred (plain_of h) object ≡ Err Freed
reference_stale h object heap none = go (object_of (plain_of h) object.serial) refl
  where
    go : (o : Option Object) → object_of (plain_of h) object.serial ≡ o → referred (plain_of h) object ≡ Err Freed
    go None e = rw e refl
    go (Some live) e = elim (eqb_tells live.address object.addr) [
      | inl same ↦ let has = object_record h object.serial live heap e in
          absurd (none has.r has.found (ap (λ (x : Object). x.address) (sym has.is) ∙ same.1))
      | inr other ↦ rw (e, other.0) refl
    ]

-- an address that an object has is in its range
in_range : (h : Heap) (r : Record) (addr : ℕ) → has_address (object_in h r) addr ≡ true → IsIn r addr
in_range h r addr has = grind (arith, object_len)

-- and it has each address of its range
pub has_in : (h : Heap) (r : Record) (addr : ℕ) → IsIn r addr → has_address (object_in h r) addr ≡ true
has_in h r addr within =
    rw (le-leb r.address addr within.0, lt-ltb addr (r.address + length (object_in h r).bytes) (omega (arith, within.1, object_len h r))) refl

-- an object begins within its range
pub begins_in : (h : Heap) (serial addr : ℕ) (r : Record) → IsHeap h → record_with serial (live_records h) ≡ Some r → r.address ≡ addr → IsIn r addr
begins_in h serial addr r heap found at = let some = (live_place h serial r heap found).1.some in (omega (arith, at), omega (arith, at, some))

-- an address of a live object is held by it
pub address_held : (h : Heap) (serial addr : ℕ) (r : Record) → IsHeap h → record_with serial (live_records h) ≡ Some r → IsIn r addr
    → holding (plain_of h) addr ≡ Ok (record { serial = serial; object = object_in h r })
address_held h serial addr r heap found within =
    let live = live_found h serial r heap found in
    rw (one_holder (plain_of h) (table_of h) serial addr (object_in h r) heap.sound heap.tied live (has_in h r addr within), live) refl

-- an address of no live object is held by none
pub address_stray : (h : Heap) (addr : ℕ) → IsHeap h
    → ((serial : ℕ) (r : Record) → record_with serial (live_records h) ≡ Some r → IsIn r addr → ⊥) → holding (plain_of h) addr ≡ Err Stray
address_stray h addr heap none =
    rw (no_holder (plain_of h) addr (λ serial object live. go serial object live)) refl
  where
    go : (serial : ℕ) (object : Object) → object_of (plain_of h) serial ≡ Some object → has_address object addr ≡ false
    go serial object live = elim (has_address object addr) as (λ b. has_address object addr ≡ b → b ≡ false) [
      | false ↦ λ e. refl
      | true ↦ λ e. let has = object_record h serial object heap live in
          absurd (none serial has.r has.found (in_range h has.r addr (ap (λ (x : Object). has_address x addr) (sym has.is) ∙ e)))
    ] refl

-- an object in whose slot an address is has its record
pub in_slot_recorded : (h : Heap) (addr : ℕ) (o : Occupied) → IsHeap h → IsInSlotOf (index_of h) addr o.span o.slot o.offset o.serial o.len → IsObjectAt h addr o
in_slot_recorded h addr o heap in_slot = record {
  address = in_slot.address;
  at = in_slot.at;
  recorded = standing_record h o.span o.slot o.serial o.len in_slot.address heap in_slot.standing;
  in_slot = in_slot;
}

-- what holds of one thing holds of what may be there
pub IfSome_more : {X : Type 0} (o : Option X) (P Q : X → Type 0) → ((x : X) → P x → Q x) → IfSome o P → IfSome o Q
IfSome_more None P Q f h = tt
IfSome_more (Some x) P Q f h = f x h

pub IsSomeAnd_more : {X : Type 0} (o : Option X) (P Q : X → Type 0) → ((x : X) → P x → Q x) → IsSomeAnd o P → IsSomeAnd o Q
IsSomeAnd_more None P Q f h = h
IsSomeAnd_more (Some x) P Q f h = f x h

-- each object of which the address is one is found where a look-up finds every slot's addresses
abbrev pub FindsSlots : Index → ℕ → Option Occupied → Type 0
FindsSlots index addr found = (n place k o : ℕ) (group : GroupEntry) (serial len : ℕ) → group_at index.groups n ≡ Some group → place < length group.members
    → k < slots_of group.class → o < group.class
    → slice_get group.slots k ≡ Some (Some (record { member = (span_at index.spans (slice_index group.members place)).first; serial = serial; len = len }))
    → slot_address (span_at index.spans (slice_index group.members place)).first group.class k + o ≡ addr
    → IsSomeAnd found (λ x. (x.serial ≡ serial) × (x.offset ≡ o) × (x.len ≡ len))

pub object_found : (h : Heap) (addr serial : ℕ) (r : Record) (found : Option Occupied) → IsHeap h → FindsSlots (index_of h) addr found
    → record_with serial (live_records h) ≡ Some r → IsIn r addr
    → IsSomeAnd found (λ o. (o.serial ≡ serial) × (r.address + o.offset ≡ addr) × (o.len ≡ r.len))
object_found h addr serial r found heap finds is within =
    let both = live_place h serial r heap is in
    let live = both.1 in
    let low = within.0 in
    let offset : r.address + (addr - r.address) ≡ addr = omega (arith, low) in
    let there = finds live.n live.place live.k (addr - r.address) live.entry r.serial r.len live.at live.within live.below
    (omega (arith, low, within.1, live.fits)) live.filled (ap (λ (a : ℕ). a + (addr - r.address)) live.address ∙ offset) in
    IsSomeAnd_more found (λ o. (o.serial ≡ r.serial) × (o.offset ≡ addr - r.address) × (o.len ≡ r.len))
    (λ o. (o.serial ≡ serial) × (r.address + o.offset ≡ addr) × (o.len ≡ r.len))
    (λ o h. (h.0 ∙ both.0, ap (λ (x : ℕ). r.address + x) h.1 ∙ offset, h.2)) there

-- the object in whose slot a reference's address is, is the one that it names, where it has the serial and begins there
pub referred_is : (h : Heap) (object : Ref) (o : Occupied) → IsHeap h → IsObjectAt h object.addr o → o.offset ≡ 0 → o.serial ≡ object.serial → IsReferred h object o
referred_is h object o heap at zeroth same = grind (arith, reference_names h object (live_record object.serial object.addr o.len) heap)

-- the object in whose slot an address is, is the one that holds it, where the offset is within its length
pub held_is : (h : Heap) (addr : ℕ) (o : Occupied) → IsHeap h → IsObjectAt h addr o → o.offset < o.len → IsHeld h addr o
held_is h addr o heap at within = record {
  address = at.address;
  at = at.at;
  within = within;
  recorded = at.recorded;
  in_slot = at.in_slot;
  held = address_held _ _ _ _ heap at.recorded (let e = at.at in (omega (arith, e), omega (arith, e, within)));
}

-- a part of a live object does not end outside
pub ends_within : (h : Heap) (r : Record) (off len : ℕ) → off + len ≤ r.len → ends_outside (object_in h r) off len ≡ false
ends_within h r off len fits = le-ltb (length (object_in h r).bytes) (off + len) (let long = object_len h r in omega (arith, long, fits))

-- what is no part of a live object does
pub ends_past : (h : Heap) (r : Record) (off len : ℕ) → r.len < off + len → ends_outside (object_in h r) off len ≡ true
ends_past h r off len past = lt-ltb (length (object_in h r).bytes) (off + len) (let long = object_len h r in omega (arith, long, past))

-- the bytes of a part of a live object are those of its addresses
pub part_read : (h : Heap) (r : Record) (off len : ℕ) → off + len ≤ r.len
    → slice_range (object_in h r).bytes off (off + len) ≡ run_of (byte_of (arena_of h) (map_of h)) (r.address + off) len
unfolding run_of byte_of
part_read h r off len fits = bytes_read (targets_of (map_of h)) (bytes_in (arena_of h)) r off len fits

-- a read of a part of a live object
pub read_is : (h : Heap) (object : Ref) (off len : ℕ) (bytes : List ℕ) → IsHeap h → IsLiveFor h object.serial object.addr (off + len)
    → bytes ≡ run_of (byte_of (arena_of h) (map_of h)) (object.addr + off) len → bytes_at (plain_of h) object off len ≡ Ok bytes
read_is h object off len bytes heap live loaded =
    let r : Record = live_record object.serial object.addr live.len in
    let whole : bytes_at (plain_of h) object off len ≡ Ok (slice_range (object_in h r).bytes off (off + len))
    = rw (reference_names h object r heap live.recorded refl, ends_within h r off len live.enough) refl in
    whole ∙ ap (λ (bs : List ℕ). Ok bs) (part_read h r off len live.enough ∙ sym loaded)

-- a read of more than the object that a reference names
pub read_past : (h : Heap) (object : Ref) (o : Occupied) (off len : ℕ) → IsReferred h object o → o.len < off + len
    → bytes_at (plain_of h) object off len ≡ Err Outside
read_past h object o off len is past =
    rw (is.named, ends_past h (live_record object.serial object.addr o.len) off len past) refl

-- a read through a stale reference
pub read_stale : (h : Heap) (object : Ref) (off len : ℕ) → referred (plain_of h) object ≡ Err Freed → bytes_at (plain_of h) object off len ≡ Err Freed
read_stale h object off len stale = rw stale refl
