-- What making and freeing an object leaves of a heap.
use Rattle.std.proofs.Common.{◌≡◌, ℕ, ◌+◌, ◌-◌, ◌<◌, ◌≤◌, List, [], Option, Some, None, Result, Ok, Err, IfErr, map, replicate, ap, subst, refl, sym, ◌∙◌, arith, ◌⊎◌, inl, inr}
use Rattle.std.specs.Result.{IsErrAnd}
use Rattle.std.proofs.lemmas.List.{get_or-replicate, length-replicate}
use Rattle.mesh_arena.specs.Pages.{Pages}
use Rattle.mesh_page_heap.proofs.Groups.{entry_in_table}
use Rattle.mesh_page_heap.proofs.Meaning.{live_at, record_live}
use Rattle.mesh_page_heap.specs.PageHeapInvariant.{bytes_in, targets_of}
use Rattle.model_heap.proofs.FreedObjects.{free_means}
use Rattle.model_heap.proofs.MadeObjects.{new_means}
use Rattle.model_heap.proofs.Meanings.{meaning_next}
use Rattle.model_heap.proofs.NewApart.{new_apart}
use Rattle.model_heap.proofs.NewObjects.{new_sound}
use Rattle.model_heap.proofs.OneSlot.{one_slot}
use Rattle.model_heap.proofs.Records.{record_slot, tied_below}
use Rattle.model_heap.proofs.TableChanges.{free_sound}
use Rattle.model_heap.proofs.TiedMemories.{free_tied}
use Rattle.model_heap.proofs.TiedNewObjects.{new_tied}
use Rattle.model_words.specs.Classes.{class_for}
use Rattle.model_memory.specs.Memory.{Memory, next_serial, with_object, with_new}
use Rattle.model_heap.specs.Places.{Record, byte_of, meaning, records_of, AreBelow, IsIn, record_with}
use Rattle.model_memory.specs.Plain.{Named}
use Rattle.model_heap.specs.Sound.{IsSound, IsTied}
use Rattle.model_heap.specs.Table.{Group, Placed, Table, fresh_group, place_in, place_new, placed_in, room_for_span, slot_address, with_span, without_object}
use Rattle.model_heap.specs.TableLaws.{AreApart}
use Rattle.model_words.specs.Words.{◌>>=◌}
use Rattle.model_words.specs.declared.refusals.Refusal.{Refusal}
use Rattle.mesh_pagemap.specs.Entries.{Entries}
use Rattle.mesh_spans.specs.Index.{address_in, span_at}
use Rattle.mesh_store.specs.Places.{Saves, byte_of as byte_in}
use Rattle.mesh_steps.proofs.Objects.{live_found, reference_names}
use Rattle.mesh_steps.specs.Heap.{Heap, IsFree, IsHeap, IsMade, IsNotMade, IsObjectAt, arena_of, index_of, live_record, live_records, map_of, memory_of, plain_of, table_of}
use Rattle.mesh_page_heap.specs.PageHeap.{IsPlace, IsPlaceFault, KeepsOutside, PageHeap, group_number, open_group, table_emptied, table_in, table_with_object}
use Rattle.model_words.specs.declared.answers.NewFault.{NewFault}
use Rattle.model_words.specs.declared.answers.NewFault.TheVariants.{Memory as NoMemory, Refused}
use Rattle.mesh_page_heap.specs.declared.answers.Occupied.{Occupied}
use Rattle.mesh_steps.specs.declared.answers.Ref.{Ref}

-- what a heap means is made of its table, its map and its pages
memory_is : (g : PageHeap) (next : ℕ) (t : Table) (map : Entries) (arena : Pages) (roots : List (Option ℕ)) → table_in g ≡ t → g.map ≡ map → g.arena ≡ arena
    → memory_of (record { pages = g; next_serial = next }) roots ≡ meaning next (records_of t) (targets_of map) (bytes_in arena) roots
memory_is g next t map arena roots a b c = grind arith

-- no record of a heap has its next serial, or one above it
heap_below : (h : Heap) → IsHeap h → AreBelow h.next_serial (live_records h)
heap_below h heap = tied_below h.next_serial (table_of h) (targets_of (map_of h)) (bytes_in (arena_of h)) [] heap.sound heap.tied

-- a live object's serial is below the next one
live_below : (h : Heap) (serial : ℕ) (r : Record) → IsHeap h → record_with serial (live_records h) ≡ Some r → serial < h.next_serial
live_below h serial r heap found = grind (arith, heap_below)

-- an object taken out of its slot, and nothing else changed
pub record IsTakenOut (old new : PageHeap) (span slot : ℕ) : Type 0 where
  pub table : table_in new ≡ table_emptied old span slot
  pub arena : new.arena ≡ old.arena
  pub map : new.map ≡ old.map

-- the table with the slot of an object emptied is the one without the object
pub emptied_is : (h : Heap) (addr : ℕ) (o : Occupied) → IsHeap h → IsObjectAt h addr o → table_emptied h.pages o.span o.slot ≡ without_object (table_of h) o.serial
emptied_is h addr o heap at =
    let there = at.in_slot.standing.recorded in
    let n : ℕ = group_number (index_of h) o.span in
    ap (λ (groups : List Group). record (table_of h) { groups = groups }) (one_slot _ _ _ _ _ _ heap.sound heap.tied
    (entry_in_table _ _ _ there.there) there.filled)

-- and it is sound
pub emptied_sound : (h : Heap) (addr : ℕ) (o : Occupied) → IsHeap h → IsObjectAt h addr o → IsSound (table_emptied h.pages o.span o.slot)
emptied_sound h addr o heap at = subst IsSound (sym (emptied_is h addr o heap at)) (free_sound (table_of h) o.serial heap.sound)

-- the table without an object that was taken out
freed_table : (old : Heap) (new : PageHeap) (addr : ℕ) (o : Occupied) → IsHeap old → IsObjectAt old addr o
    → IsTakenOut old.pages new o.span o.slot → table_in new ≡ without_object (table_of old) o.serial
freed_table old new addr o heap at out = out.table ∙ emptied_is old addr o heap at

-- the memory without an object that was taken out
freed_memory : (old : Heap) (new : PageHeap) (addr : ℕ) (o : Occupied) → IsHeap old → IsObjectAt old addr o
    → IsTakenOut old.pages new o.span o.slot
    → plain_of (record { pages = new; next_serial = old.next_serial }) ≡ with_object (plain_of old) o.serial None
freed_memory old new addr o heap at out =
    memory_is _ _ _ _ _ [] (freed_table _ _ _ _ heap at out) out.map out.arena
    ∙ free_means _ (table_of old) (targets_of (map_of old)) (bytes_in (arena_of old)) [] o.serial (live_below _ _ _ heap at.recorded)

-- an object taken out leaves a heap
pub freed_heap : (old : Heap) (new : PageHeap) (addr : ℕ) (o : Occupied) → IsHeap old → IsObjectAt old addr o → IsTakenOut old.pages new o.span o.slot
    → IsHeap (record { pages = new; next_serial = old.next_serial })
freed_heap old new addr o heap at out = record {
  sound = subst IsSound (sym (freed_table _ _ _ _ heap at out)) (free_sound _ _ heap.sound);
  tied = subst (λ (m : Memory). IsTied m (table_in new)) (sym (freed_memory _ _ _ _ heap at out))
      (subst (λ (t : Table). IsTied (with_object (plain_of old) o.serial None) t) (sym (freed_table _ _ _ _ heap at out)) (free_tied _ _ _ _
      (live_found _ _ _ heap at.recorded) heap.tied));
}

-- the object that a reference names, taken out, is freed
pub freed_is : (old : Heap) (new : PageHeap) (object : Ref) (o : Occupied) → IsHeap old → IsObjectAt old object.addr o → o.serial ≡ object.serial
    → o.offset ≡ 0 → IsTakenOut old.pages new o.span o.slot → IsFree old (record { pages = new; next_serial = old.next_serial }) object
freed_is old new object o heap at same first out = record {
  memory =
      let found : record_with object.serial (live_records old) ≡ Some (live_record o.serial at.address o.len)
      = ap (λ (s : ℕ). record_with s (live_records old)) (sym same) ∙ at.recorded in
      ap (λ (r : Result Named Refusal). r >>= λ named. Ok (with_object (plain_of old) named.serial None))
      (reference_names _ _ _ heap found (omega (arith, at.at, first))) ∙ ap (λ (s : ℕ). Ok (with_object (plain_of old) s None)) (sym same)
      ∙ ap (λ (m : Memory). Ok m) (sym (freed_memory _ _ _ _ heap at out));
  table = freed_table _ _ _ _ heap at out ∙ ap (λ (s : ℕ). without_object (table_of old) s) same;
  serial = refl;
  arena = out.arena;
  map = out.map;
}

-- a new object placed in a slot of its class
placed_new : (t : Table) (len word serial class : ℕ) (r : Result Placed Refusal) → class_for len ≡ Some class → 1 ≤ len
    → place_in (open_group t class) t class word serial len ≡ r → place_new t len word serial ≡ r
placed_new t len word serial class r class_is some is = grind arith

-- what is known where a slot was found for a new object
pub record IsFound (old : Heap) (mid : PageHeap) (class len word span slot : ℕ) : Type 0 where
  pub heap : IsHeap old
  pub class_is : class_for len ≡ Some class
  pub some : 1 ≤ len
  pub place : IsPlace old.pages mid class word span slot

-- where the table places the new object
abbrev new_placed : (old : Heap) (mid : PageHeap) (class len word span slot : ℕ) → IsFound old mid class len word span slot → Placed
new_placed old mid class len word span slot at = placed_in (table_in mid) at.place.group word old.next_serial len

-- the table places the new object there
placed_is : (old : Heap) (mid : PageHeap) (class len word span slot : ℕ) (at : IsFound old mid class len word span slot)
    → place_new (table_of old) len word old.next_serial ≡ Ok (new_placed old mid class len word span slot at)
placed_is old mid class len word span slot at =
    placed_new _ _ _ _ _ _ at.class_is at.some (at.place.placed old.next_serial len)

-- the table with the object in the slot is the one in which the table places it
put_placed : (old : Heap) (mid : PageHeap) (class len word span slot : ℕ) (at : IsFound old mid class len word span slot)
    → table_with_object mid span slot old.next_serial len ≡ (new_placed old mid class len word span slot at).table
put_placed old mid class len word span slot at = grind arith

-- and it is sound
pub placed_sound : (old : Heap) (mid : PageHeap) (class len word span slot : ℕ) → IsFound old mid class len word span slot
    → IsSound (table_with_object mid span slot old.next_serial len)
placed_sound old mid class len word span slot at = subst IsSound (sym (put_placed old mid class len word span slot at))
    (new_sound (table_of old) len word old.next_serial (new_placed old mid class len word span slot at) at.heap.sound (placed_is old mid class len word span slot at))

-- the address of the slot is where the table places the object
placed_at : (old : Heap) (mid : PageHeap) (class len word span slot : ℕ) (at : IsFound old mid class len word span slot)
    → address_in (span_at mid.index.spans span) slot ≡ (new_placed old mid class len word span slot at).address
placed_at old mid class len word span slot at = grind arith

-- an address of a range that is apart from another is outside it
outside_apart : (a m b n x : ℕ) → AreApart a m b n → b ≤ x → x < b + n → (x < a) ⊎ (a + m ≤ x)
outside_apart a m b n x (inl before) low high = inr (omega (arith, before, low))
outside_apart a m b n x (inr after) low high = inl (omega (arith, after, high))

-- a live address is outside a new object
live_outside : (t : Table) (len word serial : ℕ) (placed : Placed) (s x : ℕ) (r : Record) → IsSound t → place_new t len word serial ≡ Ok placed
    → record_with s (records_of t) ≡ Some r → IsIn r x → (x < placed.address) ⊎ (placed.address + len ≤ x)
live_outside t len word serial placed s x r sound went found within =
    let of = (record_slot _ _ _ sound found).1 in
    let address_is : r.address ≡ slot_address of.slot.member of.filled.group.class of.k = ap (λ (q : Record). q.address) of.is in
    outside_apart _ _ _ _ _ (new_apart _ _ _ _ _ _ _ _ _ sound went of.filled.there of.filled.filled)
    (omega (arith, within.0, address_is)) (omega (arith, within.1, address_is, (ap (λ (q : Record). q.len) of.is)))

-- an object of zeros put into a slot, and nothing else changed
pub record IsPut (old new : PageHeap) (span slot serial len addr : ℕ) : Type 0 where
  pub table : table_in new ≡ table_with_object old span slot serial len
  pub address : addr ≡ address_in (span_at old.index.spans span) slot
  pub map : new.map ≡ old.map
  pub saves : Saves old.arena new.arena old.map addr (replicate len 0)
  pub others : KeepsOutside old new addr len

-- a new object was put into the slot that was found for it
module _ (old : Heap) (mid new : PageHeap) (class len word span slot addr : ℕ) (at : IsFound old mid class len word span slot)
    (put : IsPut mid new span slot old.next_serial len addr) where
  -- its address is the one where the table places it
  address_is : addr ≡ (new_placed old mid class len word span slot at).address
  address_is = put.address ∙ placed_at old mid class len word span slot at

  -- its bytes are zeros
  new_zeros : (k : ℕ) → k < len → byte_of (targets_of new.map) (bytes_in new.arena) ((new_placed old mid class len word span slot at).address + k) ≡ 0
  unfolding byte_in
  new_zeros k below = grind (arith, length-replicate, get_or-replicate)

  -- the bytes of the other objects stay
  new_keeps : (s x : ℕ) (r : Record) → record_with s (live_records old) ≡ Some r → IsIn r x
      → byte_of (targets_of new.map) (bytes_in new.arena) x ≡ byte_of (targets_of (map_of old)) (bytes_in (arena_of old)) x
  new_keeps s x r found within =
      let placed : Placed = new_placed old mid class len word span slot at in
      let h = record_live (index_of old) (table_of old) s r at.heap.sound refl found in
      let live = live_at (index_of old) r x h within in
      let kept = at.place.kept in
      let outside = live_outside (table_of old) len word old.next_serial placed s x r at.heap.sound (placed_is old mid class len word span slot at) found within in
      put.others h.n h.k (x - r.address) x h.slot (kept.stay h.n h.k (x - r.address) x h.slot live)
      (subst (λ (a : ℕ). (x < a) ⊎ (a + len ≤ x)) (sym address_is) outside)
      ∙ kept.bytes.each h.n h.k (x - r.address) x h.slot live

  -- the table is the one that the table places it in
  new_table : table_in new ≡ (new_placed old mid class len word span slot at).table
  new_table = put.table ∙ put_placed old mid class len word span slot at

  -- the memory has it
  new_memory : plain_of (record { pages = new; next_serial = old.next_serial + 1 })
      ≡ with_new (plain_of old) len (new_placed old mid class len word span slot at).address
  new_memory =
      memory_is _ _ _ _ _ [] new_table refl refl
      ∙ new_means _ _ (targets_of (map_of old)) (targets_of new.map) (bytes_in (arena_of old)) (bytes_in new.arena) []
      len word (new_placed _ _ _ _ _ _ _ at) at.heap.sound (heap_below _ at.heap) (placed_is old mid class len word span slot at) new_zeros new_keeps

  -- it is a heap
  pub new_heap : IsHeap (record { pages = new; next_serial = old.next_serial + 1 })
  new_heap =
      let went = placed_is old mid class len word span slot at in
      let placed : Placed = new_placed _ _ _ _ _ _ _ at in
      let next : next_serial (plain_of old) ≡ old.next_serial = meaning_next _ _ (targets_of (map_of old)) (bytes_in (arena_of old)) [] in
      let tied : IsTied (with_new (plain_of old) len placed.address) placed.table = new_tied _ _ 0 len word _ at.heap.sound at.heap.tied
      (ap (λ (s : ℕ). place_new (table_of old) len word s) next ∙ went) in record {
        sound = subst IsSound (sym new_table) (new_sound _ len word old.next_serial _ at.heap.sound went);
        tied = subst (λ (m : Memory). IsTied m (table_in new)) (sym new_memory)
            (subst (λ (t : Table). IsTied (with_new (plain_of old) len placed.address) t) (sym new_table) tied);
      }

  -- and the object is made
  pub new_is : IsMade old (record { pages = new; next_serial = old.next_serial + 1 }) len word (record { serial = old.next_serial; addr = addr })
  new_is = record {
    placed = new_placed old mid class len word span slot at;
    placed_is = placed_is old mid class len word span slot at;
    serial = refl;
    address = address_is;
    table = new_table;
    memory = new_memory;
    next = refl;
    pages = put.saves.same_length ∙ at.place.kept.bytes.same_length;
  }

-- where no slot was found, it is a heap still
pub fault_heap : (old : Heap) (new : PageHeap) (class : ℕ) (fault : NewFault) → IsHeap old → IsPlaceFault old.pages new class fault
    → IsHeap (record { pages = new; next_serial = old.next_serial })
fault_heap old new class fault heap is = subst (λ (g : PageHeap). IsHeap (record { pages = g; next_serial = old.next_serial })) (sym is.same) heap

-- where no group of the class is open, a new object is placed in a new span, if there is room for one
spanned_new : (t : Table) (len word serial class : ℕ) (room : Result (Unit {0}) Refusal) → class_for len ≡ Some class → 1 ≤ len
    → open_group t class ≡ None → room_for_span t class ≡ room
    → place_new t len word serial ≡ (room >>= λ _. Ok (placed_in (with_span t class) (fresh_group t.next_span class t.next_page) word serial len))
spanned_new t len word serial class room class_is some none is = grind arith

-- where no slot was found, no object is made
pub fault_is : (old : Heap) (new : PageHeap) (class len word : ℕ) (fault : NewFault) → class_for len ≡ Some class → 1 ≤ len
    → IsPlaceFault old.pages new class fault → IsNotMade old (record { pages = new; next_serial = old.next_serial }) len word fault
fault_is old new class len word (Refused refusal) class_is some fault = grind arith
fault_is old new class len word NoMemory class_is some fault = grind (arith, spanned_new (table_of old) len word old.next_serial class (Ok tt) class_is some fault.none_open fault.room)

-- what holds of a fault holds where it is handed on
pub handed_on : {T : Type 0} (r : Result T NewFault) (fault : NewFault) (P : NewFault → Type 0) → IsErrAnd r (λ e. e ≡ fault) → P fault → IfErr r P
handed_on (Ok x) fault P same holds = absurd same
handed_on (Err e) fault P same holds = subst P (sym same) holds
