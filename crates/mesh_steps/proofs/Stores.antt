-- What a store does to the plain memory that a heap stands for.
use Rattle.std.proofs.Common.{◌≡◌, ℕ, ◌+◌, ◌<◌, ◌≤◌, Bool, List, [], ◌∷◌, Some, Result, Ok, Err, length, ap, subst, refl, sym, ◌∙◌, arith}
use Rattle.mesh_arena.specs.Pages.{Pages, free_count}
use Rattle.mesh_page_heap.proofs.Meaning.{store_means_here}
use Rattle.mesh_page_heap.proofs.PageHeapSteps.{page_heap_orderly}
use Rattle.mesh_page_heap.proofs.LiveObjects.{blocked_is, open_is}
use Rattle.mesh_page_heap.specs.Indexes.{layout_of}
use Rattle.mesh_page_heap.specs.Layout.{AreInObject}
use Rattle.mesh_page_heap.specs.PageHeapInvariant.{IsPageHeap, bytes_in, targets_of}
use Rattle.model_heap.proofs.Meanings.{byte_read}
use Rattle.model_heap.proofs.TiedMemories.{stored_tied}
use Rattle.model_memory.specs.Memory.{Memory}
use Rattle.model_heap.specs.Mesh.{is_blocked}
use Rattle.model_heap.specs.Places.{Record, meaning, record_with}
use Rattle.model_memory.specs.Plain.{holding, stored}
use Rattle.model_heap.specs.Sound.{IsSound, IsTied}
use Rattle.model_heap.specs.Table.{Table}
use Rattle.model_words.specs.declared.refusals.Refusal.{Refusal}
use Rattle.model_words.specs.declared.refusals.Refusal.TheVariants.{Freed, Outside, Stray}
use Rattle.mesh_spans.specs.Index.{IsIndex}
use Rattle.mesh_store.specs.Places.{IsBlocked, IsOpen, Saves, byte_of}
use Rattle.mesh_steps.proofs.Objects.{ends_past, ends_within, live_ends, live_found, live_in_object, object_len, reference_names}
use Rattle.mesh_steps.proofs.AlwaysHolds.{heap_objects_apart}
use Rattle.mesh_steps.specs.Heap.{Heap, IsHeap, IsHeld, IsHeldBack, IsLiveFor, IsReferred, IsRefused, IsStore, IsStored, arena_of, byte_at_address, index_of, live_record, live_records, map_of, object_in, plain_of, referred, stored_at, stored_at_address, stored_in, table_of}
use Rattle.mesh_page_heap.specs.PageHeap.{PageHeap}
use Rattle.mesh_page_heap.specs.declared.answers.Occupied.{Occupied}
use Rattle.mesh_steps.specs.declared.answers.Ref.{Ref}
use Rattle.mesh_steps.specs.declared.answers.Stored.TheVariants.{Blocked, Done, Refused}

-- the heap with other bytes
abbrev pub with_arena : Heap → Pages → Heap
with_arena h arena = record { pages = record h.pages { arena = arena }; next_serial = h.next_serial }

-- bytes stored in a part of an object are stored in the plain memory's object
store_is : (h : Heap) (arena : Pages) (r : Record) (off : ℕ) (bytes : List ℕ) → IsHeap h → IsIndex (index_of h).spans (index_of h).groups
    → IsPageHeap (arena_of h) (map_of h) (index_of h) (table_of h).next_page (table_of h).meshes → record_with r.serial (live_records h) ≡ Some r
    → off + length bytes ≤ r.len → IsOpen (map_of h) (r.address + off) (length bytes) → Saves (arena_of h) arena (map_of h) (r.address + off) bytes
    → meaning h.next_serial (live_records h) (targets_of (map_of h)) (bytes_in arena) []
    ≡ stored (plain_of h) (record { serial = r.serial; object = object_in h r }) off bytes
store_is h arena r off bytes heap index paged found fits may saves =
    store_means_here _ _ _ _ _ _ _ _ _ _ heap.sound refl heap.tied (page_heap_orderly _ _ _ _ _ index paged) paged.laid_out found
    (λ serial x q is other within here. heap_objects_apart _ heap serial r.serial x q r is found other within here) fits may saves

-- a store that was done, by what it is answered
answers_done : (old new : Heap) (after : Result Memory Refusal) (touches : Bool) → IsStored old new after touches → IsStore old new after touches Done
answers_done old new after touches is = record { done = λ _. is; blocked = λ e. absurd (cc e); refused = λ refusal e. absurd (cc e) }

-- and one that was held back
answers_blocked : (old new : Heap) (after : Result Memory Refusal) (touches : Bool) → IsHeldBack old new after touches → IsStore old new after touches Blocked
answers_blocked old new after touches is = record { done = λ e. absurd (cc e); blocked = λ _. is; refused = λ refusal e. absurd (cc e) }

-- a store that was refused, by its first refusal
pub answers_refused : (h : Heap) (after : Result Memory Refusal) (first refusal : Refusal) → after ≡ Err first → Refused first ≡ Refused refusal
    → IsRefused h h after refusal
answers_refused h after first refusal told e =
    let same : first ≡ refusal = cc e in record { told = told ∙ ap {B = Result Memory Refusal} (λ (r : Refusal). Err r) same; same = refl }

-- the table is as it was after a store
store_table : (h : Heap) (arena : Pages) → free_count arena ≡ free_count (arena_of h) → table_of (with_arena h arena) ≡ table_of h
store_table h arena same = rw same refl

-- a store in an object of this serial and address
pub stored_in_is : (h : Heap) (serial address off len : ℕ) (bytes : List ℕ) → IsHeap h
    → record_with serial (live_records h) ≡ Some (live_record serial address len) → off + length bytes ≤ len
    → stored_in h serial address off bytes
    ≡ Ok (stored (plain_of h) (record { serial = serial; object = object_in h (live_record serial address len) }) off bytes)
stored_in_is h serial address off len bytes heap found fits =
    rw (
      reference_names h (record { serial = serial; addr = address }) (live_record serial address len) heap found refl,
      ends_within h (live_record serial address len) off (length bytes) fits,
    ) refl

-- the heap after a store is one
IsHeap_stored : (h : Heap) (arena : Pages) (r : Record) (off : ℕ) (bytes : List ℕ) → IsHeap h → IsIndex (index_of h).spans (index_of h).groups
    → IsPageHeap (arena_of h) (map_of h) (index_of h) (table_of h).next_page (table_of h).meshes → record_with r.serial (live_records h) ≡ Some r
    → off + length bytes ≤ r.len → IsOpen (map_of h) (r.address + off) (length bytes) → Saves (arena_of h) arena (map_of h) (r.address + off) bytes
    → IsHeap (with_arena h arena)
IsHeap_stored h arena r off bytes heap index paged found fits may saves =
    let table = store_table h arena saves.same_free in
    let tied : IsTied (stored (plain_of h) (record { serial = r.serial; object = object_in h r }) off bytes) (table_of h)
    = stored_tied (plain_of h) (table_of h) (record { serial = r.serial; object = object_in h r }) off bytes (live_found h r.serial r heap found)
    (let long = object_len h r in omega (arith, long, fits)) heap.tied in
    record {
      sound = subst (λ (t : Table). IsSound t) (sym table) heap.sound;
      tied = subst (λ (t : Table). IsTied (plain_of (with_arena h arena)) t) (sym table)
          (subst (λ (m : Memory). IsTied m (table_of h)) (sym (store_is h arena r off bytes heap index paged found fits may saves)) tied);
    }

-- a store through a stale reference
pub stored_stale : (h : Heap) (object : Ref) (off : ℕ) (bytes : List ℕ) → referred (plain_of h) object ≡ Err Freed → stored_at (plain_of h) object off bytes ≡ Err Freed
stored_stale h object off bytes stale = rw stale refl

-- a store of more than the object that a reference names
pub stored_past : (h : Heap) (object : Ref) (o : Occupied) (off : ℕ) (bytes : List ℕ) → IsReferred h object o → o.len < off + length bytes
    → stored_at (plain_of h) object off bytes ≡ Err Outside
stored_past h object o off bytes is past =
    rw (is.named, ends_past h (live_record object.serial object.addr o.len) off (length bytes) past) refl

-- a byte stored at an address is stored in the object that holds it
pub stored_held : (h : Heap) (addr byte : ℕ) (o : Occupied) (i : IsHeld h addr o) → IsHeap h
    → stored_at_address (plain_of h) addr byte ≡ stored_in h o.serial i.address o.offset (byte ∷ [])
stored_held h addr byte o i heap = grind (arith, stored_in_is)

-- a byte read at an address is the one of the object that holds it
pub read_held : (h : Heap) (addr byte : ℕ) (o : Occupied) (i : IsHeld h addr o) → byte ≡ byte_of (arena_of h) (map_of h) addr
    → byte_at_address (plain_of h) addr ≡ Ok byte
unfolding byte_of
read_held h addr byte o i loaded =
    grind (arith, byte_read (targets_of (map_of h)) (bytes_in (arena_of h)) (live_record o.serial i.address o.len) o.offset i.within)

-- a byte read at an address of no object
pub read_stray : (h : Heap) (addr : ℕ) → holding (plain_of h) addr ≡ Err Stray → byte_at_address (plain_of h) addr ≡ Err Stray
read_stray h addr stray = rw stray refl

-- a byte stored at an address of no object
pub stored_stray : (h : Heap) (addr byte : ℕ) → holding (plain_of h) addr ≡ Err Stray → stored_at_address (plain_of h) addr byte ≡ Err Stray
stored_stray h addr byte stray = rw stray refl

-- a store in a live object leaves a heap, and stores in the plain memory
pub stored_whole : (h : Heap) (g : PageHeap) (serial address off : ℕ) (bytes : List ℕ) → IsHeap h → IsIndex (index_of h).spans (index_of h).groups
    → IsPageHeap (arena_of h) (map_of h) (index_of h) (table_of h).next_page (table_of h).meshes → IsLiveFor h serial address (off + length bytes)
    → g ≡ record h.pages { arena = g.arena } → IsOpen (map_of h) (address + off) (length bytes)
    → Saves (arena_of h) g.arena (map_of h) (address + off) bytes
    → IsHeap (record { pages = g; next_serial = h.next_serial })
    × IsStore h (record { pages = g; next_serial = h.next_serial }) (stored_in h serial address off bytes)
    (is_blocked (table_of h) (address + off) (length bytes)) Done
stored_whole h g serial address off bytes heap index paged live whole may saves =
    let r : Record = live_record serial address live.len in
    let memory = store_is h g.arena r off bytes heap index paged live.recorded live.enough may saves in
    subst (λ (x : PageHeap). IsHeap (record { pages = x; next_serial = h.next_serial })
    × IsStore h (record { pages = x; next_serial = h.next_serial }) (stored_in h serial address off bytes)
    (is_blocked (table_of h) (address + off) (length bytes)) Done) (sym whole) (
      IsHeap_stored h g.arena r off bytes heap index paged live.recorded live.enough may saves,
      answers_done h (with_arena h g.arena) (stored_in h serial address off bytes) (is_blocked (table_of h) (address + off) (length bytes)) (record {
        memory = (stored_in_is h serial address off live.len bytes heap live.recorded live.enough) ∙ ap (λ (m : Memory). Ok m) (sym memory);
        may = open_is (arena_of h) (map_of h) (index_of h) (table_of h).next_page (table_of h).meshes index paged (address + off) (length bytes) may;
        table = store_table h g.arena saves.same_free;
        serial = refl;
        pages = saves.same_length;
      }),
    )

-- a store in a live object that touches a read-only page is held back
pub held_back : (h : Heap) (serial address off : ℕ) (bytes : List ℕ) → IsHeap h → IsIndex (index_of h).spans (index_of h).groups
    → IsPageHeap (arena_of h) (map_of h) (index_of h) (table_of h).next_page (table_of h).meshes → IsLiveFor h serial address (off + length bytes)
    → IsBlocked (map_of h) (address + off) (length bytes)
    → IsStore h h (stored_in h serial address off bytes) (is_blocked (table_of h) (address + off) (length bytes)) Blocked
held_back h serial address off bytes heap index paged live blocked =
    answers_blocked h h (stored_in h serial address off bytes) (is_blocked (table_of h) (address + off) (length bytes)) (record {
      allowed = rw (stored_in_is h serial address off live.len bytes heap live.recorded live.enough) refl;
      read_only = blocked_is (arena_of h) (map_of h) (index_of h) (table_of h).next_page (table_of h).meshes index paged (address + off) (length bytes) blocked;
      same = refl;
    })

-- what is live in the heap that is seen is live in the heap inside
pub live_inside : (seen own : Heap) (serial address bytes : ℕ) → own ≡ seen → IsLiveFor seen serial address bytes → IsLiveFor own serial address bytes
live_inside seen own serial address bytes same live = subst (λ (h : Heap). IsLiveFor h serial address bytes) (sym same) live

-- a part of a live object is one of the layout's, and lies within the addresses that there are
pub live_for_object : (h : Heap) (serial address off count : ℕ) → IsHeap h → IsLiveFor h serial address (off + count)
    → AreInObject (layout_of (index_of h)) (address + off) count
live_for_object h serial address off count heap live = live_in_object _ _ _ _ _ heap live.recorded live.enough

pub live_for_fits : (h : Heap) (serial address off count : ℕ) → IsHeap h → IsIndex (index_of h).spans (index_of h).groups → 1 ≤ count
    → IsLiveFor h serial address (off + count) → address + off < 268435456
live_for_fits h serial address off count heap index some live = omega (arith, live_ends _ _ _ heap index live.recorded, live.enough, some)
