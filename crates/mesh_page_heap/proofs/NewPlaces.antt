-- Where the next object of a class goes.
use Rattle.std.proofs.Common.{◌≡◌, ℕ, zero, suc, ◌+◌, ◌%◌, ◌<◌, ◌≤◌, Bool, false, not, ◌&&◌, nat_eq, nat_lt, find, List, [], ◌∷◌, ◌++◌, Option, Some, None, Result, Ok, IsSome, IsSomeAnd, length, slice_get, slice_index, ap, subst, refl, sym, ◌∙◌, arith, inl, inr}
use Rattle.std.specs.List.{list_any}
use Rattle.std.specs.Option.{option_map_or}
use Rattle.std.proofs.Math.ListN.{get_or-append, length-append}
use Rattle.std.proofs.Math.Seq.{get_or-append_seam}
use Rattle.std.proofs.lemmas.Bool.{le-ltb}
use Rattle.std.proofs.lemmas.Bool.Decides.{leb_tells}
use Rattle.std.proofs.lemmas.List.{get_or_past}
use Rattle.std.proofs.lemmas.Option.{get_or_from_slice_get, slice_get-get_or}
use Rattle.mesh_arena.specs.Pages.{free_count}
use Rattle.mesh_class.specs.Classes.{pages_of, slots_of, IsClass}
use Rattle.mesh_page_heap.proofs.Groups.{first_is}
use Rattle.mesh_page_heap.proofs.PageHeapChanges.{page_heap_grow}
use Rattle.mesh_page_heap.specs.Growth.{MapsFirst, TakesAll}
use Rattle.mesh_page_heap.specs.Indexes.{layout_of, members_in, table_with}
use Rattle.mesh_page_heap.specs.Layout.{IsLiveAt}
use Rattle.mesh_page_heap.specs.PageHeapInvariant.{IsPageHeap}
use Rattle.mesh_page_heap.specs.StepChanges.{Keeps}
use Rattle.model_heap.proofs.NewObjects.{span_sound}
use Rattle.model_heap.proofs.NewPlaces.{fresh_picked}
use Rattle.model_heap.proofs.OpenGroups.{found_open, open_tests}
use Rattle.model_words.specs.Classes.{Row, row_of}
use Rattle.model_heap.specs.Sound.{IsSound}
use Rattle.model_heap.specs.Table.{Group, Slot, Table, fresh_group, is_open, object_count, place_in, placed_in, room_for_span, takes_objects, takes_part, with_span}
use Rattle.model_words.specs.Words.{◌>>=◌}
use Rattle.model_words.specs.declared.refusals.Refusal.{Refusal}
use Rattle.mesh_spans.specs.Groups.{IsPicked, groups_of, is_closed, is_in_mesh}
use Rattle.mesh_spans.specs.Index.{AreUnused, GroupEntry, Index, IsFoundAt, IsIndex, IsVacant, SpanEntry, group_at, new_group, new_span, no_span, record_at, span_at}
use Rattle.mesh_page_heap.specs.PageHeap.{IsFreshSpan, IsPlace, KeepsObjects, PageHeap, first_page, group_number, open_group, table_in}

-- two tests that agree find the same
find_same : (f g : Group → Bool) (groups : List Group) → ((group : Group) → f group ≡ g group) → find f groups ≡ find g groups
find_same f g [] same = refl
find_same f g (x ∷ groups) same = grind arith

-- the index's lowest open group is the table's
pub open_is : (g : PageHeap) (class : ℕ) → IsPageHeap g.arena g.map g.index g.next_page g.meshes
    → find (takes_objects (is_closed g.index) class) (groups_of g.index) ≡ open_group (table_in g) class
open_is g class paged = find_same (takes_objects (is_closed g.index) class) (is_open (table_in g) class) (groups_of g.index)
    (λ group. ap (λ (b : Bool). nat_eq group.class class && not b && nat_lt (object_count group) (length group.slots)) (paged.flags group.number))

-- an open group is of the class, and in no mesh
open_class : (t : Table) (class : ℕ) (group : Group) → open_group t class ≡ Some group → group.class ≡ class
open_class t class group found = ((open_tests t class group).0 (found_open t class group found)).0

open_quiet : (t : Table) (class : ℕ) (group : Group) → open_group t class ≡ Some group → list_any (takes_part group.number) t.meshes ≡ false
open_quiet t class group found = ((open_tests t class group).0 (found_open t class group found)).1

-- objects and their bytes stay where nothing changes
KeepsObjects_same : (g : PageHeap) → KeepsObjects g g
KeepsObjects_same g = record { stay = λ n k o x slot live. live; bytes = record { each = λ n k o x slot live. refl; same_length = refl } }

placed_open : (g : PageHeap) (class word span k : ℕ) (o : Option Group) → IsPageHeap g.arena g.map g.index g.next_page g.meshes
    → IsIndex g.index.spans g.index.groups → open_group (table_in g) class ≡ o → IsSomeAnd o (λ group. IsPicked g.index group word span k) → IsVacant g.index class span k
    → IsPlace g g class word span k
placed_open g class word span k None paged index found picked vacant = absurd picked
placed_open g class word span k (Some group) paged index found picked vacant = record {
  group = group;
  placed = λ serial len. rw found refl;
  picked = picked;
  same_class = open_class (table_in g) _ _ found;
  free = record {
    vacant = vacant;
    first = picked.member ∙ first_is _ _ _ index found ∙ ap (λ (n : ℕ). (layout_of g.index).first n 0) (sym picked.number);
    calm = ap (λ (n : ℕ). is_closed g.index n) picked.number ∙ paged.flags group.number ∙ open_quiet (table_in g) class _ found;
  };
  kept = KeepsObjects_same _;
}

-- the slot found in the lowest open group is where the next object goes
pub place_open : (g : PageHeap) (class word span k : ℕ) → IsPageHeap g.arena g.map g.index g.next_page g.meshes
    → IsIndex g.index.spans g.index.groups → IsSomeAnd (find (takes_objects (is_closed g.index) class) (groups_of g.index)) (λ group. IsPicked g.index group word span k)
    → IsVacant g.index class span k → IsPlace g g class word span k
place_open g class word span k paged index picked vacant =
    placed_open g class word span k (open_group (table_in g) class) paged index refl
    (subst (λ (o : Option Group). IsSomeAnd o (λ group. IsPicked g.index group word span k)) (open_is g class paged) picked) vacant

-- the remainder's slot of a fresh span is where the next object goes
pub place_fresh : (old new : PageHeap) (class word span k : ℕ) → IsClass class → open_group (table_in old) class ≡ None → IsFreshSpan old new class span
    → k ≡ word % slots_of class → IsPlace old new class word span k
place_fresh old new class word span k sound none fresh at =
    let some : 1 ≤ slots_of class = omega (arith, sound.some_slot) in
    record {
      group = fresh_group (length old.index.spans) class old.next_page;
      placed = λ serial len.
          ap (λ (o : Option Group). place_in o (table_in old) class word serial len) none
          ∙ ap (λ (r : Result (Unit {0}) Refusal). r >>= λ _. Ok (placed_in (with_span (table_in old) class)
          (fresh_group (length old.index.spans) class old.next_page) word serial len)) fresh.room
          ∙ ap (λ (t : Table). Ok (placed_in t (fresh_group (length old.index.spans) class old.next_page) word serial len)) (sym fresh.table);
      picked = record {
        number = fresh.group ∙ fresh.number;
        member = fresh.first;
        slot = at ∙ sym (fresh_picked (length old.index.spans) class old.next_page word some);
      };
      same_class = refl;
      free = fresh.free k (rw at (omega (arith, some)));
      kept = fresh.kept;
    }

-- there is room for a span where pages and addresses are enough
pub room_is : (t : Table) (class : ℕ) → pages_of class ≤ t.free_pages → t.next_page + pages_of class ≤ 65536 → room_for_span t class ≡ Ok tt
room_is t class free last = rw (le-ltb t.free_pages (pages_of class) free, le-ltb 65536 (t.next_page + pages_of class) last) refl

-- the flags stay where a group in no mesh is added
pub flags_added : (groups : List (Option GroupEntry)) (class member n : ℕ) (pages : List ℕ)
    → is_in_mesh (group_at (groups ++ Some (new_group class member pages) ∷ []) n) ≡ is_in_mesh (group_at groups n)
flags_added [] class member zero pages = refl
flags_added [] class member (suc n) pages = refl
flags_added (x ∷ groups) class member zero pages = refl
flags_added (x ∷ groups) class member (suc n) pages = flags_added groups class member n pages

-- every span still ends below the unused pages once one was added there
pub unused_added : (index index' : Index) (next class group : ℕ) → AreUnused index next → index'.spans ≡ index.spans ++ new_span next class group ∷ []
    → AreUnused index' (next + pages_of class)
unused_added index index' next class group unused added i below = elim (leb_tells (length index.spans) i) [
  | inr old ↦ rw (at_old i old.1) (let was = unused i old.1 in omega (arith, was))
  | inl new ↦ rw (at_new i below new.1) (omega arith)
]
  where
    at_old : (i : ℕ) → i < length index.spans → span_at index'.spans i ≡ span_at index.spans i
    at_old i h = rw added (get_or-append index.spans (new_span next class group ∷ []) no_span i h)

    at_new : (i : ℕ) → i < length index'.spans → length index.spans ≤ i → span_at index'.spans i ≡ new_span next class group
    at_new i below h =
        let same : i ≡ length index.spans = omega (arith, ap length added ∙ length-append index.spans (new_span next class group ∷ []), below, h) in
        rw (added, same) (get_or-append_seam index.spans (new_span next class group) [] no_span)

-- what is known where a span was added over pages that were taken and mapped
pub record IsAdded (old new : PageHeap) (class span : ℕ) (pages : List ℕ) : Type 0 where
  pub number : span ≡ length old.index.spans
  pub spans : new.index.spans ≡ old.index.spans ++ new_span old.next_page class span ∷ []
  pub groups : new.index.groups ≡ old.index.groups ++ Some (new_group class span pages) ∷ []
  pub table : groups_of new.index ≡ groups_of old.index ++ fresh_group span class old.next_page ∷ []
  pub vacant : (k : ℕ) → k < slots_of class → IsVacant new.index class span k
  pub next : new.next_page ≡ old.next_page + pages_of class
  pub meshes : new.meshes ≡ old.meshes
  pub takes : TakesAll old.arena new.arena pages
  pub maps : MapsFirst old.map new.map old.next_page pages (length pages)
  pub count : length pages ≡ pages_of class
  pub last : old.next_page + pages_of class ≤ 65536
  pub room : pages_of class ≤ free_count old.arena

-- the table with a span that was added
added_table : (old new : PageHeap) (class span : ℕ) (pages : List ℕ) → IsAdded old new class span pages
    → table_with new.arena new.index (old.next_page + pages_of class) old.meshes ≡ with_span (table_in old) class
added_table old new class span pages is = grind (arith, length-append)

-- a class with a page is one of the table
row_there : (class : ℕ) → 1 ≤ pages_of class → IsSome (row_of class)
unfolding pages_of
row_there class some = go (row_of class) refl
  where
    go : (o : Option Row) → row_of class ≡ o → IsSome (row_of class)
    go None is = absurd (let none : 1 ≤ option_map_or (λ (r : Row). r.pages) None 0 = subst (λ (o : Option Row). 1 ≤ option_map_or (λ r. r.pages) o 0) is some in omega (arith, none))
    go (Some row) is = rw is refl

-- a span added leaves a page heap, and the bytes of live objects
pub grown : (old new : PageHeap) (class span : ℕ) (pages : List ℕ) → IsClass class → IsPageHeap old.arena old.map old.index old.next_page old.meshes
    → IsIndex old.index.spans old.index.groups → IsAdded old new class span pages
    → IsPageHeap new.arena new.map new.index new.next_page new.meshes × Keeps (layout_of old.index) old.arena new.arena old.map new.map
grown old new class span pages sound paged index is =
    rw (is.next, is.meshes) (page_heap_grow _ _ _ _ _ _ _ _ _ _ index paged
    (is.spans ∙ ap (λ (n : ℕ). old.index.spans ++ new_span old.next_page class n ∷ []) is.number)
    (is.groups ∙ ap (λ (n : ℕ). old.index.groups ++ Some (new_group class n pages) ∷ []) is.number)
    is.count is.last is.takes is.maps (unused_added old.index new.index _ _ _ paged.unused is.spans)
    (λ n. ap (λ (gs : List (Option GroupEntry)). is_in_mesh (group_at gs n)) is.groups ∙ flags_added old.index.groups class span n pages)
    (subst (λ (t : Table). IsSound t) (sym (added_table _ _ _ _ _ is)) (span_sound _ _ paged.sound (row_there _ sound.some_page) is.last)))

-- objects stand where they stood once a group was added
stays_added : (old new : Index) (added : GroupEntry) (n k o x : ℕ) (slot : Slot) → new.groups ≡ old.groups ++ Some added ∷ []
    → IsLiveAt (layout_of old) n k o x slot → IsLiveAt (layout_of new) n k o x slot
stays_added old new added n k o x slot groups live = grind (arith, get_or_past, get_or-append)

-- a span added is a fresh one
pub IsFreshSpan_added : (old new : PageHeap) (class span : ℕ) (pages : List ℕ) → IsClass class → IsPageHeap old.arena old.map old.index old.next_page old.meshes
    → IsIndex old.index.spans old.index.groups → IsAdded old new class span pages → IsFreshSpan old new class span
IsFreshSpan_added old new class span pages sound paged index is = record {
  number = is.number;
  table = rw (is.next, is.meshes) (added_table old new class span pages is);
  first = first;
  group = own;
  room = room_is (table_in old) class is.room is.last;
  free = λ k within. record {
    vacant = is.vacant k within;
    first = first ∙ sym (ap (λ (n : ℕ). (layout_of new.index).first n 0) own
        ∙ ap (λ (o : Option GroupEntry). first_page new.index (slice_index (members_in o) 0)) entry ∙ first);
    calm = ap (λ (n : ℕ). is_closed new.index n) own ∙ ap (λ (o : Option GroupEntry). is_in_mesh o) entry;
  };
  kept = record {
    stay = λ n k o x slot live. stays_added old.index new.index (new_group class span pages) n k o x slot is.groups live;
    bytes = (grown old new class span pages sound paged index is).1;
  };
}
  where
    here : span_at new.index.spans span ≡ new_span old.next_page class span
    here = rw (is.spans, is.number) (get_or-append_seam old.index.spans (new_span old.next_page class (length old.index.spans)) [] no_span)

    first : first_page new.index span ≡ old.next_page
    first = ap (λ (s : SpanEntry). s.first) here

    own : group_number new.index span ≡ span
    own = ap (λ (s : SpanEntry). s.group) here

    entry : group_at new.index.groups span ≡ Some (new_group class span pages)
    entry = ap (λ (gs : List (Option GroupEntry)). group_at gs span) is.groups
        ∙ ap (λ (n : ℕ). group_at (old.index.groups ++ Some (new_group class span pages) ∷ []) n) (is.number ∙ sym index.paired)
        ∙ get_or-append_seam old.index.groups (Some (new_group class span pages)) [] None

-- the record of an object in a slot of a member
pub record_there : (index : Index) (n span k serial len : ℕ) (group : GroupEntry) → span < length index.spans → (span_at index.spans span).group ≡ n
    → group_at index.groups n ≡ Some group
    → slice_get group.slots k ≡ Some (Some (record { member = (span_at index.spans span).first; serial = serial; len = len }))
    → record_at index span k ≡ Some (serial, len)
record_there index n span k serial len group below of_group at filled = grind (arith, get_or_from_slice_get, slice_get-get_or)

-- what is recorded where an address was found
pub found_recorded : (index : Index) (n member k o s k' o' serial len : ℕ) (group : GroupEntry) (r : Option (ℕ × ℕ))
    → IsFoundAt index n member k o (Some (s, k', o')) → group_at index.groups n ≡ Some group
    → slice_get group.slots k ≡ Some (Some (record { member = (span_at index.spans member).first; serial = serial; len = len }))
    → r ≡ record_at index s k' → (r ≡ Some (serial, len)) × (o' ≡ o)
found_recorded index n member k o s k' o' serial len group r found at filled is = grind (arith, record_there)
