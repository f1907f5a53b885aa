-- The page heap's invariant, as objects and spans come and go, and meshes begin and end.
use Rattle.std.proofs.lemmas.Bool.{cases_Bool}
use Rattle.std.proofs.Common.{◌≡◌, ℕ, ◌+◌, ◌<◌, ◌≤◌, Bool, true, false, ◌||◌, List, [], ◌∷◌, ◌++◌, Option, Some, None, length, slice_index_or, slice_set, ap, subst, refl, sym, ◌∙◌, arith, inl, inr}
use Rattle.std.specs.List.{list_any}
use Rattle.std.specs.Option.{option_map}
use Rattle.std.proofs.Math.ListN.{length-set}
use Rattle.std.proofs.lemmas.Bool.Decides.{eqb_tells, leb_tells}
use Rattle.std.proofs.lemmas.List.{get_or-set_other, get_or-set_same, get_or_past}
use Rattle.mesh_arena.specs.Pages.{Pages, free_count}
use Rattle.mesh_class.specs.Classes.{pages_of, slots_of}
use Rattle.model_heap.proofs.GroupPages.{found_sound}
use Rattle.model_heap.proofs.MeshLists.{meshes_of-more}
use Rattle.model_heap.specs.Sound.{AreSoundMeshes, IsSound, IsSoundMesh, meshes_of}
use Rattle.model_heap.specs.Table.{Made, Mesh, Slot, Table, has_number, takes_part}
use Rattle.mesh_pagemap.specs.Entries.{Entries, is_mapped}
use Rattle.mesh_spans.specs.Groups.{is_closed, is_in_mesh}
use Rattle.mesh_spans.specs.Index.{AreUnused, GroupEntry, Index, IsIndex, group_at, new_group, new_span, with_entry, with_slot}
use Rattle.mesh_spans.proofs.FlagLemmas.{each_changed}
use Rattle.mesh_page_heap.specs.Growth.{MapsFirst, TakesAll}
use Rattle.mesh_page_heap.specs.PageHeapInvariant.{IsPageHeap}
use Rattle.mesh_page_heap.specs.Indexes.{class_in, layout_of, members_in, pages_in, slots_in, table_with}
use Rattle.mesh_page_heap.specs.Layout.{IsLaidOut, Layout, Stage, idle, page_total}
use Rattle.mesh_page_heap.specs.MeshLayouts.{mesh_from, stage_at, stage_of, stage_with}
use Rattle.mesh_page_heap.specs.StepChanges.{GivesGroup, Keeps, Moves, UnmapsGroup}
use Rattle.mesh_page_heap.proofs.Changes.{DropsIndex, SameGroups, index_alike, index_drops, index_grows, laid_stages, none_from_open, open_calm, stage_none, stage_same}
use Rattle.mesh_page_heap.proofs.Flags.{flags_more}
use Rattle.mesh_page_heap.proofs.PageHeapSteps.{page_heap_orderly}
use Rattle.mesh_page_heap.proofs.MapSteps.{begin_laid}
use Rattle.mesh_page_heap.proofs.MeshList.{begin_moves, none_left}
use Rattle.mesh_page_heap.proofs.Orderly.{class_of, from_sound, mesh_of, source_there}
use Rattle.mesh_page_heap.proofs.Spans.{grow_keeps, grow_laid, sweep_keeps, sweep_laid}
use Rattle.mesh_page_heap.proofs.Stages.{begin_stage}
use Rattle.mesh_page_heap.proofs.Stores.{free_laid, put_laid}

-- both have the same class, members and pages
record AreAlike (o o' : Option GroupEntry) : Type 0 where
  class : class_in o' ≡ class_in o
  members : members_in o' ≡ members_in o
  pages : pages_in o' ≡ pages_in o

alike_slot : (k : ℕ) (entry : Option Slot) (o : Option GroupEntry) → AreAlike o (option_map (with_slot k entry) o)
alike_slot k entry None = record { class = refl; members = refl; pages = refl }
alike_slot k entry (Some group) = record { class = refl; members = refl; pages = refl }

alike_entry : (groups : List (Option GroupEntry)) (m k : ℕ) (entry : Option Slot) (n : ℕ) → AreAlike (group_at groups n) (group_at (with_entry groups m k entry) n)
alike_entry groups m k entry = each_changed AreAlike groups m (with_slot k entry) (λ o. record { class = refl; members = refl; pages = refl }) (alike_slot k entry)

-- an entry in a slot leaves class, members and pages of all groups
pub entry_groups : (old new : Index) (m k : ℕ) (entry : Option Slot) → new.spans ≡ old.spans → new.groups ≡ with_entry old.groups m k entry → SameGroups old new
entry_groups old new m k entry spans groups = grind (arith, alike_entry old.groups m k entry)

-- what stands in a slot after one was emptied stood there
pub vacated_slot : (old new : Index) (m k : ℕ) → new.groups ≡ with_entry old.groups m k None → (n j : ℕ) (slot : Slot)
    → (layout_of new).slot n j ≡ Some slot → (layout_of old).slot n j ≡ Some slot
vacated_slot old new m k groups n j slot filled =
    each_changed (λ o o'. slice_index_or (slots_in o') j None ≡ Some slot → slice_index_or (slots_in o) j None ≡ Some slot) old.groups m (with_slot k None)
    (λ o now. now) emptied n (rw groups at filled)
  where
    emptied : (o : Option GroupEntry) → slice_index_or (slots_in (option_map (with_slot k None) o)) j None ≡ Some slot → slice_index_or (slots_in o) j None ≡ Some slot
    emptied None filled = filled
    emptied (Some group) filled = elim (eqb_tells j k) [
      | inr other ↦ sym (get_or-set_other group.slots k j None None other.1) ∙ filled
      | inl same ↦ absurd (let two : ◌≡◌ {A = Option Slot} None (Some slot)
          = sym (emptied_same group.slots k) ∙ ap (λ (x : ℕ). slice_index_or (slice_set group.slots k None) x None) (sym same.1) ∙ filled in cc two)
    ]
      where
        emptied_same : (slots : List (Option Slot)) (k : ℕ) → slice_index_or (slice_set slots k None) k None ≡ None
        emptied_same slots k = elim (leb_tells (length slots) k) [
          | inr within ↦ get_or-set_same slots k None None within.1
          | inl past ↦ get_or_past (slice_set slots k None) k None (let p = past.1 in omega (arith, p, length-set slots k None))
        ]

-- the stages are as they were where classes and members are
stages_alike : (old new : Index) (ms : List Mesh) → SameGroups old new → (n : ℕ) → stage_of (layout_of new) ms n ≡ stage_of (layout_of old) ms n
stages_alike old new ms same n = stage_same (layout_of old) (layout_of new) ms n (same.class n) (ap (λ (xs : List ℕ). length xs) (same.members n))

-- a page heap of which slots alone changed, as they may
slots_changed : (arena : Pages) (m : Entries) (old new : Index) (next : ℕ) (ms : List Mesh) → IsPageHeap arena m old next ms → new.spans ≡ old.spans
    → ((i : ℕ) → is_closed new i ≡ is_closed old i) → IsLaidOut (layout_of new) (stage_of (layout_of new) ms) m arena
    → IsSound (table_with arena new next ms) → IsPageHeap arena m new next ms
slots_changed arena m old new next ms paged spans closed laid_out sound = grind arith

-- an object taken out of its slot
pub page_heap_free : (arena : Pages) (m : Entries) (old new : Index) (next : ℕ) (ms : List Mesh) (n k : ℕ) → IsPageHeap arena m old next ms
    → new.spans ≡ old.spans → new.groups ≡ with_entry old.groups n k None → ((i : ℕ) → is_closed new i ≡ is_closed old i)
    → IsSound (table_with arena new next ms) → IsPageHeap arena m new next ms
page_heap_free arena m old new next ms n k paged spans groups closed sound =
    let same = entry_groups _ _ _ _ _ spans groups in
    slots_changed _ _ _ _ _ _ paged spans closed (laid_stages _ _ _ _ _ (stages_alike _ _ _ same)
    (free_laid _ _ _ _ _ paged.laid_out (index_alike _ _ same) (vacated_slot old new _ _ groups))) sound

-- an object put into a slot of an open group
pub page_heap_put : (arena : Pages) (m : Entries) (old new : Index) (next : ℕ) (ms : List Mesh) (n k : ℕ) (entry : Option Slot) → IsIndex old.spans old.groups
    → IsPageHeap arena m old next ms → new.spans ≡ old.spans → new.groups ≡ with_entry old.groups n k entry → ((i : ℕ) → is_closed new i ≡ is_closed old i)
    → is_closed old n ≡ false → IsSound (table_with arena new next ms) → IsPageHeap arena m new next ms
page_heap_put arena m old new next ms n k entry index paged spans groups closed may sound =
    let same = entry_groups _ _ _ _ _ spans groups in
    let calm = open_calm (layout_of old) _ _ (sym (paged.flags n) ∙ may) in
    slots_changed _ _ _ _ _ _ paged spans closed (laid_stages _ _ _ _ _ (stages_alike _ _ _ same)
    (put_laid _ _ _ _ _ _ (page_heap_orderly _ _ _ _ _ index paged) paged.laid_out (index_alike _ _ same) calm.0
    (λ i j slot other filled. sym (ap (λ (o : Option GroupEntry). slice_index_or (slots_in o) j None)
    (ap (λ (gs : List (Option GroupEntry)). group_at gs i) groups ∙ get_or-set_other old.groups n i (option_map (with_slot k entry) (group_at old.groups n)) None other))
    ∙ filled))) sound

-- of sound meshes the last one is sound, and the others
last_sound : (t : Table) (ms : List Mesh) (this : Mesh) → AreSoundMeshes t (ms ++ this ∷ []) → AreSoundMeshes t ms × IsSoundMesh t this
last_sound t [] this sound = (tt, sound.0)
last_sound t (x ∷ xs) this sound = let rest = last_sound t xs this sound.1 in ((sound.0, rest.0), rest.1)

-- a mesh that begins is the first from its source
not_yet : (t : Table) (ms : List Mesh) (this : Mesh) → AreSoundMeshes t (ms ++ this ∷ []) → meshes_of this.class (ms ++ this ∷ []) ≤ 1 → mesh_from this.source ms ≡ None
not_yet t ms this sound few = grind (arith, last_sound, meshes_of-more, none_left)

-- an empty group given back
pub page_heap_sweep : (arena arena' : Pages) (m m' : Entries) (old new : Index) (next : ℕ) (ms : List Mesh) (g : ℕ) → IsIndex old.spans old.groups
    → IsPageHeap arena m old next ms → DropsIndex old new g → 0 < (layout_of old).members g → ((k : ℕ) (slot : Slot) → (layout_of old).slot g k ≡ Some slot → ⊥)
    → is_closed old g ≡ false → UnmapsGroup (layout_of old) m m' g → GivesGroup (layout_of old) arena arena' g
    → IsSound (table_with arena' new next ms) → IsPageHeap arena' m' new next ms × Keeps (layout_of old) arena arena' m m'
page_heap_sweep arena arena' m m' old new next ms g index paged drops some empty may unmaps gives sound =
    let l : Layout = layout_of old in
    let l' : Layout = layout_of new in
    let orderly = page_heap_orderly arena m old next ms index paged in
    let none : list_any (takes_part g) ms ≡ false = sym (paged.flags g) ∙ may in
    let calm = open_calm l ms g none in
    let dropped = index_drops old new g drops in
    let unused : AreUnused new next = rw drops.spans paged.unused in
    let fresh : (v : ℕ) → next ≤ v → is_mapped m' v ≡ false = λ v high. elim (cases_Bool (is_mapped m' v)) [
      | inr unmapped ↦ unmapped
      | inl mapped ↦ absurd (let two : true ≡ false = sym (unmaps.none v mapped) ∙ paged.fresh v high in cc two)
    ] in
    let laid = laid_stages l' (stage_of l ms) (stage_of l' ms) m' arena' (λ n. elim (eqb_tells n g) [
      | inl same ↦ stage_none l l' ms n (ap (λ (x : ℕ). mesh_from x ms) same.1 ∙ none_from_open l ms g none)
      | inr other ↦ stage_same l l' ms n (dropped.class n other.1) (dropped.members n other.1)
    ])
    (sweep_laid l l' (stage_of l ms) m m' arena arena' g orderly paged.laid_out some empty calm.0 calm.1 dropped unmaps gives) in
    let flags : (n : ℕ) → is_closed new n ≡ list_any (takes_part n) ms = λ n. elim (eqb_tells n g) [
      | inl same ↦ rw same.1 (ap is_in_mesh drops.gone ∙ sym none)
      | inr other ↦ ap is_in_mesh (drops.others n other.1) ∙ paged.flags n
    ] in
    (assumption, sweep_keeps l l' (stage_of l ms) m m' arena arena' g orderly paged.laid_out some empty calm.0 calm.1 dropped unmaps gives)

-- no mesh is from a number that is no group
none_from_new : (arena : Pages) (m : Entries) (index : Index) (next : ℕ) (ms : List Mesh) → IsIndex index.spans index.groups → IsPageHeap arena m index next ms
    → (g : ℕ) → (layout_of index).members g ≡ 0 → mesh_from g ms ≡ None
none_from_new arena m index next ms sound paged g none = elim (mesh_of (layout_of index) ms g) [
  | inl found ↦ found
  | inr h ↦ absurd (
      let t : Table = table_with arena index next ms in
      let is = from_sound index t sound paged.sound refl g h.mesh h.found in
      let at = source_there index t sound paged.sound refl g h in
      omega (arith, (class_of index t sound paged.sound refl g is.source at).2, (found_sound t (has_number g) is.source paged.sound at).some_member, none))
]

-- a span added
pub page_heap_grow : (arena arena' : Pages) (m m' : Entries) (old new : Index) (next class : ℕ) (pages : List ℕ) (ms : List Mesh) → IsIndex old.spans old.groups
    → IsPageHeap arena m old next ms → new.spans ≡ old.spans ++ new_span next class (length old.spans) ∷ []
    → new.groups ≡ old.groups ++ Some (new_group class (length old.spans) pages) ∷ [] → length pages ≡ pages_of class → next + pages_of class ≤ 65536
    → TakesAll arena arena' pages → MapsFirst m m' next pages (length pages) → AreUnused new (next + pages_of class)
    → ((n : ℕ) → is_closed new n ≡ is_closed old n)
    → IsSound (table_with arena' new (next + pages_of class) ms)
    → IsPageHeap arena' m' new (next + pages_of class) ms × Keeps (layout_of old) arena arena' m m'
page_heap_grow arena arena' m m' old new next class pages ms index paged spans groups count fits takes maps unused closed sound =
    let l : Layout = layout_of old in
    let l' : Layout = layout_of new in
    let orderly = page_heap_orderly _ _ _ _ _ index paged in
    let grows = index_grows old new next class pages index spans groups in (
      record {
        some = let s = paged.some in omega (arith, s);
        most = fits;
        unused = unused;
        fresh = λ v high. maps.above v (omega (arith, high, count));
        laid_out = laid_stages _ (stage_of l ms) _ _ _ (λ n. elim (eqb_tells n (length old.groups)) [
          | inr other ↦ stage_same l l' ms n (grows.class n other.1) (grows.members n other.1)
          | inl same ↦ stage_none l l' ms n (ap (λ (x : ℕ). mesh_from x ms) same.1 ∙ none_from_new _ _ _ _ _ index paged _ grows.none)
        ]) (grow_laid l _ _ m _ arena _ (length old.groups) class next pages orderly paged.laid_out grows paged.fresh count takes maps);
        flags = λ n. closed n ∙ paged.flags n;
        sound = sound;
      },
      grow_keeps _ l' (stage_of l ms) _ _ _ _ (length old.groups) class next pages orderly paged.laid_out grows paged.fresh count takes maps,
    )

-- an object's bytes are stored
pub page_heap_bytes : (arena arena' : Pages) (m : Entries) (index : Index) (next : ℕ) (ms : List Mesh) → IsPageHeap arena m index next ms
    → IsLaidOut (layout_of index) (stage_of (layout_of index) ms) m arena' → free_count arena' ≡ free_count arena → IsPageHeap arena' m index next ms
page_heap_bytes arena arena' m index next ms paged laid same =
    let sound : IsSound (table_with arena' index next ms) = rw same paged.sound in assumption

-- a mesh begins: its two groups are closed
pub page_heap_begin : (arena : Pages) (m : Entries) (old new : Index) (next : ℕ) (ms : List Mesh) (this : Mesh) → IsPageHeap arena m old next ms
    → SameGroups old new → ((n k : ℕ) (slot : Slot) → (layout_of new).slot n k ≡ Some slot → (layout_of old).slot n k ≡ Some slot)
    → ((n : ℕ) → is_closed new n ≡ (is_closed old n || takes_part n this)) → this.progress ≡ Made 0
    → IsSound (table_with arena new next (ms ++ this ∷ [])) → IsPageHeap arena m new next (ms ++ this ∷ [])
page_heap_begin arena m old new next ms this paged same slots closed begins sound =
    let l : Layout = layout_of old in
    let l' : Layout = layout_of new in
    let none = not_yet (table_with arena new next (ms ++ this ∷ [])) _ _ sound.meshes (sound.one_a_class this.class) in
    let laid : IsLaidOut l' (stage_of l' ms) m arena = laid_stages _ _ _ _ _ (stages_alike _ _ _ same)
    (free_laid _ _ _ _ _ paged.laid_out (index_alike _ _ same) slots) in
    let moves : Moves (stage_of l' ms) (stage_of l' (ms ++ this ∷ [])) this.source (record (idle this.source) { into = this.destination })
    = subst (λ (c : Stage). Moves (stage_of l' ms) (stage_of l' (ms ++ this ∷ [])) this.source c)
    (ap (stage_at (page_total l' this.source) (slots_of (l'.class this.source)) this.destination) begins ∙ begin_stage _ _ _) (begin_moves l' _ _ none) in
    let unused : AreUnused new next = rw same.spans paged.unused in
    let laid_out = begin_laid _ _ _ _ _ _ _ laid (ap (stage_with l' this.source) none) moves in
    let flags : (n : ℕ) → is_closed new n ≡ list_any (takes_part n) (ms ++ this ∷ [])
    = λ n. closed n ∙ ap (λ (b : Bool). b || takes_part n this) (paged.flags n) ∙ sym (flags_more ms this n) in assumption
