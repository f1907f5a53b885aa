-- The counts by class as a placement changes.
use Rattle.std.proofs.Common.{◌≡◌, ◌≢◌, ℕ, zero, suc, ◌+◌, ◌-◌, ◌^◌, ◌<◌, ◌≤◌, true, false, count_by, is_some, List, [], ◌∷◌, ◌++◌, Option, Some, None, IsSome, length, replicate, slice_get, slice_index, slice_set, ap, subst, refl, sym, ◌∙◌, arith}
use Rattle.std.specs.Option.{option_map}
use Rattle.std.specs.Prelude.{min}
use Rattle.std.proofs.lemmas.List.{get_or-set_other, get_or-set_same, get_or_push}
use Rattle.model_heap.specs.Mesh.{do_overlap, united}
use Rattle.model_heap.specs.Table.{Slot}
use Rattle.mesh_class.specs.Class.{class_index}
use Rattle.mesh_class.specs.Classes.{IsClass, pages_of, slots_of}
use Rattle.mesh_spans.proofs.CountLemmas.{count_none}
use Rattle.mesh_spans.proofs.IndexLemmas.{recorded_is}
use Rattle.mesh_spans.specs.Changes.{Merges, merged_entry}
use Rattle.mesh_spans.specs.Index.{GroupEntry, Index, IsIndex, IsRecorded, IsVacant, SpanEntry, group_at, new_group, new_span, no_span, record_at, span_at, with_entry, with_slot}
use Rattle.savings_replay.proofs.ClassBounds.{class_objects_few, held_of_class, held_pages_few, objects_of_class}
use Rattle.savings_replay.proofs.ClassCounts.{Shifts, count_at, count_falls, count_falls_within, count_rises, count_stays, objects_set, objects_united, shift_as, shift_both, shift_push, shift_set}
use Rattle.savings_replay.proofs.Freed.{IsVacated, group_number, object_in}
use Rattle.savings_replay.proofs.HeldPages.{entry_held_none, entry_held_some, entry_split, united_held}
use Rattle.savings_replay.proofs.Placed.{IsOccupied}
use Rattle.savings_replay.proofs.Swept.{IsRetired}
use Rattle.savings_replay.specs.ClassCounts.{AreClassCounts, amount, class_count, count_by_class, entry_empty, entry_held, entry_objects}
use Rattle.savings_replay.specs.Growth.{IsAdded}
use Rattle.savings_replay.specs.Meshes.{MayMesh}
use Rattle.savings_replay.specs.Placement.{IsPlacement, Placement}

-- the counts with one that is higher, or lower
abbrev pub raised : List ℕ → ℕ → ℕ → List ℕ
raised counts class by = slice_set counts (class_index class) (slice_index counts (class_index class) + by)

abbrev pub lowered : List ℕ → ℕ → ℕ → List ℕ
lowered counts class by = slice_set counts (class_index class) (slice_index counts (class_index class) - by)

-- there is room in a count for what a change adds
pub pages_entry_few : (p : Placement) (class : ℕ) (pages objects : List ℕ) → IsClass class → IsPlacement p → AreClassCounts p.index.groups pages objects
    → slice_index pages (class_index class) ≤ 65538
pages_entry_few p class pages objects is kept counted =
    let entry : slice_index pages (class_index class) ≡ class_count entry_held p.index.groups class
    = ap (λ (xs : List ℕ). slice_index xs (class_index class)) counted.pages ∙ count_at entry_held p.index.groups class is in
    let of = held_of_class p class in let few = held_pages_few p class kept in omega (arith, entry, of, few)

pub objects_entry_few : (p : Placement) (class : ℕ) (pages objects : List ℕ) → IsClass class → IsPlacement p → IsIndex p.index.spans p.index.groups
    → AreClassCounts p.index.groups pages objects → slice_index objects (class_index class) ≤ 2 ^ 24
objects_entry_few p class pages objects is kept sound counted =
    let entry : slice_index objects (class_index class) ≡ class_count entry_objects p.index.groups class
    = ap (λ (xs : List ℕ). slice_index xs (class_index class)) counted.objects ∙ count_at entry_objects p.index.groups class is in
    let of = objects_of_class p class in let few = class_objects_few p class kept sound in omega (arith, entry, of, few)

-- a number that is a group is one of the list
group_within : (groups : List (Option GroupEntry)) (n : ℕ) (a : GroupEntry) → group_at groups n ≡ Some a → n < length groups
group_within [] n a there = absurd (cc there)
group_within (x ∷ groups) zero a there = omega arith
group_within (x ∷ groups) (suc n) a there = let rest = group_within groups n a there in omega (arith, rest)

-- a slot of a group has another entry
module _ (groups : List (Option GroupEntry)) (n k class : ℕ) (a : GroupEntry) (was entry : Option Slot) (counts : List ℕ) (is : IsClass class)
    (there : group_at groups n ≡ Some a) (of : a.class ≡ class) (filled : slice_get a.slots k ≡ Some was) where
  abbrev now : List (Option GroupEntry)
  now = slice_set groups n (Some (with_slot k entry a))

  entry_there : with_entry groups n k entry ≡ now
  entry_there = ap (λ (o : Option GroupEntry). slice_set groups n (option_map (with_slot k entry) o)) there

  held_shifts : (up down : ℕ) → entry_held (with_slot k entry a) + down ≡ up + entry_held a → Shifts entry_held groups now class up down
  held_shifts up down same = shift_as entry_held groups now class (entry_held (with_slot k entry a)) (entry_held a) up down
      (shift_set entry_held groups n class (Some a) (Some (with_slot k entry a)) (group_within groups n a there) there of of) same

  -- the pages of the group are held from its first object on, and until its last one
  pub entry_held_rise : (by : ℕ) → by ≡ entry_empty a → was ≡ None → is_some entry ≡ true → counts ≡ count_by_class entry_held groups
      → raised counts class by ≡ count_by_class entry_held (with_entry groups n k entry)
  entry_held_rise by by_is none some were =
      let set = objects_set a.slots k was entry filled in
      let filled_now : 1 ≤ count_by is_some (slice_set a.slots k entry) = grind arith in
      let held = entry_held_some (with_slot k entry a) filled_now in let parts = entry_split a in
      count_rises entry_held groups now class counts is were by (held_shifts by 0 (omega (arith, held, parts, by_is)))
      ∙ ap (λ (gs : List (Option GroupEntry)). count_by_class entry_held gs) (sym entry_there)

  held_falls : (by : ℕ) → by ≡ entry_empty (with_slot k entry a) → is_some was ≡ true → entry ≡ None → Shifts entry_held groups now class 0 by
  held_falls by by_is some none =
      let set = objects_set a.slots k was entry filled in
      let filled_before : 1 ≤ count_by is_some a.slots = grind arith in
      let held = entry_held_some a filled_before in let parts = entry_split (with_slot k entry a) in
      held_shifts 0 by (omega (arith, held, parts, by_is))

  pub entry_held_fall : (by : ℕ) → by ≡ entry_empty (with_slot k entry a) → is_some was ≡ true → entry ≡ None → counts ≡ count_by_class entry_held groups
      → lowered counts class by ≡ count_by_class entry_held (with_entry groups n k entry)
  entry_held_fall by by_is some none were =
      count_falls entry_held groups now class counts is were by (held_falls by by_is some none)
      ∙ ap (λ (gs : List (Option GroupEntry)). count_by_class entry_held gs) (sym entry_there)

  pub entry_held_within : (by : ℕ) → by ≡ entry_empty (with_slot k entry a) → is_some was ≡ true → entry ≡ None → counts ≡ count_by_class entry_held groups
      → by ≤ slice_index counts (class_index class)
  entry_held_within by by_is some none were = count_falls_within entry_held groups now class counts is were by (held_falls by by_is some none)

  -- the changed group is the one with the other entry
  pub entry_now : group_at (with_entry groups n k entry) n ≡ Some (with_slot k entry a)
  entry_now = ap (λ (gs : List (Option GroupEntry)). group_at gs n) entry_there
      ∙ get_or-set_same groups n (Some (with_slot k entry a)) None (group_within groups n a there)

  -- the objects are one more, or one fewer
  entry_shifts : (up down : ℕ) → count_by is_some (slice_set a.slots k entry) + down ≡ up + count_by is_some a.slots
      → Shifts entry_objects groups now class up down
  entry_shifts up down same = shift_as entry_objects groups now class (count_by is_some (slice_set a.slots k entry)) (count_by is_some a.slots) up down
      (shift_set entry_objects groups n class (Some a) (Some (with_slot k entry a)) (group_within groups n a there) there of of) same

  pub entry_objects_rise : was ≡ None → is_some entry ≡ true → counts ≡ count_by_class entry_objects groups
      → raised counts class 1 ≡ count_by_class entry_objects (with_entry groups n k entry)
  entry_objects_rise none some were =
      count_rises entry_objects groups now class counts is were 1 (entry_shifts 1 0 (let set = objects_set a.slots k was entry filled in grind arith))
      ∙ ap (λ (gs : List (Option GroupEntry)). count_by_class entry_objects gs) (sym entry_there)

  pub entry_objects_fall : is_some was ≡ true → entry ≡ None → counts ≡ count_by_class entry_objects groups
      → lowered counts class 1 ≡ count_by_class entry_objects (with_entry groups n k entry)
  entry_objects_fall some none were =
      count_falls entry_objects groups now class counts is were 1 (entry_shifts 0 1 (let set = objects_set a.slots k was entry filled in grind arith))
      ∙ ap (λ (gs : List (Option GroupEntry)). count_by_class entry_objects gs) (sym entry_there)

  pub entry_objects_within : is_some was ≡ true → entry ≡ None → counts ≡ count_by_class entry_objects groups → 1 ≤ slice_index counts (class_index class)
  entry_objects_within some none were =
      count_falls_within entry_objects groups now class counts is were 1 (entry_shifts 0 1 (let set = objects_set a.slots k was entry filled in grind arith))

-- an object comes to a class, and `by` pages to those of groups with an object
pub occupied_counts : (old new : Index) (class span k serial len by : ℕ) (pages objects : List ℕ) → IsClass class → IsVacant old class span k
    → by ≡ amount entry_empty (group_at old.groups (group_number old span)) → IsOccupied old new span k serial len → AreClassCounts old.groups pages objects
    → AreClassCounts new.groups (raised pages class by) (raised objects class 1)
occupied_counts old new class span k serial len by pages objects is vacant by_is put counted =
    let n : ℕ = group_number old span in
    let entry : Option Slot = Some (object_in old span serial len) in
    let empty : by ≡ entry_empty vacant.group = by_is ∙ ap (λ (o : Option GroupEntry). amount entry_empty o) vacant.there in
    rw put.groups (record {
      pages = entry_held_rise old.groups n k class vacant.group None entry pages is vacant.there vacant.same_class vacant.free by empty refl refl counted.pages;
      objects = entry_objects_rise old.groups n k class vacant.group None entry objects is vacant.there vacant.same_class vacant.free refl refl counted.objects;
    })

-- an object leaves its class, and `by` pages those of groups with an object
module _ (old new : Index) (class span k serial len by : ℕ) (pages objects : List ℕ) (is : IsClass class) (stands : IsRecorded old span k serial len)
    (of : (span_at old.spans span).class ≡ class) (counted : AreClassCounts old.groups pages objects) (out : IsVacated old new span k)
    (by_is : by ≡ amount entry_empty (group_at new.groups (group_number new span))) where
  abbrev n : ℕ
  n = group_number old span

  abbrev was : Option Slot
  was = Some (object_in old span serial len)

  left : by ≡ entry_empty (with_slot k None stands.group)
  left = by_is ∙ ap (λ (spans : List SpanEntry). amount entry_empty (group_at new.groups (span_at spans span).group)) out.spans
      ∙ ap (λ (gs : List (Option GroupEntry)). amount entry_empty (group_at gs n)) out.groups
      ∙ ap (λ (o : Option GroupEntry). amount entry_empty o)
      (entry_now old.groups n k class stands.group was None pages is stands.there (stands.same_class ∙ of) stands.filled)

  pub vacated_counts : AreClassCounts new.groups (lowered pages class by) (lowered objects class 1)
  vacated_counts = rw out.groups (record {
    pages = entry_held_fall old.groups n k class stands.group was None pages is stands.there (stands.same_class ∙ of) stands.filled by left refl refl counted.pages;
    objects = entry_objects_fall old.groups n k class stands.group was None objects is stands.there (stands.same_class ∙ of) stands.filled refl refl counted.objects;
  })

  pub vacated_pages_within : by ≤ slice_index pages (class_index class)
  vacated_pages_within =
      entry_held_within old.groups n k class stands.group was None pages is stands.there (stands.same_class ∙ of) stands.filled by left refl refl counted.pages

  pub vacated_within : 1 ≤ slice_index objects (class_index class)
  vacated_within = entry_objects_within old.groups n k class stands.group was None objects is stands.there (stands.same_class ∙ of) stands.filled refl refl
      counted.objects

-- a span with no object comes to a class
pub added_counts : (old new : Index) (class first span : ℕ) (pages objects : List ℕ) → IsClass class → IsAdded old new class first span
    → AreClassCounts old.groups pages objects → AreClassCounts new.groups pages objects
added_counts old new class first span pages objects is added counted =
    let group : GroupEntry = new_group class span added.pages in
    let grown : List (Option GroupEntry) = old.groups ++ Some group ∷ [] in
    let none : count_by is_some group.slots ≡ 0 = sym (count_none (slots_of class)) in
    let held = entry_held_none group none in
    rw added.groups (record {
      pages = counted.pages ∙ sym (count_stays entry_held old.groups grown class 0
          (shift_as entry_held old.groups grown class (entry_held group) 0 0 0 (shift_push entry_held old.groups class (Some group) refl) (omega (arith, held))));
      objects = counted.objects ∙ sym (count_stays entry_objects old.groups grown class 0
          (shift_as entry_objects old.groups grown class (count_by is_some group.slots) 0 0 0 (shift_push entry_objects old.groups class (Some group) refl)
          (omega (arith, none))));
    })

-- and the pages of its group have no object
added_empty : (old new : Index) (class first span : ℕ) → IsIndex old.spans old.groups → IsAdded old new class first span
    → pages_of class ≡ amount entry_empty (group_at new.groups (group_number new span))
added_empty old new class first span sound added =
    let group : GroupEntry = new_group class span added.pages in
    let none : count_by is_some group.slots ≡ 0 = sym (count_none (slots_of class)) in
    let held = entry_held_none group none in let parts = entry_split group in
    let empty : pages_of class ≡ entry_empty group = omega (arith, held, parts) in
    let number : group_number new span ≡ span = rw (added.spans, added.number)
    (ap (λ (s : SpanEntry). s.group) (get_or_push old.spans (new_span first class (length old.spans)) no_span (length old.spans) refl)) in
    let there : group_at new.groups span ≡ Some group = rw added.groups (get_or_push old.groups (Some group) None span (sound.paired ∙ sym added.number)) in
    empty ∙ ap (λ (o : Option GroupEntry). amount entry_empty o) (sym there) ∙ ap (λ (m : ℕ). amount entry_empty (group_at new.groups m)) (sym number)

-- an empty group leaves its class
module _ (old new : Index) (class n : ℕ) (a : GroupEntry) (pages objects : List ℕ) (there : group_at old.groups n ≡ Some a) (of : a.class ≡ class)
    (counted : AreClassCounts old.groups pages objects) where
  abbrev rest : List (Option GroupEntry)
  rest = slice_set old.groups n None

  gone : (count : GroupEntry → ℕ) → 0 ≡ count a → Shifts count old.groups rest class 0 0
  gone count same = shift_as count old.groups rest class 0 (count a) 0 0
      (shift_set count old.groups n class (Some a) None (group_within old.groups n a there) there of tt)
      (omega (arith, same))

  pub retired_counts : count_by is_some a.slots ≡ 0 → IsRetired old new n → AreClassCounts new.groups pages objects
  retired_counts empty out = rw out.groups (record {
    pages = counted.pages ∙ sym (count_stays entry_held old.groups rest class 0 (gone entry_held (sym (entry_held_none a empty))));
    objects = counted.objects ∙ sym (count_stays entry_objects old.groups rest class 0 (gone entry_objects (sym empty)));
  })

-- a group of a class is merged into another: their objects stay, and the pages of one go if both have an object
module _ (old new : Index) (s d class : ℕ) (a b : GroupEntry) (pages objects : List ℕ) (is : IsClass class) (two : s ≢ d) (of : a.class ≡ class)
    (of' : b.class ≡ class) (apart : do_overlap a.slots b.slots ≡ false) (long : length a.slots ≡ length b.slots) (merges : Merges old new s d a b)
    (counted : AreClassCounts old.groups pages objects) where
  abbrev without : List (Option GroupEntry)
  without = slice_set old.groups s None

  abbrev united_groups : List (Option GroupEntry)
  united_groups = slice_set without d (Some (merged_entry a b))

  still : group_at without d ≡ Some b
  still = get_or-set_other old.groups s d None None (λ same. two (sym same)) ∙ merges.destination

  merge_shifts : (count : GroupEntry → ℕ) (down : ℕ) → count (merged_entry a b) + down ≡ count a + count b → Shifts count old.groups united_groups class 0 down
  merge_shifts count down same = shift_as count old.groups united_groups class (0 + count (merged_entry a b)) (count a + count b) 0 down
      (shift_both count old.groups without united_groups class 0 (count a) (count (merged_entry a b)) (count b)
      (shift_set count old.groups s class (Some a) None (group_within old.groups s a merges.source) merges.source of tt)
      (shift_set count without d class (Some b) (Some (merged_entry a b)) (group_within without d b still) still of' of'))
      (omega (arith, same))

  both : count_by is_some (united b.slots a.slots) ≡ count_by is_some b.slots + count_by is_some a.slots
  both = objects_united a.slots b.slots long apart

  held_shift : Shifts entry_held old.groups united_groups class 0 (min (entry_held a) (entry_held b))
  held_shift = merge_shifts entry_held (min (entry_held a) (entry_held b))
      (rw (both, of, of') (united_held (count_by is_some a.slots) (count_by is_some b.slots) (pages_of class)))

  pub merged_counts : AreClassCounts new.groups (lowered pages class (min (entry_held a) (entry_held b))) objects
  merged_counts = rw merges.groups (record {
    pages = count_falls entry_held old.groups united_groups class pages is counted.pages (min (entry_held a) (entry_held b)) held_shift;
    objects = counted.objects ∙ sym (count_stays entry_objects old.groups united_groups class 0 (merge_shifts entry_objects 0 (let all = both in omega (arith, all))));
  })

  pub merged_within : min (entry_held a) (entry_held b) ≤ slice_index pages (class_index class)
  merged_within = count_falls_within entry_held old.groups united_groups class pages is counted.pages (min (entry_held a) (entry_held b)) held_shift

-- a vacant slot, and a recorded object, are of a class
pub vacant_class : (index : Index) (class span k : ℕ) → IsIndex index.spans index.groups → IsVacant index class span k → IsClass class
vacant_class index class span k sound vacant = subst IsClass vacant.of_class (sound.span span vacant.below).class

-- the object that is in a slot is freed
module _ (old : Index) (class span k : ℕ) (pages objects : List ℕ) (sound : IsIndex old.spans old.groups) (recorded : IsSome (record_at old span k)) where
  found : (serial : ℕ) × ((len : ℕ) × IsRecorded old span k serial len)
  found = go (record_at old span k) refl recorded
    where
      go : (o : Option (ℕ × ℕ)) → record_at old span k ≡ o → IsSome o → (serial : ℕ) × ((len : ℕ) × IsRecorded old span k serial len)
      go None is some = absurd (cc some)
      go (Some (serial, len)) is some = (serial, (len, recorded_is old old.spans old.groups span k serial len refl sound is))

  recorded_below : span < length old.spans
  recorded_below = found.1.1.below

  recorded_class : class ≡ (span_at old.spans span).class → IsClass class
  recorded_class of = subst IsClass (sym of) (sound.span span recorded_below).class

  module _ (new : Index) (by : ℕ) (of : class ≡ (span_at old.spans span).class) (counted : AreClassCounts old.groups pages objects)
      (out : IsVacated old new span k) (by_is : by ≡ amount entry_empty (group_at new.groups (group_number new span))) where
    pub freed_counts : AreClassCounts new.groups (lowered pages class by) (lowered objects class 1)
    freed_counts =
        vacated_counts old new class span k found.0 found.1.0 by pages objects (recorded_class of) found.1.1 (sym of) counted out by_is

    pub freed_pages_within : by ≤ slice_index pages (class_index class)
    freed_pages_within =
        vacated_pages_within old new class span k found.0 found.1.0 by pages objects (recorded_class of) found.1.1 (sym of) counted out by_is

    pub freed_within : 1 ≤ slice_index objects (class_index class)
    freed_within = vacated_within old new class span k found.0 found.1.0 by pages objects (recorded_class of) found.1.1 (sym of) counted out by_is

-- a span comes to a class, with an object
pub spanned_counts : (old mid new : Index) (class first span k serial len count : ℕ) (pages objects : List ℕ) → IsClass class → count ≡ pages_of class
    → k < slots_of class → IsIndex old.spans old.groups → IsAdded old mid class first span → IsOccupied mid new span k serial len
    → AreClassCounts old.groups pages objects → AreClassCounts new.groups (raised pages class count) (raised objects class 1)
spanned_counts old mid new class first span k serial len count pages objects is count_is within sound added put counted =
    occupied_counts mid new class span k serial len count pages objects is (added.vacant k within) (count_is ∙ added_empty old mid class first span sound added) put
    (added_counts old mid class first span pages objects is added counted)

-- two groups of a class were meshed
module _ (old new : Index) (s d class freed held bytes : ℕ) (pages objects : List ℕ) (sound : IsIndex old.spans old.groups)
    (may : MayMesh old s d class freed held bytes) (merges : Merges old new s d may.merge.pair.a may.merge.pair.b)
    (counted : AreClassCounts old.groups pages objects) where
  meshed_class : IsClass class
  meshed_class = subst IsClass may.class_is (sound.each s may.merge.pair.a may.merge.pair.source).class

  meshed_long : length may.merge.pair.a.slots ≡ length may.merge.pair.b.slots
  meshed_long = (sound.each s may.merge.pair.a may.merge.pair.source).slots ∙ ap slots_of may.merge.pair.same_class ∙ sym (sound.each d may.merge.pair.b may.merge.pair.destination).slots

  pub meshed_counts : AreClassCounts new.groups (lowered pages class held) objects
  meshed_counts = rw may.held_are (merged_counts old new s d class may.merge.pair.a may.merge.pair.b pages objects meshed_class may.merge.pair.two may.class_is
      (sym may.merge.pair.same_class ∙ may.class_is) may.merge.pair.apart meshed_long merges counted)

  pub meshed_within : held ≤ slice_index pages (class_index class)
  meshed_within = rw may.held_are (merged_within old new s d class may.merge.pair.a may.merge.pair.b pages objects meshed_class may.merge.pair.two may.class_is
      (sym may.merge.pair.same_class ∙ may.class_is) may.merge.pair.apart meshed_long merges counted)

-- with no group
pub none_counted : AreClassCounts [] (replicate 10 0) (replicate 10 0)
unfolding count_by_class
none_counted = record { pages = refl; objects = refl }
