-- The mesher keeps table and memory tied: the slots that are filled stay the same.
use Rattle.std.proofs.Common.{◌≡◌, length, ◌≢◌, ℕ, zero, suc, ◌+◌, ◌≤◌, Bool, false, cond, not, nat_lt, List, [], ◌∷◌, map, filter, find, count_by, slice_get, is_some, ap, refl, sym, ◌∙◌, arith, inl, inr, Option, Some, None, Ok}
use Rattle.std.proofs.lemmas.Bool.Decides.{leb_tells}
use Rattle.std.proofs.lemmas.List.Sums.{sum_by-cons}
use Rattle.model_heap.proofs.MayBegin.{began}
use Rattle.model_heap.proofs.GroupLists.{find_number, find_mapped, find_changed_other, find_without_other}
use Rattle.model_heap.proofs.MeshLists.{mesh_found}
use Rattle.model_heap.proofs.TableChanges.{united_at}
use Rattle.model_memory.specs.Memory.{Memory, Object}
use Rattle.model_heap.specs.Mesh.{Stepped, begin, cancel, do_overlap, mesh_whole, merged, merged_into, step, stepped, table_after, table_unwound, united}
use Rattle.model_heap.specs.Sound.{HasSlot, IsFilled, IsLiveSlot, IsSound, IsTied}
use Rattle.model_heap.specs.Table.{Counted, Group, Made, Mesh, Progress, Slot, Table, Unwinding, changed_at, group_of, has_number, object_count, slot_address, sweep}

-- what is filled in the first table is filled in the second
abbrev pub AreKept : Table → Table → Type 0
AreKept t u = (class k : ℕ) (slot : Slot) → IsFilled t class k slot → IsFilled u class k slot

-- the object of a filled slot is live where table and memory are tied
pub live_slot : (m : Memory) (t : Table) (class k : ℕ) (slot : Slot) → IsTied m t → IsFilled t class k slot → IsLiveSlot m class k slot
live_slot m t class k slot tied is = grind arith

-- an object of a filled slot's serial, address and length stands in it
pub filled_has : (t : Table) (class k serial : ℕ) (slot : Slot) (o : Object) → IsFilled t class k slot → slot.serial ≡ serial
    → o.address ≡ slot_address slot.member class k → length o.bytes ≡ slot.len → HasSlot t serial o
filled_has t class k serial slot o at same address long = record {
  number = at.number;
  group = at.group;
  k = k;
  slot = slot;
  there = at.there;
  filled = at.filled;
  serial_is = same;
  address = address ∙ ap (λ (c : ℕ). slot_address slot.member c k) (sym at.class_is);
  len = long;
}

-- tables with the same filled slots are tied to the same memory
tied_kept : (m : Memory) (t u : Table) → AreKept t u → AreKept u t → IsTied m t → IsTied m u
tied_kept m t u kept old tied = record {
  slots = λ number k group slot there filled. live_slot m t group.class k slot tied
      (old group.class k slot (record { number = number; group = group; there = there; class_is = refl; filled = filled }));
  objects = λ serial object live. let has = tied.objects serial object live in
      filled_has u has.group.class has.k serial has.slot object (kept has.group.class has.k has.slot
      (record { number = has.number; group = has.group; there = has.there; class_is = refl; filled = has.filled })) has.serial_is has.address has.len;
}

-- a table with the same groups keeps what is filled
same_groups : (t u : Table) → u.groups ≡ t.groups → AreKept t u
same_groups t u same class k slot is = grind arith

-- a table with the same groups is tied to the same memory
tied_groups : (m : Memory) (t u : Table) → u.groups ≡ t.groups → IsTied m t → IsTied m u
tied_groups m t u same tied = tied_kept m t u (same_groups t u same) (same_groups u t (sym same)) tied

-- the number of the groups taken out is found no more
find_without_same : (n : ℕ) (gs : List Group) → find (has_number n) (filter (λ g. not (has_number n g)) gs) ≡ None
find_without_same n [] = refl
find_without_same n (x ∷ xs) = grind (arith, find_without_same n xs)

-- a filled slot is counted
pub filled_counted : (slots : List (Option Slot)) (k : ℕ) (slot : Slot) → slice_get slots k ≡ Some (Some slot) → 1 ≤ count_by is_some slots
filled_counted [] k slot h = absurd (cc)
filled_counted (x ∷ slots) zero slot h = grind (arith, sum_by-cons (λ o. cond (is_some o) 1 0) x slots)
filled_counted (x ∷ slots) (suc k) slot h = grind (arith, sum_by-cons (λ o. cond (is_some o) 1 0) x slots, filled_counted slots k slot h)

-- a group without objects taken out keeps table and memory tied
swept_tied : (m : Memory) (t u : Table) (n : ℕ) (g : Group) → group_of t n ≡ Some g → nat_lt 0 (object_count g) ≡ false
    → u.groups ≡ filter (λ x. not (has_number n x)) t.groups → IsTied m t → IsTied m u
swept_tied m t u n g is empty same tied = tied_kept m t u kept old tied
  where
    -- no group has the number
    gone : group_of u n ≡ None
    gone = ap (λ (gs : List Group). find (has_number n) gs) same ∙ find_without_same n t.groups

    -- a group of another number stays
    others : (k : ℕ) → k ≢ n → group_of u k ≡ group_of t k
    others k off = ap (λ (gs : List Group). find (has_number k) gs) same ∙ find_without_other n k t.groups off

    none : (k : ℕ) (slot : Slot) → slice_get g.slots k ≡ Some (Some slot) → ⊥
    none k slot filled = grind (arith, filled_counted g.slots k slot filled)

    kept : AreKept t u
    kept c k slot x = grind (arith, none, others)

    old : AreKept u t
    old c k slot x = grind (arith, gone, others)

-- a sweep keeps table and memory tied
pub sweep_tied : (m : Memory) (t : Table) (n : ℕ) (swept : Counted) → IsTied m t → sweep t n ≡ Ok swept → IsTied m swept.table
sweep_tied m t n swept tied h = grind (arith, swept_tied m t swept.table n)

-- the objects of the first list stay
united_first : (xs ys : List (Option Slot)) (k : ℕ) (slot : Slot) → slice_get xs k ≡ Some (Some slot) → slice_get (united xs ys) k ≡ Some (Some slot)
united_first [] ys k slot h = absurd (cc)
united_first (x ∷ xs) [] k slot h = h
united_first (x ∷ xs) (y ∷ ys) zero slot h = grind arith
united_first (x ∷ xs) (y ∷ ys) (suc k) slot h = united_first xs ys k slot h

-- the objects of the second list stay, where no slot number is occupied in both
united_second : (xs ys : List (Option Slot)) (k : ℕ) (slot : Slot) → do_overlap ys xs ≡ false → slice_get ys k ≡ Some (Some slot)
    → slice_get (united xs ys) k ≡ Some (Some slot)
united_second [] ys k slot apart h = h
united_second (x ∷ xs) [] k slot apart h = absurd (cc)
united_second (x ∷ xs) (y ∷ ys) zero slot apart h = grind arith
united_second (x ∷ xs) (y ∷ ys) (suc k) slot apart h = grind (arith, united_second xs ys k slot)

-- two groups merged keep table and memory tied
merged_tied : (m : Memory) (t u : Table) (a b : Group) (source destination : ℕ) → group_of t source ≡ Some a → group_of t destination ≡ Some b
    → source ≢ destination → a.class ≡ b.class → do_overlap a.slots b.slots ≡ false → u.groups ≡ merged t.groups a destination → IsTied m t → IsTied m u
merged_tied m t u a b source destination is is' two class apart same tied = tied_kept m t u kept old tied
  where
    changed : List Group
    changed = map (changed_at destination (merged_into a)) t.groups

    number : a.number ≡ source
    number = find_number source t.groups a is

    -- a group of a third number stays
    others : (n : ℕ) → n ≢ source → n ≢ destination → group_of u n ≡ group_of t n
    others n off off' = ap (λ (gs : List Group). find (has_number n) gs) same ∙ find_without_other a.number n changed (λ e. off (e ∙ number))
        ∙ find_changed_other destination n (merged_into a) t.groups (λ x. refl) off'

    -- no group has the source's number
    gone : group_of u source ≡ None
    gone = grind (arith, number, find_without_same a.number changed)

    -- the destination's number is that of the merged group
    there : group_of u destination ≡ Some (merged_into a b)
    there = grind (arith, find_without_other a.number destination changed, number, find_mapped, find_number destination t.groups b is')

    kept : AreKept t u
    kept c k slot x = grind (arith, there, united_second b.slots a.slots k slot apart, united_first b.slots a.slots k slot, others x.number)

    old : AreKept u t
    old c k slot x = grind (arith, gone, there, united_at b.slots a.slots k slot, others x.number)

-- a mesh begun keeps the groups
pub begun_groups : (busy : Table → ℕ → Bool) (t : Table) (source destination : ℕ) (begun : Counted) → begin busy t source destination ≡ Ok begun
    → begun.table.groups ≡ t.groups
begun_groups busy t source destination begun h = ap (λ (x : Counted). x.table.groups) (sym (began busy t source destination begun h).is)

-- so it keeps table and memory tied
pub begin_tied : (m : Memory) (busy : Table → ℕ → Bool) (t : Table) (source destination : ℕ) (begun : Counted) → IsTied m t
    → begin busy t source destination ≡ Ok begun → IsTied m begun.table
begin_tied m busy t source destination begun tied h =
    tied_groups m t begun.table (begun_groups busy t source destination begun h) tied

-- a whole mesh keeps table and memory tied
pub whole_tied : (m : Memory) (busy : Table → ℕ → Bool) (t : Table) (source destination : ℕ) (whole : Counted) → IsTied m t
    → mesh_whole busy t source destination ≡ Ok whole → IsTied m whole.table
whole_tied m busy t source destination whole tied h = grind (arith, merged_tied m t whole.table)

-- a cancel keeps table and memory tied
pub cancel_tied : (m : Memory) (t : Table) (which : Option Mesh) (x : Counted) → IsTied m t → cancel t which ≡ Ok x → IsTied m x.table
cancel_tied m t which x tied h = grind (arith, tied_groups m t x.table)

-- the last step of a mesh keeps table and memory tied
last_tied : (m : Memory) (t u : Table) (test : Mesh → Bool) (this : Mesh) (a : Group) → IsSound t → find test t.meshes ≡ Some this
    → group_of t this.source ≡ Some a → u.groups ≡ merged t.groups a this.destination → IsTied m t → IsTied m u
last_tied m t u test this a sound found is merging tied = grind (arith, mesh_found t test t.meshes this found sound.meshes, merged_tied m t u a)

-- a step after d steps keeps table and memory tied
after_tied : (m : Memory) (t : Table) (test : Mesh → Bool) (this : Mesh) (a : Group) (d : ℕ) → IsSound t → find test t.meshes ≡ Some this
    → group_of t this.source ≡ Some a → IsTied m t → IsTied m (table_after t this a d)
after_tied m t test this a d sound found is tied =
    grind (arith, last_tied m t (table_after t this a d) test this a sound found is, tied_groups m t (table_after t this a d))

-- an unprotect of a cancelled mesh keeps the groups
unwound_groups : (t : Table) (this : Mesh) (q u : ℕ) → (table_unwound t this q u).groups ≡ t.groups
unwound_groups t this q u = elim (leb_tells q (u + 1)) [ inl last ↦ rw last.0 refl | inr more ↦ rw more.0 refl ]

-- a step of a mesh at a progress keeps table and memory tied
stepped_tied : (m : Memory) (t : Table) (test : Mesh → Bool) (this : Mesh) (a : Group) (progress : Progress) → IsSound t → find test t.meshes ≡ Some this
    → group_of t this.source ≡ Some a → IsTied m t → IsTied m (stepped t this a progress).table
stepped_tied m t test this a (Made d) sound found is tied = after_tied m t test this a d sound found is tied
stepped_tied m t test this a (Unwinding q u) sound found is tied = tied_groups m t (table_unwound t this q u) (unwound_groups t this q u) tied

-- a step of a mesh found by any test keeps table and memory tied
pub step_tied : (m : Memory) (t : Table) (test : Mesh → Bool) (x : Stepped) → IsSound t → IsTied m t → step t (find test t.meshes) ≡ Ok x → IsTied m x.table
step_tied m t test x sound tied h = grind (arith, stepped_tied m t test)
