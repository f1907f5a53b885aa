-- The page heap's invariant as a mesh begins, and why none begins.
use Rattle.std.proofs.Common.{◌≡◌, ℕ, Bool, true, false, ◌||◌, nat_eq, List, [], ◌∷◌, ◌++◌, slice_index_or, Option, Some, None, Ok, IsSome, ap, refl, sym, ◌∙◌, arith}
use Rattle.std.specs.Option.{option_map}
use Rattle.std.proofs.lemmas.Bool.Decides.{nat_tests}
use Rattle.mesh_arena.specs.Pages.{Pages}
use Rattle.model_heap.specs.Mesh.{Pair, begin, may_begin, step_count}
use Rattle.model_heap.specs.Table.{Made, Mesh, Slot, Table}
use Rattle.model_heap.specs.TableLaws.{IsBusyTest}
use Rattle.model_heap.proofs.TableChanges.{begin_sound}
use Rattle.mesh_pagemap.specs.Entries.{Entries}
use Rattle.mesh_spans.specs.Changes.{with_flag, with_mesh}
use Rattle.mesh_spans.specs.Groups.{groups_of, is_closed}
use Rattle.mesh_spans.specs.Index.{GroupEntry, Index, group_at}
use Rattle.mesh_spans.proofs.FlagLemmas.{each_changed}
use Rattle.mesh_page_heap.specs.Indexes.{class_in, members_in, pages_in, slots_in, table_with}
use Rattle.mesh_page_heap.specs.PageHeapInvariant.{IsPageHeap}
use Rattle.mesh_page_heap.proofs.Changes.{SameGroups}
use Rattle.mesh_page_heap.proofs.PageHeapChanges.{page_heap_begin}

-- the index with the flag of one group changed
pub record Flags (old new : Index) (n : ℕ) (closed : Bool) : Type 0 where
  pub there : IsSome (group_at old.groups n)
  pub spans : new.spans ≡ old.spans
  pub groups : new.groups ≡ with_flag old.groups n closed

-- what is told of a group without its flag stays
pub flag_kept : {X : Type 0} (f : Option GroupEntry → X) → ((o : Option GroupEntry) (b : Bool) → f (option_map (with_mesh b) o) ≡ f o) → (old new : Index) (n : ℕ)
    (closed : Bool) → Flags old new n closed → (m : ℕ) → f (group_at new.groups m) ≡ f (group_at old.groups m)
flag_kept f blind old new n closed is m = ap (λ (gs : List (Option GroupEntry)). f (group_at gs m)) is.groups
    ∙ each_changed (λ o o'. f o' ≡ f o) old.groups n (with_mesh closed) (λ o. refl) (λ o. blind o closed) m

-- so its class, members and pages do
pub flag_same : (old new : Index) (n : ℕ) (closed : Bool) → Flags old new n closed → SameGroups old new
flag_same old new n closed is = grind (arith, flag_kept class_in, flag_kept members_in, flag_kept pages_in)

-- and its slots
pub flag_slots : (old new : Index) (n : ℕ) (closed : Bool) → Flags old new n closed → (m : ℕ) → slots_in (group_at new.groups m) ≡ slots_in (group_at old.groups m)
flag_slots old new n closed is =
    flag_kept slots_in (λ o b. elim o as (λ o. slots_in (option_map (with_mesh b) o) ≡ slots_in o) [ None ↦ refl | Some g ↦ refl ]) old new n closed is

-- and so they do over two such changes
pub same_twice : (a b c : Index) → SameGroups a b → SameGroups b c → SameGroups a c
same_twice a b c one two = grind arith

-- what a mesh that may begin makes of a table
begin_gives : (busy : Table → ℕ → Bool) (t : Table) (s d : ℕ) (pair : Pair) → may_begin busy t s d ≡ Ok pair → begin busy t s d ≡ Ok (record {
  count = step_count pair.source;
  table = record t { meshes = t.meshes ++ record { class = pair.source.class; source = s; destination = d; progress = Made 0 } ∷ [] };
})
begin_gives busy t s d pair may = rw may refl

-- the index with the two groups of a mesh closed
pub record Closes (old new : Index) (s d : ℕ) : Type 0 where
  pub same : SameGroups old new
  pub slots : (n : ℕ) → slots_in (group_at new.groups n) ≡ slots_in (group_at old.groups n)
  pub groups : groups_of new ≡ groups_of old
  pub closed : (n : ℕ) → is_closed new n ≡ (nat_eq n d || (nat_eq n s || is_closed old n))

-- what a mesh that begins comes to
pub record Begins (busy : Table → ℕ → Bool) (arena : Pages) (m : Entries) (old new : Index) (next : ℕ) (ms : List Mesh) (this : Mesh) (left : ℕ) : Type 0 where
  pub paged : IsPageHeap arena m new next (ms ++ this ∷ [])
  pub begun : begin busy (table_with arena old next ms) this.source this.destination
      ≡ Ok (record { count = left; table = table_with arena new next (ms ++ this ∷ []) })

pub page_heap_begins : (busy : Table → ℕ → Bool) (arena : Pages) (m : Entries) (old new : Index) (next : ℕ) (ms : List Mesh) (pair : Pair) (s d left : ℕ)
    → IsPageHeap arena m old next ms → IsBusyTest busy (table_with arena old next ms)
    → may_begin busy (table_with arena old next ms) s d ≡ Ok pair → Closes old new s d → step_count pair.source ≡ left
    → Begins busy arena m old new next ms (record { class = pair.source.class; source = s; destination = d; progress = Made 0 }) left
page_heap_begins busy arena m old new next ms pair s d left paged test may closes count =
    let t : Table = table_with arena old next ms in
    let this : Mesh = record { class = pair.source.class; source = s; destination = d; progress = Made 0 } in
    let begun : begin busy t s d ≡ Ok (record { count = left; table = table_with arena new next (ms ++ this ∷ []) })
    = begin_gives busy t s d pair may ∙ (rw (count, closes.groups, closes.same.spans) refl) in
    record {
      paged = page_heap_begin arena m old new next ms this paged closes.same
          (λ n k slot filled. sym (ap (λ (xs : List (Option Slot)). slice_index_or xs k None) (closes.slots n)) ∙ filled)
          (λ n. closes.closed n ∙ either s d n (is_closed old n)) refl
          (begin_sound busy t s d (record { count = left; table = table_with arena new next (ms ++ this ∷ []) }) test paged.sound begun);
      begun = begun;
    }
  where
    either : (s d n : ℕ) (c : Bool) → (nat_eq n d || (nat_eq n s || c)) ≡ (c || (nat_eq s n || nat_eq d n))
    either s d n true = grind (arith, nat_tests)
    either s d n false = grind (arith, nat_tests)
