-- What each step changes.
use Rattle.std.specs.Prelude.{◌≡◌, ◌≢◌, ℕ, ◌+◌, ◌*◌, ◌/◌, ◌%◌, ◌<◌, ◌≤◌, true, false, length, List, Option, None, Some, slice_index}
use Rattle.model_heap.specs.Mesh.{either_slot}
use Rattle.mesh_arena.specs.Pages.{Gives, Pages, byte_at, free_count, is_taken}
use Rattle.model_heap.specs.Table.{Slot}
use Rattle.mesh_class.specs.Classes.{pages_of}
use Rattle.model_words.specs.declared.commands.StepKind.{StepKind}
use Rattle.model_words.specs.declared.commands.StepKind.TheVariants.{Copy, Protect, Release, Remap, Unprotect}
use Rattle.mesh_pagemap.specs.Entries.{Entries, IsMapped, Protects, Remaps, is_mapped, is_read_only, page_of, prot_of}
use Rattle.mesh_page_heap.specs.Layout.{IsLiveAt, IsPageOf, Layout, Stage, byte_in, virtual_page}

-- the mesh from group `n` is now at stage `c`, and every other stage is unchanged
pub record Moves (f f' : ℕ → Stage) (n : ℕ) (c : Stage) : Type 0 where
  pub here : f' n ≡ c
  pub others : (m : ℕ) → m ≢ n → f' m ≡ f m

-- `len` bytes from offset `from` on are copied from the source's pages to the destination's, and no other byte changes
pub record Copies (l : Layout) (old new : Pages) (source destination from len : ℕ) : Type 0 where
  pub inside : (x : ℕ) → from ≤ x → x < from + len → byte_in l new destination x ≡ byte_in l old source x
  pub outside : (p o : ℕ) → ((x : ℕ) → from ≤ x → x < from + len → l.page destination (x / 4096) ≡ p → x % 4096 ≡ o → ⊥)
      → byte_at new p o ≡ byte_at old p o
  pub same_taken : (p : ℕ) → is_taken new p ≡ is_taken old p
  pub same_length : length new ≡ length old

-- the object of a slot is copied, if there is one
abbrev pub CopiesSlot : Layout → Pages → Pages → ℕ → ℕ → ℕ → Option Slot → Type 0
CopiesSlot l old new source destination k None = new ≡ old
CopiesSlot l old new source destination k (Some slot) =
    Copies l old new source destination (k * l.class source) slot.len × (free_count new ≡ free_count old)

-- what step number `i` of a kind changes in arena and page map
abbrev pub Makes : Layout → StepKind → ℕ → ℕ → ℕ → Pages → Pages → Entries → Entries → Type 0
Makes l Protect source destination i arena arena' m m' = (arena' ≡ arena) × Protects m m' (virtual_page l source i) (prot_of true)
Makes l Copy source destination k arena arena' m m' = (m' ≡ m) × CopiesSlot l arena arena' source destination k (l.slot source k)
Makes l Remap source destination i arena arena' m m' =
    (arena' ≡ arena) × Remaps m m' (virtual_page l source i) (l.page destination (i % pages_of (l.class source)))
Makes l Unprotect source destination i arena arena' m m' = (arena' ≡ arena) × Protects m m' (virtual_page l source i) (prot_of false)
Makes l Release source destination j arena arena' m m' = (m' ≡ m) × Gives arena arena' (l.page source j)

-- after `made` steps, the next one is number `i` of its kind, in a mesh of `total` virtual pages, `slots` slots and
-- `pages` physical pages
abbrev pub IsStepAt : ℕ → ℕ → ℕ → ℕ → StepKind → ℕ → Type 0
IsStepAt total slots pages made Protect i = (made ≡ i) × (i < total)
IsStepAt total slots pages made Copy k = (made ≡ total + k) × (k < slots)
IsStepAt total slots pages made Remap i = (made ≡ total + slots + i) × (i < total)
IsStepAt total slots pages made Unprotect i = (made ≡ 2 * total + slots + i) × (i < total)
IsStepAt total slots pages made Release j = (made ≡ 3 * total + slots + j) × (j < pages)

-- each byte of a live object is unchanged, and the number of physical pages is unchanged
pub record Keeps (l : Layout) (arena arena' : Pages) (m m' : Entries) : Type 0 where
  pub each : (n k o x : ℕ) (slot : Slot) → IsLiveAt l n k o x slot
      → byte_at arena' (page_of m' (x / 4096)) (x % 4096) ≡ byte_at arena (page_of m (x / 4096)) (x % 4096)
  pub same_length : length arena' ≡ length arena

-- the source's members follow the destination's, the destination has the objects of both, and the source is no group
-- any more. Other groups are unchanged
pub record Merges (l l' : Layout) (s d : ℕ) : Type 0 where
  pub class : (n : ℕ) → n ≢ s → l'.class n ≡ l.class n
  pub members : (n : ℕ) → n ≢ s → n ≢ d → l'.members n ≡ l.members n
  pub gone : l'.members s ≡ 0
  pub more : l'.members d ≡ l.members d + l.members s
  pub first : (n place : ℕ) → n ≢ s → n ≢ d → l'.first n place ≡ l.first n place
  pub front : (place : ℕ) → place < l.members d → l'.first d place ≡ l.first d place
  pub back : (place : ℕ) → place < l.members s → l'.first d (l.members d + place) ≡ l.first s place
  pub page : (n j : ℕ) → n ≢ s → l'.page n j ≡ l.page n j
  pub slot : (n k : ℕ) → n ≢ s → n ≢ d → l'.slot n k ≡ l.slot n k
  pub no_slot : (k : ℕ) → l'.slot s k ≡ None
  pub united : (k : ℕ) → l'.slot d k ≡ either_slot (l.slot d k) (l.slot s k)

-- group `g` is new: it has one span of the class at virtual page `next`, no object, and these physical pages. Other
-- groups are unchanged
pub record Grows (l l' : Layout) (g size next : ℕ) (pages : List ℕ) : Type 0 where
  pub none : l.members g ≡ 0
  pub class_is : l'.class g ≡ size
  pub one : l'.members g ≡ 1
  pub at : l'.first g 0 ≡ next
  pub pages_are : (j : ℕ) → l'.page g j ≡ slice_index pages j
  pub empty : (k : ℕ) → l'.slot g k ≡ None
  pub class : (n : ℕ) → n ≢ g → l'.class n ≡ l.class n
  pub members : (n : ℕ) → n ≢ g → l'.members n ≡ l.members n
  pub first : (n place : ℕ) → n ≢ g → place < l.members n → l'.first n place ≡ l.first n place
  pub page : (n j : ℕ) → n ≢ g → l'.page n j ≡ l.page n j
  pub slot : (n k : ℕ) → n ≢ g → l'.slot n k ≡ l.slot n k

-- group `g` is no group any more, and other groups are unchanged
pub record Drops (l l' : Layout) (g : ℕ) : Type 0 where
  pub gone : l'.members g ≡ 0
  pub no_slot : (k : ℕ) → l'.slot g k ≡ None
  pub class : (n : ℕ) → n ≢ g → l'.class n ≡ l.class n
  pub members : (n : ℕ) → n ≢ g → l'.members n ≡ l.members n
  pub first : (n place : ℕ) → n ≢ g → l'.first n place ≡ l.first n place
  pub page : (n j : ℕ) → n ≢ g → l'.page n j ≡ l.page n j
  pub slot : (n k : ℕ) → n ≢ g → l'.slot n k ≡ l.slot n k

-- no page of the group is mapped any more, and every other entry is unchanged
pub record UnmapsGroup (l : Layout) (m m' : Entries) (g : ℕ) : Type 0 where
  pub gone : (i v : ℕ) → IsPageOf l g i v → is_mapped m' v ≡ false
  pub none : (v : ℕ) → IsMapped m' v → IsMapped m v
  pub mapped : (v : ℕ) → ((i : ℕ) → IsPageOf l g i v → ⊥) → is_mapped m' v ≡ is_mapped m v
  pub pages : (v : ℕ) → ((i : ℕ) → IsPageOf l g i v → ⊥) → page_of m' v ≡ page_of m v
  pub locks : (v : ℕ) → ((i : ℕ) → IsPageOf l g i v → ⊥) → is_read_only m' v ≡ is_read_only m v

-- every physical page that isn't one of the group's is unchanged
pub record GivesGroup (l : Layout) (arena arena' : Pages) (g : ℕ) : Type 0 where
  pub kept : (p : ℕ) → ((j : ℕ) → j < pages_of (l.class g) → l.page g j ≢ p) → is_taken arena' p ≡ is_taken arena p
  pub bytes : (p o : ℕ) → ((j : ℕ) → j < pages_of (l.class g) → l.page g j ≢ p) → byte_at arena' p o ≡ byte_at arena p o
  pub same_length : length arena' ≡ length arena
