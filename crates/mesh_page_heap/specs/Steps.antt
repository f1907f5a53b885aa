-- The conditions under which a step of a mesh can be made.
use Rattle.std.specs.Prelude.{◌≡◌, ◌≢◌, ℕ, ◌<◌}
use Rattle.mesh_arena.specs.Pages.{IsTaken, Pages}
use Rattle.mesh_class.specs.Classes.{IsClass, pages_of, slots_of}
use Rattle.model_words.specs.declared.commands.StepKind.{StepKind}
use Rattle.model_words.specs.declared.commands.StepKind.TheVariants.{Copy, Protect, Release, Remap, Unprotect}
use Rattle.mesh_pagemap.specs.Entries.{Entries, IsMapped}
use Rattle.mesh_page_heap.specs.Layout.{Layout, page_total, virtual_page}

-- two groups of one class have their physical pages, and these are taken. The destination's pages are all different,
-- and none of them is a page of the source
pub record HaveBothPages (l : Layout) (arena : Pages) (source destination : ℕ) : Type 0 where
  pub source_is : 0 < l.members source
  pub destination_is : 0 < l.members destination
  pub same_class : l.class destination ≡ l.class source
  pub from : (j : ℕ) → j < pages_of (l.class source) → IsTaken arena (l.page source j)
  pub into : (j : ℕ) → j < pages_of (l.class source) → IsTaken arena (l.page destination j)
  pub apart : (i j : ℕ) → i < pages_of (l.class source) → j < pages_of (l.class source) → l.page destination i ≢ l.page source j
  pub once : (i j : ℕ) → i < pages_of (l.class source) → j < pages_of (l.class source) → l.page destination i ≡ l.page destination j → i ≡ j

-- slot `k` of the source can be copied
pub record CanCopy (l : Layout) (arena : Pages) (source destination k : ℕ) : Type 0 where
  pub pages : HaveBothPages l arena source destination
  pub class : IsClass (l.class source)
  pub below : k < slots_of (l.class source)

-- the source has a virtual page `i`, and it is mapped
pub record HasPage (l : Layout) (m : Entries) (source i : ℕ) : Type 0 where
  pub within : i < page_total l source
  pub mapped : IsMapped m (virtual_page l source i)

-- step number `i` of a kind can be made
abbrev pub IsReady : Layout → StepKind → ℕ → ℕ → ℕ → Pages → Entries → Type 0
IsReady l Protect source destination i arena m = HasPage l m source i
IsReady l Copy source destination k arena m = CanCopy l arena source destination k
IsReady l Remap source destination i arena m =
    HasPage l m source i × (0 < l.members source) × (0 < l.members destination) × (l.class destination ≡ l.class source)
IsReady l Unprotect source destination i arena m = HasPage l m source i
IsReady l Release source destination j arena m = (0 < l.members source) × (j < pages_of (l.class source)) × IsTaken arena (l.page source j)
