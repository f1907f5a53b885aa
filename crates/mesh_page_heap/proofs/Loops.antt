-- A group's pages unmapped one after another, and its physical pages given back.
use Rattle.std.proofs.Common.{◌≡◌, ℕ, ◌+◌, ◌<◌, false, List, length, slice_index, arith}
use Rattle.mesh_arena.specs.Pages.{Gives, Pages}
use Rattle.mesh_class.specs.Classes.{pages_of}
use Rattle.mesh_pagemap.specs.Entries.{Entries, IsMapped, is_mapped, is_read_only, page_of}
use Rattle.mesh_page_heap.specs.Growth.{AreApart, GivesFirst}
use Rattle.mesh_page_heap.specs.Layout.{IsPageOf, Layout}
use Rattle.mesh_page_heap.specs.StepChanges.{GivesGroup}

-- the first k pages of the group are unmapped, and every other entry is as it was
pub record UnmapsFirst (l : Layout) (m m' : Entries) (g k : ℕ) : Type 0 where
  pub gone : (i v : ℕ) → i < k → IsPageOf l g i v → is_mapped m' v ≡ false
  pub none : (v : ℕ) → IsMapped m' v → IsMapped m v
  pub mapped : (v : ℕ) → ((i : ℕ) → i < k → IsPageOf l g i v → ⊥) → is_mapped m' v ≡ is_mapped m v
  pub pages : (v : ℕ) → ((i : ℕ) → i < k → IsPageOf l g i v → ⊥) → page_of m' v ≡ page_of m v
  pub locks : (v : ℕ) → ((i : ℕ) → i < k → IsPageOf l g i v → ⊥) → is_read_only m' v ≡ is_read_only m v

pub gives_group : (l : Layout) (arena arena' : Pages) (g : ℕ) (pages : List ℕ) → length pages ≡ pages_of (l.class g) → ((j : ℕ) → l.page g j ≡ slice_index pages j)
    → GivesFirst arena arena' pages (length pages) → GivesGroup l arena arena' g
gives_group l arena arena' g pages count are gives = grind arith

-- one page more given back
pub gives_more : (old mid new : Pages) (pages : List ℕ) (n page : ℕ) → AreApart pages → GivesFirst old mid pages n → n < length pages
    → slice_index pages n ≡ page → Gives mid new page → GivesFirst old new pages (n + 1)
gives_more old mid new pages n page apart were below at gives = grind arith
