-- `AreCounted` holds after every transition: each physical page is free, or is in a group's span and not released.
use Rattle.std.specs.Prelude.{◌≡◌, ℕ, ◌+◌, ◌-◌, ◌≤◌, Bool, Ok, find}
use Rattle.model_heap.specs.Mesh.{Stepped, begin, cancel, mesh_whole, step}
use Rattle.model_heap.specs.PageCounts.{AreCounted, released_pages, span_pages}
use Rattle.model_heap.specs.Sound.{IsSound}
use Rattle.model_heap.specs.Table.{Counted, Mesh, Placed, Table, empty_table, mapped_count, place_new, sweep, without_object}
use Rattle.model_heap.specs.TableLaws.{IsBusyTest}

-- `AreCounted` holds for the table with no span, in which all pages are free
abbrev pub EmptyIsCounted : Type 0
EmptyIsCounted = (pages : ℕ) → AreCounted pages (empty_table pages)

-- if `AreCounted` holds for a sound table, it holds after a new object
abbrev pub NewKeepsCount : Type 0
NewKeepsCount = (pages : ℕ) (t : Table) (len word serial : ℕ) (placed : Placed) → IsSound t → AreCounted pages t → place_new t len word serial ≡ Ok placed
    → AreCounted pages placed.table

-- if `AreCounted` holds, it holds after an object is freed
abbrev pub FreeKeepsCount : Type 0
FreeKeepsCount = (pages : ℕ) (t : Table) (serial : ℕ) → AreCounted pages t → AreCounted pages (without_object t serial)

-- if `AreCounted` holds for a sound table, it holds after a sweep
abbrev pub SweepKeepsCount : Type 0
SweepKeepsCount = (pages : ℕ) (t : Table) (n : ℕ) (swept : Counted) → IsSound t → AreCounted pages t → sweep t n ≡ Ok swept
    → AreCounted pages swept.table

-- if `AreCounted` holds, it holds after `begin`
abbrev pub BeginKeepsCount : Type 0
BeginKeepsCount = (pages : ℕ) (busy : Table → ℕ → Bool) (t : Table) (source destination : ℕ) (begun : Counted) → AreCounted pages t
    → begin busy t source destination ≡ Ok begun → AreCounted pages begun.table

-- if `AreCounted` holds for a sound table with a test of busy classes, it holds after a whole mesh
abbrev pub WholeKeepsCount : Type 0
WholeKeepsCount = (pages : ℕ) (busy : Table → ℕ → Bool) (t : Table) (source destination : ℕ) (whole : Counted) → IsBusyTest busy t → IsSound t
    → AreCounted pages t → mesh_whole busy t source destination ≡ Ok whole → AreCounted pages whole.table

-- if `AreCounted` holds for a sound table, it holds after a step of the first mesh that passes any test
abbrev pub StepKeepsCount : Type 0
StepKeepsCount = (pages : ℕ) (t : Table) (test : Mesh → Bool) (stepped : Stepped) → IsSound t → AreCounted pages t
    → step t (find test t.meshes) ≡ Ok stepped → AreCounted pages stepped.table

-- if `AreCounted` holds for a sound table, it holds after a cancel of the first mesh that passes any test
abbrev pub CancelKeepsCount : Type 0
CancelKeepsCount = (pages : ℕ) (t : Table) (test : Mesh → Bool) (cancelled : Counted) → IsSound t → AreCounted pages t
    → cancel t (find test t.meshes) ≡ Ok cancelled → AreCounted pages cancelled.table

-- a sweep returns how many pages it frees
abbrev pub SweepAnswersPages : Type 0
SweepAnswersPages = (t : Table) (n : ℕ) (swept : Counted) → sweep t n ≡ Ok swept → swept.table.free_pages ≡ t.free_pages + swept.count

-- a whole mesh returns how many pages it frees
abbrev pub WholeAnswersPages : Type 0
WholeAnswersPages = (busy : Table → ℕ → Bool) (t : Table) (source destination : ℕ) (whole : Counted)
    → mesh_whole busy t source destination ≡ Ok whole → whole.table.free_pages ≡ t.free_pages + whole.count

-- if `AreCounted` holds for a sound table, meshes have released at most the pages of all spans, and at most all `pages`
-- are free
abbrev pub FreeIsWithin : Type 0
FreeIsWithin = (pages : ℕ) (t : Table) → IsSound t → AreCounted pages t → (released_pages t ≤ span_pages t) × (t.free_pages ≤ pages)

-- if `AreCounted` holds for a sound table, the number of taken physical pages is at most the number of mapped virtual
-- pages
abbrev pub TakenIsMapped : Type 0
TakenIsMapped = (pages : ℕ) (t : Table) → IsSound t → AreCounted pages t → pages - t.free_pages ≤ mapped_count t
