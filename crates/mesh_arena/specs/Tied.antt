-- The invariant of an arena's pages and its counter of free pages.
use Rattle.std.specs.Prelude.{◌≡◌, ℕ, ◌≤◌, length}
use Rattle.mesh_arena.specs.Pages.{Pages, free_count}

-- there are at most 4,096 pages, and `free` of them are free
pub record IsTied (pages : Pages) (free : ℕ) : Type 0 where
  pub few : length pages ≤ 4096
  pub counted : free ≡ free_count pages
