-- The pages that frames represent: those of the frames that were made, followed by those of the frames that were not.
use Rattle.std.specs.Prelude.{◌≡◌, ℕ, ◌-◌, ◌<◌, ◌++◌, true, if◌then◌else◌, List, [], Option, Some, None, length, map, replicate, slice_index_or}
use Rattle.std.specs.List.{range_with_len}
use Rattle.std.specs.Ordering.{nat_cmp}
use Rattle.std.specs.FinSet as set
use Rattle.mesh_arena.specs.Pages.{Pages}

-- the page of a frame that was made: free if the frame was given back, otherwise the frame's bytes
abbrev pub page_at : List (List ℕ) → set.FinSet nat_cmp → ℕ → Option (List ℕ)
page_at made given p = if set.contains given p then None else Some (slice_index_or made p [])

-- the pages of the frames that were made
unfoldable pub made_pages : List (List ℕ) → set.FinSet nat_cmp → Pages
made_pages made given = map (page_at made given) (range_with_len 0 (length made))

-- these pages, followed by free pages for the frames that were not made, until there are `count` pages
unfoldable pub with_unmade : Pages → ℕ → Pages
with_unmade made count = made ++ replicate (count - length made) None

-- the pages of `count` frames
abbrev pub pages_of : List (List ℕ) → set.FinSet nat_cmp → ℕ → Pages
pages_of made given count = with_unmade (made_pages made given) count

-- only frames that were made are given back
pub record AreMade (made : List (List ℕ)) (given : set.FinSet nat_cmp) : Type 0 where
  pub within : (p : ℕ) → set.contains given p ≡ true → p < length made
