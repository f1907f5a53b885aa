-- Which part of a round was asked for.
use Rattle.std.specs.Prelude.{◌≡◌, ℕ, ◌+◌, ◌-◌, ◌<◌, Result, List, IfOk, slice_index_or}
use Rattle.std.specs.declared.alloc.AllocError.{AllocError}
use Rattle.mesh_search.specs.Views.{part_start}
use Rattle.mesh_search.specs.declared.parallel.Part.{Part}

-- the part names this round, this first try and this number of tries
abbrev pub IsAsked : ℕ → ℕ → ℕ → Part → Type 0
IsAsked round first count part = (part.round ≡ round) × (part.first ≡ first) × (part.count ≡ count)

-- if part `k` was made, it is the k-th of the `workers` parts into which the tries of the round are divided
abbrev pub AreAsked : ℕ → ℕ → ℕ → List (Result Part AllocError) → Type 0
AreAsked round tries workers made =
    (k : ℕ) (d : Result Part AllocError) → k < workers
    → IfOk (slice_index_or made k d) (IsAsked round (part_start tries workers k) (part_start tries workers (k + 1) - part_start tries workers k))
