-- Runs of bytes that are kept in one list, each at its own place.
use Rattle.std.specs.Prelude.{◌≡◌, ℕ, ◌+◌, ◌^◌, ◌<◌, ◌≤◌, List, ◌++◌, Vec, length, slice_range, vec_capacity, vec_len}
use Rattle.std.specs.Global.{Global}
use Rattle.arrayvec.specs.ArrayVec.{ArrayVec}
use Rattle.mesh_packed.specs.declared.run.Run.{Run}

-- the bytes of a run
abbrev pub run_in : List ℕ → Run → ArrayVec ℕ
run_in kept run = record { items = slice_range kept run.place (run.place + run.len) }

-- the run is within the first `count` bytes and has at most 32 bytes
pub record IsRunWithin (count : ℕ) (run : Run) : Type 0 where
  pub ends : run.place + run.len ≤ count
  pub few : run.len ≤ 32

-- no kept run of at most 32 bytes changes, and at most 32 bytes are added
pub record KeepsAll (kept kept' : List ℕ) : Type 0 where
  pub runs : (run : Run) → IsRunWithin (length kept) run → run_in kept' run ≡ run_in kept run
  pub more : length kept ≤ length kept'
  pub few : length kept' ≤ length kept + 32

-- there is room for 32 more bytes, and fewer than 2^32 bytes are kept
pub record HasRoom (kept : Vec ℕ Global) : Type 0 where
  pub room : vec_len kept + 32 ≤ vec_capacity kept
  pub few : vec_len kept < 2 ^ 32

-- the bytes of `kept` are kept as in `KeepsAll`, and the capacity did not shrink
pub record IsKeptOn (kept kept' : Vec ℕ Global) : Type 0 where
  pub all : KeepsAll kept.items kept'.items
  pub capacity : vec_capacity kept ≤ vec_capacity kept'
