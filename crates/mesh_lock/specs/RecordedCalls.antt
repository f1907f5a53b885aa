-- The calls of a seat from the first recorded call on.
use Rattle.std.specs.Prelude.{◌≡◌, List, ◌∷◌, None}
use Rattle.model_memory.specs.Reads.{Kept, recorded}

-- `rest` has all recorded calls of `calls`, and its first call, if there is one, is recorded
pub record IsRecordedFirst (calls rest : List Kept) : Type 0 where
  pub same : recorded rest ≡ recorded calls
  pub first : (kept : Kept) (tail : List Kept) → rest ≡ kept ∷ tail → kept.seen ≡ None
