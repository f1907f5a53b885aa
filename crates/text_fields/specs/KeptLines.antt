-- The bytes of a line that are kept until the line's end is read.
use Rattle.std.specs.Prelude.{◌≡◌, ℕ, false, if◌then◌else◌, nat_eq, nat_lt, List, length, take}
use Rattle.std.specs.List.{All}
use Rattle.model_words.specs.declared.faults.FaultKind.{FaultKind}
use Rattle.model_words.specs.declared.faults.FaultKind.TheVariants.{Cut, LongLine}

-- none of the bytes is a line end
abbrev pub IsUnended : List ℕ → Type 0
IsUnended bytes = All (λ b. nat_eq b 10 ≡ false) bytes

-- the kept bytes are the first 1025 bytes of a line that has begun, or all of its bytes if there are fewer: enough to
-- detect that the line is too long
pub record IsKept (kept begun : List ℕ) : Type 0 where
  pub front : kept ≡ take 1025 begun
  pub unended : IsUnended begun

-- the fault of the bytes after the last line end: `LongLine` if there are more than `most`, otherwise `Cut`
abbrev pub rest_fault : ℕ → List ℕ → FaultKind
rest_fault most rest = if nat_lt most (length rest) then LongLine else Cut
