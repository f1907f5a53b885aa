-- The state of a run's devices that contracts name.
use Rattle.std.specs.Prelude.{ℕ, Bool, List, Option}

-- what the input has left, and what the output and the error device took, each if known, and whether each of the three
-- has failed
pub record Seen : Type 0 where
  pub left : Option (List ℕ)
  pub written : Option (List ℕ)
  pub told : Option (List ℕ)
  pub input_failed : Bool
  pub output_failed : Bool
  pub errors_failed : Bool

-- the state of an input, an output and an error device: what the input has left, what the other two took, and whether
-- each has failed
abbrev pub seen : Option (List ℕ) → Option (List ℕ) → Option (List ℕ) → Bool → Bool → Bool → Seen
seen left written told input_failed output_failed errors_failed = record {
  left = left;
  written = written;
  told = told;
  input_failed = input_failed;
  output_failed = output_failed;
  errors_failed = errors_failed;
}
