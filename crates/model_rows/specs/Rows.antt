-- A worked example, written by tools/gen/rows.py: a file, and what it is replayed to.
use Rattle.std.specs.Prelude.{◌≡◌, ℕ, List, Result}
-- (the proofs of the examples open it, to compute what is written in decimal)
pub use Rattle.std.specs.Fmt.{digits}
use Rattle.model_jobs.specs.JobFiles.{replayed}
use Rattle.model_words.specs.declared.faults.TextFault.{TextFault}

-- a file, and its answer lines or its fault
pub record Row : Type 0 where
  pub file : List ℕ
  pub answer : Result (List ℕ) TextFault

-- the definitions replay the file to the answer
abbrev pub IsReplayed : Row → Type 0
IsReplayed row = replayed row.file ≡ row.answer
