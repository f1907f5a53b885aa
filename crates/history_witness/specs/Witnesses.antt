-- What a witness of a wrong answer is.
use Rattle.std.specs.Prelude.{◌≡◌, ℕ, ◌+◌, ◌<◌, Bool, true, List, Option, Some, length}
use Rattle.model_intervals.specs.Intervals.{Call}
use Rattle.history_overlaps.specs.Checks.{AreFirstCalls, HasJudged, IsUnexplainedText}
use Rattle.history_overlaps.specs.declared.flaws.Flaw.{Flaw}
use Rattle.history_overlaps.specs.declared.verdicts.CallVerdict.TheVariants.{Flawed}
use Rattle.history_witness.specs.Slices.{IsSlice}
use Rattle.history_witness.specs.TakenLines.{taken_below, taken_text}

-- the judge, which allows `most` configurations, finds that the call in this line of the text is the first wrong one.
-- No order explains the text's calls
pub record IsRefuted (text : List ℕ) (line : ℕ) : Type 0 where
  pub most : ℕ
  pub flaw : Flaw
  pub left : Option (List ℕ)
  pub judged : HasJudged most (Some text) left (Flawed line flaw)
  pub unexplained : IsUnexplainedText text

-- a witness for the call in this line of a text: the text's first line, and the lines of a slice of the text's first
-- calls. The call is one of the slice, and it is wrong among them
pub record IsWitness (text : List ℕ) (line : ℕ) (witness : List ℕ) : Type 0 where
  pub calls : List Call
  pub taken : ℕ → Bool
  pub first : AreFirstCalls calls text
  pub within : (i : ℕ) → taken i ≡ true → i < length calls
  pub slice : IsSlice calls taken
  pub lines : witness ≡ taken_text text taken
  pub number : ℕ
  pub in_line : line ≡ number + 2
  pub has_wrong : taken number ≡ true
  pub refuted : IsRefuted witness (taken_below taken number + 2)
