use Rattle.std.proofs.Common.{◌≡◌, ◌++◌, length}
use Rattle.explore_verdict.specs.Answers.{answers_from, answers_of}
use Rattle.explore_verdict.specs.ListingLines.{lines_of}
use Rattle.explore_verdict.proofs.answers.answers.Given as goal

abbrev pub invariant-loop-line : goal.invariant-loop-line
invariant-loop-line l = l.read.done.items ++ answers_from l.read.begun (lines_of l.rest) ≡ answers_of l.text

abbrev pub decreases-loop-line : goal.decreases-loop-line
decreases-loop-line l = length l.rest
