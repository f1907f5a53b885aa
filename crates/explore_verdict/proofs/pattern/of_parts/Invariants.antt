use Rattle.std.proofs.Common.{◌≡◌, ◌++◌, List, length, option_map}
use Rattle.explore_verdict.specs.Patterns.{Clause, clauses_of, parts_of}
use Rattle.explore_verdict.proofs.pattern.of_parts.Given as goal

abbrev pub invariant-loop-part : goal.invariant-loop-part
invariant-loop-part l = clauses_of (parts_of l.text) ≡ option_map (λ (more : List Clause). l.clauses.items ++ more) (clauses_of (parts_of l.rest))

abbrev pub decreases-loop-part : goal.decreases-loop-part
decreases-loop-part l = length l.rest
