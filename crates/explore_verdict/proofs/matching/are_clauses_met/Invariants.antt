use Rattle.std.proofs.Common.{◌≡◌, take, true}
use Rattle.std.specs.List.{list_all}
use Rattle.explore_verdict.specs.Patterns.{is_clause_met}
use Rattle.explore_verdict.proofs.matching.are_clauses_met.Given as goal

abbrev pub invariant-loop-clause : goal.invariant-loop-clause
invariant-loop-clause l = list_all (is_clause_met l.told) (take l.clause-index l.clauses) ≡ true
