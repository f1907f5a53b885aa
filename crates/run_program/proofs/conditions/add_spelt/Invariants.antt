use Rattle.std.proofs.Common.{◌≡◌, ◌+◌, ◌++◌, ◌≤◌, Some, length, map}
use Rattle.run_program.specs.Conditions.{spelt, texts_of, unspelt_from}
use Rattle.run_program.proofs.conditions.add_spelt.Given as goal

abbrev pub invariant-loop-rest : goal.invariant-loop-rest
invariant-loop-rest l = record {
  spelt : map Some l.conditions.items ++ spelt l.demand l.number (texts_of l.rest) ≡ map Some l.initial.conditions.items ++ spelt l.demand 1 (texts_of l.texts);
  first : unspelt_from l.number (texts_of l.rest) ≡ unspelt_from 1 (texts_of l.texts);
  few : l.number + length l.rest ≤ 11;
}

abbrev pub decreases-loop-rest : goal.decreases-loop-rest
decreases-loop-rest l = length l.rest
