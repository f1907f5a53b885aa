use Rattle.std.proofs.Common.{refl, arith}
use Rattle.model_memory.proofs.read_laws.reads_are_told.Goals as goal

pub returns-clause-strange : goal.returns-clause-strange
returns-clause-strange c = record {
  right_below = λ v below. absurd (omega (arith, below));
  right_before = λ k below. absurd (omega (arith, below));
  wrong = λ right. let no = (right _ 1 refl refl).0 in absurd (cc no);
}

pub returns-clause-recorded : goal.returns-clause-recorded
returns-clause-recorded c = grind arith

pub returns-clause-entry : goal.returns-clause-entry
returns-clause-entry c = grind arith

pub returns-clause-three : goal.returns-clause-three
returns-clause-three c = (refl, refl, refl)

pub returns-clause-lower : goal.returns-clause-lower
returns-clause-lower c = refl

pub returns-clause-places : goal.returns-clause-places
returns-clause-places c = (refl, refl, refl, refl)
