-- The criteria of a verdict.
use Rattle.std.specs.Prelude.{map}
use Rattle.run_command_line.specs.Conditions.{ConditionTexts}
use Rattle.run_program.specs.declared.criteria.Criteria.{Criteria}

-- the texts of the conditions
abbrev pub condition_texts : Criteria → ConditionTexts
condition_texts criteria = record {
  never = map (λ text. text.now) criteria.never.now;
  always = map (λ text. text.now) criteria.always.now;
  exists = map (λ text. text.now) criteria.exists.now;
}
