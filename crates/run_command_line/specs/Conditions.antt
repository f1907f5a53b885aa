-- The conditions of a verdict.
use Rattle.std.specs.Prelude.{◌==◌, ◌||◌, ℕ, Bool, List, [], length, map, not, take}
use Rattle.run_command_line.specs.declared.conditions.Conditions.{Conditions}
use Rattle.run_command_line.specs.declared.texts.Texts.{Texts}

-- the texts in the order given
abbrev pub texts_of : Texts → List (List ℕ)
texts_of list = map (λ text. text.now) (take list.count list.texts)

-- the texts of the conditions that no outcome may match, that each must match, and that some must match
pub record ConditionTexts : Type 0 where
  pub never : List (List ℕ)
  pub always : List (List ℕ)
  pub exists : List (List ℕ)

-- the texts of these conditions
abbrev pub conditions_of : Conditions → ConditionTexts
conditions_of conditions = record { never = texts_of conditions.never; always = texts_of conditions.always; exists = texts_of conditions.exists }

-- no condition
abbrev pub no_condition : ConditionTexts
no_condition = record { never = []; always = []; exists = [] }

-- whether there is a condition
abbrev pub has_condition : ConditionTexts → Bool
has_condition texts = not (length texts.never == 0) || (not (length texts.always == 0) || not (length texts.exists == 0))
