-- The conditions that the texts of a command line spell. This project's own choice.
use Rattle.std.specs.Prelude.{◌≡◌, ℕ, ◌+◌, List, [], ◌∷◌, ◌++◌, Option, Some, None, map, option_map}
use Rattle.std.specs.Option.{option_or}
use Rattle.std.specs.Borrow.{Bor}
use Rattle.explore_report.specs.Errors.{refused}
use Rattle.explore_verdict.specs.Patterns.{Wanted as Pattern, pattern_of}
use Rattle.explore_verdict.specs.declared.condition.Condition.{Condition}
use Rattle.explore_verdict.specs.declared.condition.Demand.{Demand}
use Rattle.explore_verdict.specs.declared.condition.Demand.TheVariants.{Never, Always, Exists}
use Rattle.run_program.specs.declared.criteria.Criteria.{Criteria}
use Rattle.run_program.specs.declared.verdict_error.VerdictError.{VerdictError}
use Rattle.run_program.specs.declared.verdict_error.VerdictError.TheVariants.{Explore, NoList, NoCondition, Unmatched}

-- the texts that are lent
abbrev pub texts_of : List (Bor (List ℕ)) → List (List ℕ)
texts_of texts = map (λ text. text.now) texts

-- the condition of a demand with this number and this pattern
abbrev pub condition : Demand → ℕ → Pattern → Condition
condition demand number pattern = record { demand = demand; number = number; pattern = pattern }

-- for each text, the condition that it spells, if it spells one. The first has this number
abbrev pub spelt : Demand → ℕ → List (List ℕ) → List (Option Condition)
spelt demand number [] = []
spelt demand number (text ∷ texts) = option_map (condition demand number) (pattern_of text) ∷ spelt demand (number + 1) texts

-- the conditions are those of the criteria's texts, all that no outcome may match, then all that each must match, then
-- all that some must match
abbrev pub AreSpelt : Criteria → List Condition → Type 0
AreSpelt criteria conditions =
    map Some conditions
    ≡ (spelt Never 1 (texts_of criteria.never.now) ++ spelt Always 1 (texts_of criteria.always.now)) ++ spelt Exists 1 (texts_of criteria.exists.now)

-- the number, if the pattern is none
abbrev pub unspelt_at : ℕ → Option Pattern → Option ℕ
unspelt_at number None = Some number
unspelt_at number (Some pattern) = None

-- the number of the first text that spells no condition. The first text has this number
abbrev pub unspelt_from : ℕ → List (List ℕ) → Option ℕ
unspelt_from number [] = None
unspelt_from number (text ∷ texts) = option_or (unspelt_at number (pattern_of text)) (unspelt_from (number + 1) texts)

-- why texts don't all spell conditions of a demand: an allocation failed, or this text is the first that spells none
abbrev pub IsUnspeltOf : Demand → List (List ℕ) → VerdictError → Type 0
IsUnspeltOf demand texts (Explore error) = error ≡ refused
IsUnspeltOf demand texts (NoCondition other number) = (other ≡ demand) × (unspelt_from 1 texts ≡ Some number)
IsUnspeltOf demand texts (Unmatched condition) = ⊥
IsUnspeltOf demand texts (NoList fault) = ⊥

-- a number with its demand
abbrev pub demanded : Demand → Option ℕ → Option (Demand × ℕ)
demanded demand number = option_map (λ n. (demand, n)) number

-- the first text of the criteria that spells no condition: its demand, and its number among the texts of this demand
abbrev pub unspelt : Criteria → Option (Demand × ℕ)
unspelt criteria =
    option_or (demanded Never (unspelt_from 1 (texts_of criteria.never.now)))
    (option_or (demanded Always (unspelt_from 1 (texts_of criteria.always.now))) (demanded Exists (unspelt_from 1 (texts_of criteria.exists.now))))

-- why the texts of the criteria don't all spell conditions
abbrev pub IsUnspelt : Criteria → VerdictError → Type 0
IsUnspelt criteria (Explore error) = error ≡ refused
IsUnspelt criteria (NoCondition demand number) = unspelt criteria ≡ Some (demand, number)
IsUnspelt criteria (Unmatched condition) = ⊥
IsUnspelt criteria (NoList fault) = ⊥
