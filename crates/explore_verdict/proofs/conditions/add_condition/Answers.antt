use Rattle.std.proofs.Common.{rules, ◌≡◌, ◌∷◌, [], Bool, List, ℕ, if◌then◌else◌, subst}
use Rattle.explore_verdict.specs.Conditions.{condition_line, example_from, example_pieces, holds}
use Rattle.explore_verdict.specs.Pieces.{HasWritten, plain}
use Rattle.explore_verdict.proofs.Runs.{has_both, has_plain}
use Rattle.explore_verdict.proofs.conditions.add_condition.Goals as goal
use Rattle.explore_report.specs.OutcomeTexts.{printed_order}

pub returns-clause-written : goal.returns-clause-written
returns-clause-written c =
    let reached = c.args.reached.now in let x = reached.system.setting in let states = reached.system.states in
    let outcomes = c.args.outcomes.now in let condition = c.args.condition.now in
    let old = c.args.text.now.items in let middle = c.add_line.new.text.items in let new = c.add_example.new.text.items in
    let met : c.is_met-holds.result ≡ holds states outcomes condition = search rules in
    let shown : HasWritten x reached (if c.is_met-holds.result then [] else example_pieces (example_from states outcomes condition 0 (printed_order states outcomes)))
    middle new =
    subst (λ (order : List ℕ). HasWritten x reached (if c.is_met-holds.result then [] else example_pieces (example_from states outcomes condition 0 order)) middle new)
    c.requires c.in_ok-add_example.ensures in
    has_both x reached (plain (condition_line states outcomes condition) ∷ [])
    (if holds states outcomes condition then [] else example_pieces (example_from states outcomes condition 0 (printed_order states outcomes))) old middle new
    (has_plain x reached old middle (condition_line states outcomes condition) (c.in_ok-add_line.ensures c.in_ok-count.ensures))
    (subst (λ (h : Bool). HasWritten x reached (if h then [] else example_pieces (example_from states outcomes condition 0 (printed_order states outcomes))) middle new)
    met shown)
