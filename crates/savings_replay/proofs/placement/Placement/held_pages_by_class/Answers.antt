use Rattle.std.proofs.Common.{◌≡◌, ℕ, ◌≤◌, List, map, ap, subst, sym, ◌∙◌}
use Rattle.std.specs.List.{All}
use Rattle.model_words.specs.Classes.{table}
use Rattle.savings_replay.proofs.ClassBounds.{held_by_class, held_pages_few, rows_few}
use Rattle.savings_replay.proofs.Kept.{seen_of}
use Rattle.savings_replay.specs.ClassCounts.{held_pages}
use Rattle.savings_replay.specs.Placement.{Placement, table_of}
use Rattle.savings_replay.proofs.placement.Placement.held_pages_by_class.Goals as goal
use Rattle.savings_replay.proofs.placement.Placement.held_pages_by_class.Goals.{After-by_class}

-- the counts that are kept
counts : (c : After-by_class) → c.by_class.result.now ≡ map (λ row. held_pages (table_of (seen_of c.self.inside)) row.size) table
counts c = c.by_class.ensures ∙ c.self.invariant.1.pages ∙ held_by_class (seen_of c.self.inside)

pub returns-clause-value : goal.returns-clause-value
returns-clause-value c = counts c ∙ ap (λ (p : Placement). map (λ row. held_pages (table_of p) row.size) table) c.self.view_is

pub returns-clause-few : goal.returns-clause-few
returns-clause-few c = subst (λ (xs : List ℕ). All (λ n. n ≤ 65538) xs) (sym (counts c))
    (rows_few (held_pages (table_of (seen_of c.self.inside))) 65538 table (λ class. held_pages_few (seen_of c.self.inside) class c.self.invariant.0))
