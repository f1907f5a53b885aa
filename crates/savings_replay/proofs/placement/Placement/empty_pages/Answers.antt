use Rattle.std.proofs.Common.{◌≡◌, ◌+◌, arith, sum, ◌∙◌}
use Rattle.savings_replay.proofs.ClassBounds.{held_by_class}
use Rattle.savings_replay.proofs.HeldPages.{held_within, left_empty, taken_is}
use Rattle.savings_replay.proofs.Kept.{seen_of}
use Rattle.savings_replay.specs.ClassCounts.{empty_pages}
use Rattle.savings_replay.specs.Placement.{table_of}
use Rattle.savings_replay.proofs.placement.Placement.empty_pages.Goals as goal
use Rattle.savings_replay.proofs.placement.Placement.empty_pages.Goals.{After-self}

-- the pages that are taken and not held
left : (c : After-self) → c.self.inside.taken_pages ≡ sum c.self.inside.held_pages.counts + empty_pages (table_of (seen_of c.self.inside))
left c = left_empty (seen_of c.self.inside) c.self.inside.held_pages.counts c.self.invariant.0 (c.self.invariant.1.pages ∙ held_by_class (seen_of c.self.inside))

pub total-requires : goal.total-requires
total-requires c =
    let left = left (goal.at.total-requires c).After-self in let taken = taken_is (seen_of c.self.inside) c.self.invariant.0 in
    let most = held_within (seen_of c.self.inside) c.self.invariant.0 in omega (arith, left, taken, most)

pub overflow_sub-result : goal.overflow_sub-result
overflow_sub-result c = let left = left (goal.at.overflow_sub-result c).After-self in let total = c.total.ensures in omega (arith, left, total)

pub returns-clause-value : goal.returns-clause-value
returns-clause-value c =
    let left = left (goal.at.returns-clause-value c).After-self in let total = c.total.ensures in
    rw (← c.self.view_is) (omega (arith, left, total))

pub returns-clause-few : goal.returns-clause-few
returns-clause-few c =
    let taken = taken_is (seen_of c.self.inside) c.self.invariant.0 in
    let most = held_within (seen_of c.self.inside) c.self.invariant.0 in omega (arith, taken, most)
