use Rattle.mesh_spans.specs.Groups.{groups_of}
use Rattle.mesh_spans.proofs.FindLemmas.{candidate_found, next_left, none_left}
use Rattle.mesh_spans.proofs.index.Spans.next_candidate.Goals as goal

pub returns-clause-least : goal.returns-clause-least
returns-clause-least c = rw (← c.self.view_is) c.lowest_partial.ensures

pub returns-clause-table : goal.returns-clause-table
unfolding groups_of
returns-clause-table c =
    rw (← c.self.view_is) (candidate_found _ _ c.self.invariant.0 _ _ c.lowest_partial.ensures)

pub returns-clause-next : goal.returns-clause-next
returns-clause-next c =
    rw (← c.self.view_is) (next_left _ _ c.self.invariant.0 _ _ c.lowest_partial.ensures)

pub returns-clause-none : goal.returns-clause-none
returns-clause-none c =
    rw (← c.self.view_is) (none_left _ _ c.self.invariant.0 _ _ c.lowest_partial.ensures)
