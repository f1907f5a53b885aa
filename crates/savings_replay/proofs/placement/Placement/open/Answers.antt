use Rattle.std.proofs.Common.{refl}
use Rattle.mesh_spans.specs.Groups.{groups_of}
use Rattle.savings_replay.proofs.ClassChanges.{none_counted}
use Rattle.savings_replay.proofs.Kept.{kept_empty}
use Rattle.savings_replay.proofs.placement.Placement.open.Goals as goal

pub invariant_of-result : goal.invariant_of-result
invariant_of-result c = (
  kept_empty c.in_ok-spans.spans c.in_ok-spans.ensures.spans c.in_ok-spans.ensures.groups,
  rw (c.in_ok-spans.ensures.groups, c.none.ensures, c.none-2.ensures) none_counted,
)

pub returns-clause-table : goal.returns-clause-table
unfolding groups_of
returns-clause-table c = rw (c.in_ok-spans.ensures.spans, c.in_ok-spans.ensures.groups) refl
