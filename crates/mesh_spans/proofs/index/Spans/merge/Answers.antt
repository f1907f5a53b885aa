use Rattle.std.proofs.Common.{None, sym, ◌∙◌}
use Rattle.std.proofs.Math.ListN.{length-set}
use Rattle.mesh_spans.specs.Groups.{groups_of}
use Rattle.mesh_spans.proofs.MergeLemmas.{HasMerged, few_together, merge_closed, merge_keeps, members_below, merge_table, merges_is, same_classes, slots_apart}
use Rattle.mesh_spans.proofs.IndexLemmas.{filled_below}
use Rattle.mesh_spans.proofs.index.Spans.merge.Goals as goal
use Rattle.mesh_spans.proofs.index.Spans.merge.Goals.{After-regroup}

pub take-requires : goal.take-requires
take-requires c =
    let pair = rw (← c.self.view_is) at c.requires.pair in
    filled_below c.self.inside.groups c.args.src pair.a pair.source

pub absorb-requires : goal.absorb-requires
absorb-requires c =
    let pair = rw (← c.self.view_is) at c.requires.pair in
    let at = sym c.take.ensures.group ∙ c.in-Some.is in
    let is = c.take.ensures.groups in
    record {
      there = rw (is, length-set c.self.inside.groups c.args.src None) (filled_below c.self.inside.groups c.args.dst pair.b pair.destination);
      class = same_classes c.self.inside.spans.items c.self.inside.groups c.take.new.self c.args.src c.args.dst c.in-Some.source pair at is;
      few = few_together c.self.inside.spans.items c.self.inside.groups c.take.new.self c.args.src c.args.dst c.in-Some.source pair at is;
      apart = slots_apart c.self.inside.spans.items c.self.inside.groups c.take.new.self c.args.src c.args.dst c.in-Some.source pair at is;
    }

pub regroup-requires : goal.regroup-requires
regroup-requires c =
    members_below _ _ _ _ _ c.self.invariant.0 (sym c.take.ensures.group ∙ c.in-Some.is) c.members.ensures.value

-- what was merged
met : (c : After-regroup) → HasMerged c.self.inside.spans.items c.regroup.new.spans.items c.self.inside.groups c.absorb.new.self c.args.src c.args.dst c.in-Some.source
met c = record {
  pair = rw (← c.self.view_is) at c.requires.pair;
  at = sym c.take.ensures.group ∙ c.in-Some.is;
  is = rw c.take.ensures.groups at c.absorb.ensures;
  moved = rw c.members.ensures.value at c.regroup.ensures;
}

pub invariant_of-self : goal.invariant_of-self
invariant_of-self c = merge_keeps _ _ _ _ _ _ _ (met (goal.at.invariant_of-self c).After-regroup) c.self.inside.owners c.self.invariant

pub returns-in-Some-clause-merges : goal.returns-in-Some-clause-merges
returns-in-Some-clause-merges c = merges_is _ _ _ _ _ _ _ (met (goal.at.returns-in-Some-clause-merges c).After-regroup) c.args.self.now c.self.view_is

pub returns-in-Some-clause-table : goal.returns-in-Some-clause-table
unfolding groups_of
returns-in-Some-clause-table c = λ a found.
    rw (← c.self.view_is) (merge_table _ _ _ _ _ _ _ (met (goal.at.returns-in-Some-clause-table c).After-regroup) a (rw (← c.self.view_is) at found))

pub returns-in-Some-clause-closed : goal.returns-in-Some-clause-closed
returns-in-Some-clause-closed c = λ m. rw (← c.self.view_is) (merge_closed _ _ _ _ _ _ _ (met (goal.at.returns-in-Some-clause-closed c).After-regroup) m)
