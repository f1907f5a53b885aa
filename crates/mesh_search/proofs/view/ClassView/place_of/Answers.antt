use Rattle.std.proofs.Common.{rules, ◌≡◌, ◌<◌, nat_lt, length}
use Rattle.std.proofs.lemmas.List.Sorted.{IsPartitionPoint-from_clause}
use Rattle.mesh_search.specs.Views.{candidate_at, candidate_named}
use Rattle.mesh_search.proofs.CandidatePlaces.{parted_in, place_in}
use Rattle.mesh_search.proofs.view.ClassView.place_of.Goals as goal

found : (c : goal.After-partition_point) → (c.partition_point.result < length c.args.self.now.candidates)
    × ((candidate_at c.args.self.now c.partition_point.result).number ≡ c.args.number)
    × (candidate_at c.args.self.now c.partition_point.result ≡ candidate_named c.args.self.now c.args.number)
found c =
    place_in c.args.self.now _ _ c.args.number c.partition_point.result c.self.invariant c.self.view_is c.deref.ensures.value c.requires
    (IsPartitionPoint-from_clause (λ x. nat_lt x.number c.args.number) _ _ c.partition_point.ensures.partitioned
    (parted_in _ _ c.args.number c.self.invariant c.deref.ensures.value) (λ a r q k. search rules))

pub returns-clause-candidate : goal.returns-clause-candidate
returns-clause-candidate c = (found c).2

pub returns-clause-number : goal.returns-clause-number
returns-clause-number c = (found c).1

pub returns-clause-below : goal.returns-clause-below
returns-clause-below c = (found c).0
