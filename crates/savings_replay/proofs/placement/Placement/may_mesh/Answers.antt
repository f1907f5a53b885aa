use Rattle.std.proofs.Common.{◌≡◌, ℕ, false, Err, Option, Some, None, ap, refl, subst, sum_by, sym, ◌∙◌}
use Rattle.std.specs.Prelude.{min}
use Rattle.model_heap.specs.Mesh.{may_begin, mesh_of_class}
use Rattle.model_heap.specs.Table.{len_in}
use Rattle.mesh_class.specs.Classes.{pages_of}
use Rattle.mesh_spans.proofs.HandedOn.{handed_on}
use Rattle.mesh_spans.specs.Groups.{groups_of}
use Rattle.mesh_spans.specs.Index.{GroupEntry, group_at}
use Rattle.mesh_spans.specs.Pairs.{IsTableOf, MayMerge}
use Rattle.savings_replay.specs.ClassCounts.{amount, entry_held}
use Rattle.savings_replay.specs.Placement.{Placement, table_of}
use Rattle.savings_replay.proofs.placement.Placement.may_mesh.Goals as goal
use Rattle.savings_replay.proofs.placement.Placement.may_mesh.Goals.{After-may_merge, in-Some, in-None}

-- the table is one of the index, in which no class is busy
idle : (c : After-may_merge) → IsTableOf c.self.inside.spans c.args.source false mesh_of_class (table_of c.args.self.now)
idle c = record { groups = ap (λ (p : Placement). groups_of p.index) (sym c.self.view_is); says = λ a at. refl }

pub returns-in_err-from-clause-refused : goal.returns-in_err-from-clause-refused
returns-in_err-from-clause-refused c =
    let at = (goal.at.returns-in_err-from-clause-refused c).After-may_merge in
    handed_on c.from_residual.result c.in_err-from.field-0.0 (λ refusal. may_begin mesh_of_class (table_of c.args.self.now) c.args.source c.args.destination ≡ Err refusal)
    c.from_residual.ensures.1 (c.in_err-from.ensures.refused mesh_of_class (table_of c.args.self.now) (idle at))

pub returns-clause-may : goal.returns-clause-may
returns-clause-may c =
    let may = subst (λ (p : Placement). MayMerge p.index c.args.source c.args.destination false c.in_ok-from.from.now) c.self.view_is c.in_ok-from.ensures.may in
    record {
      from = c.in_ok-from.from.now;
      merge = may;
      class_is = ap (λ (x : GroupEntry). x.class) may.source_is ∙ sym c.class-class.ensures;
      pages_are = c.pages.ensures.value ∙ ap pages_of (c.class-class.ensures ∙ ap (λ (x : GroupEntry). x.class) (sym may.source_is));
      held_are = elim c.match-group.branch [
        | in-Some w ↦
            let to : Some w.in-Some.to.now ≡ Some may.pair.b = w.in-Some.ensures
            ∙ ap (λ (p : Placement). group_at p.index.groups c.args.destination) c.self.view_is ∙ may.pair.destination in
            w.held-is ∙ w.min-held.ensures ∙ ap (λ (n : ℕ). min n w.held_pages_of-in-Some.result) w.held_pages_of.ensures
            ∙ ap (λ (n : ℕ). min (entry_held c.in_ok-from.from.now) n) w.held_pages_of-in-Some.ensures
            ∙ ap (λ (x : GroupEntry). min (entry_held x) (entry_held w.in-Some.to.now)) (sym may.source_is)
            ∙ ap (λ (o : Option GroupEntry). min (entry_held may.pair.a) (amount entry_held o)) to
        | in-None w ↦
            let clash : None ≡ Some may.pair.b = w.in-None.ensures
            ∙ ap (λ (p : Placement). group_at p.index.groups c.args.destination) c.self.view_is ∙ may.pair.destination in absurd (cc clash)
      ];
      bytes_are = c.bytes_of.ensures ∙ ap (λ (x : GroupEntry). sum_by len_in x.slots) (sym may.source_is);
    }
