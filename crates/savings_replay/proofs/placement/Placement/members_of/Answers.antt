use Rattle.std.proofs.Common.{◌≤◌, ℕ, Option, ap, arith, length, sym, ◌∙◌}
use Rattle.std.specs.Prelude.{unwrap_or}
use Rattle.std.specs.Option.{option_map}
use Rattle.std.proofs.lemmas.List.{length-map}
use Rattle.model_heap.specs.Table.{Group}
use Rattle.mesh_spans.proofs.PairLemmas.{entry_in_table, none_in_table}
use Rattle.savings_replay.specs.Meshing.{members_at}
use Rattle.savings_replay.specs.Placement.{Placement, table_of}
use Rattle.savings_replay.proofs.placement.Placement.members_of.Goals as goal
use Rattle.savings_replay.proofs.placement.Placement.members_of.Goals.{In-Some}

-- the members of a group that is found
abbrev counted : Option Group → ℕ
counted o = unwrap_or (option_map (λ (g : Group). length g.members) o) 0

few : (c : In-Some) → length c.in-Some.group.now.members ≤ 8
few c = (c.sound.ensures.each c.args.number c.in-Some.group.now (sym c.in-Some.ensures)).few_members

pub overflow_cast-result : goal.overflow_cast-result
overflow_cast-result c =
    let few = few (goal.at.overflow_cast-result c).In-Some in let are = ap length c.members.ensures.value in omega (arith, few, are)

pub returns-in-Some-clause-value : goal.returns-in-Some-clause-value
returns-in-Some-clause-value c =
    ap length c.members.ensures.value
    ∙ sym (length-map c.in-Some.group.now.members _)
    ∙ ap counted (sym (entry_in_table c.self.inside.spans c.args.number c.in-Some.group.now (sym c.in-Some.ensures)))
    ∙ ap (λ (p : Placement). members_at (table_of p) c.args.number) c.self.view_is

pub returns-in-Some-clause-few : goal.returns-in-Some-clause-few
returns-in-Some-clause-few c =
    let few = few (goal.at.returns-in-Some-clause-few c).In-Some in let are = ap length c.members.ensures.value in omega (arith, few, are)

pub returns-in-None-clause-value : goal.returns-in-None-clause-value
returns-in-None-clause-value c =
    ap counted (sym (none_in_table c.self.inside.spans c.args.number (sym c.in-None.ensures)))
    ∙ ap (λ (p : Placement). members_at (table_of p) c.args.number) c.self.view_is
