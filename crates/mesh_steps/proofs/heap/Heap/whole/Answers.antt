use Rattle.std.proofs.Common.{ap, sym, ◌∙◌}
use Rattle.std.specs.Option.{option_map}
use Rattle.model_heap.specs.Table.{Group, group_of}
use Rattle.mesh_steps.specs.Heap.{Heap, table_of}
use Rattle.mesh_steps.proofs.MeshHeaps.{has_steps, kept_on, meshed}
use Rattle.mesh_steps.proofs.heap.Heap.whole.Goals as goal

pub finish-requires : goal.finish-requires
finish-requires c =
    has_steps c.args.busy c.args.self.now c.start.new.self c.args.source c.args.destination c.in_ok-left.left c.unwrap-class.result c.sound.ensures
    c.in_ok-left.ensures.made
    (sym c.unwrap-class.ensures ∙ c.class_of.ensures
    ∙ ap (λ (h : Heap). option_map (λ (g : Group). g.class) (group_of (table_of h) c.args.source)) c.self.view_is)

pub returns : goal.returns
returns c = record {
  made = meshed _ _ c.start.new.self _ _ c.in_ok-left.left _ c.sound.ensures c.in_ok-left.ensures.made (sym c.unwrap-class.ensures ∙ c.class_of.ensures
      ∙ ap (λ (h : Heap). option_map (λ (g : Group). g.class) (group_of (table_of h) c.args.source)) c.self.view_is) _ _ c.finish.ensures.table c.pages.ensures.value;
  refused = tt;
  kept = kept_on _ _ _ c.in_ok-left.ensures.kept c.finish.ensures.kept;
}
