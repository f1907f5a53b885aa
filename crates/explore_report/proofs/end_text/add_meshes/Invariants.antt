use Rattle.std.proofs.Common.{◌≡◌, ◌++◌, length}
use Rattle.explore_report.specs.EndTexts.{mesh_text, texts_below}
use Rattle.explore_report.proofs.end_text.add_meshes.Given as goal

abbrev pub invariant-loop-mesher : goal.invariant-loop-mesher
invariant-loop-mesher l = record {
  end : l.mesher-end ≡ length l.state.setting.pairs;
  text : l.text.items ≡ l.initial.text.items ++ texts_below (mesh_text l.state.setting l.state.state) l.mesher;
}
