use Rattle.std.proofs.Common.{◌≤◌, arith, length}
use Rattle.explore_report.specs.EndTexts.{mesh_text}
use Rattle.explore_report.proofs.EndTexts.{all_texts, text_next}
use Rattle.explore_report.proofs.end_text.add_meshes.Goals as goal

pub loop-mesher-preserved : goal.loop-mesher-preserved
loop-mesher-preserved c = record {
  end = c.loop-mesher.invariant.end;
  text = text_next (mesh_text c.args.state.now.setting c.args.state.now.state) c.loop-mesher.mesher _ _ _ c.loop-mesher.invariant.text c.in_ok-add_mesh.ensures;
}

pub returns : goal.returns
returns c =
    let past : length c.args.state.now.setting.pairs ≤ c.loop-mesher.mesher = omega arith in
    let within : c.loop-mesher.mesher ≤ length c.args.state.now.setting.pairs = omega arith in
    all_texts (mesh_text c.args.state.now.setting c.args.state.now.state) c.loop-mesher.mesher _ _ _ within past c.loop-mesher.invariant.text
