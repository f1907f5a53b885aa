use Rattle.std.proofs.Common.{◌≤◌, arith, length}
use Rattle.explore_report.proofs.ToldTexts.{all_lines, line_more}
use Rattle.explore_report.proofs.told_text.add_told.Goals as goal

pub loop-worker-preserved : goal.loop-worker-preserved
loop-worker-preserved c = record {
  end = c.loop-worker.invariant.end;
  text = line_more c.args.told.now c.loop-worker.worker c.told_at.result.now c.loop-worker.text.items c.add_line.new.text.items _
      c.told_at.ensures c.loop-worker.invariant.text c.in_ok-add_line.ensures;
}

pub returns : goal.returns
returns c =
    let end : length c.args.told.now ≤ c.loop-worker.worker = omega arith in
    all_lines c.args.told.now c.loop-worker.worker c.loop-worker.text.items _ end c.loop-worker.invariant.text
