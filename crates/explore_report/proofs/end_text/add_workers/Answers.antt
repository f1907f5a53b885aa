use Rattle.std.proofs.Common.{◌≤◌, arith, length}
use Rattle.explore_report.specs.EndTexts.{worker_text}
use Rattle.explore_report.proofs.EndTexts.{all_texts, text_next}
use Rattle.explore_report.proofs.end_text.add_workers.Goals as goal

pub loop-worker-preserved : goal.loop-worker-preserved
loop-worker-preserved c = record {
  end = c.loop-worker.invariant.end;
  text = text_next (worker_text c.args.state.now.setting c.args.state.now.state) c.loop-worker.worker _ _ _ c.loop-worker.invariant.text c.in_ok-add_worker.ensures;
}

pub returns : goal.returns
returns c =
    let past : length c.args.state.now.setting.job.scripts ≤ c.loop-worker.worker = omega arith in
    let within : c.loop-worker.worker ≤ length c.args.state.now.setting.job.scripts = omega arith in
    all_texts (worker_text c.args.state.now.setting c.args.state.now.state) c.loop-worker.worker _ _ _ within past c.loop-worker.invariant.text
