use Rattle.std.proofs.Common.{◌≡◌, ◌+◌, false, nat_eq, nat_lt, ◌&&◌, rules, tests}
use Rattle.std.specs.Prelude.{codes}
use Rattle.model_jobs.specs.JobFiles.{are_same}
use Rattle.text_fields.specs.Lines.{texts}
use Rattle.text_job.specs.Draft.{draft_of}
use Rattle.text_job.proofs.ScriptLines.{command_taken}
use Rattle.text_job.proofs.draft.Draft.take_in_script.Goals as goal

pub returns-in_ok-push_line : goal.returns-in_ok-push_line
returns-in_ok-push_line c =
    let no_worker : (are_same c.args.word.now (codes "worker") && nat_lt (c.args.worker + 1) c.args.self.now.workers) ≡ false = search (rules, tests) in
    let no_plan : (are_same c.args.word.now (codes "plan") && nat_eq (c.args.worker + 1) c.args.self.now.workers) ≡ false = search (rules, tests) in
    record {
      draft = search rules;
      ok = command_taken (draft_of c.args.self.now) c.args.worker c.args.word.now (texts c.args.fields.now) _ no_worker no_plan c.in_ok-push_line.ensures.ok;
      err = tt;
    }
