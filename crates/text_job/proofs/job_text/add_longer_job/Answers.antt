use Rattle.std.proofs.Common.{Result, Ok, Err, OnOk, map}
use Rattle.text_job.proofs.JobTexts.{wrote_longer}
use Rattle.text_job.proofs.job_text.add_longer_job.Goals as goal
use Rattle.text_job.specs.Plan.{line_of}

-- what holds after a call that was Ok follows from what else does
on_ok : {A E : Type 0} (P Q : Type 0) (result : Result A E) → (P → Q) → OnOk result P → OnOk result Q
on_ok P Q (Ok a) follows holds = follows holds
on_ok P Q (Err e) follows holds = holds

pub returns : goal.returns
returns c =
    on_ok _ _ c.add_end.result
    (wrote_longer c.args.job.now (map line_of c.args.more.now) c.args.text.now.items c.add_job_start.new.text.items c.add_plan_lines.new.text.items
    c.add_end.new.text.items c.in_ok-add_job_start.ensures c.in_ok-add_plan_lines.ensures)
    c.add_end.ensures
