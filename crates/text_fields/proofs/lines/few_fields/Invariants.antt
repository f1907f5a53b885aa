use Rattle.std.proofs.Common.{◌≡◌, ◌-◌, ◌≤◌, false, take}
use Rattle.std.specs.List.{list_any}
use Rattle.model_jobs.specs.JobFiles.{is_empty}
use Rattle.text_fields.specs.Lines.{texts}
use Rattle.text_fields.proofs.FewFields.{IsBegun}
use Rattle.text_fields.proofs.lines.few_fields.Given as goal

abbrev pub invariant-loop-start : goal.invariant-loop-start
invariant-loop-start l = record {
  within : l.start ≤ l.most;
  begun : IsBegun (take l.start l.text) (texts l.fields.items);
  filled : list_any is_empty (texts l.fields.items) ≡ false;
}

abbrev pub decreases-loop-start : goal.decreases-loop-start
decreases-loop-start l = l.most - l.start
