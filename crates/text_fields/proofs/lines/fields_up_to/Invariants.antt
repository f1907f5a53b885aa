use Rattle.std.proofs.Common.{◌≡◌, ◌++◌, false, length}
use Rattle.std.specs.List.{list_any}
use Rattle.model_jobs.specs.JobFiles.{is_empty}
use Rattle.text_fields.specs.Lines.{line_fields, texts}
use Rattle.text_fields.proofs.lines.fields_up_to.Given as goal

abbrev pub invariant-loop-field : goal.invariant-loop-field
invariant-loop-field g l = record {
  fields : line_fields l.line ≡ texts l.fields.items ++ line_fields l.rest;
  filled : list_any is_empty (texts l.fields.items) ≡ false;
}

abbrev pub decreases-loop-field : goal.decreases-loop-field
decreases-loop-field g l = length l.rest
