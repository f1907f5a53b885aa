use Rattle.std.proofs.Common.{◌≡◌, ◌≤◌, length}
use Rattle.model_jobs.specs.JobFiles.{bytes_from}
use Rattle.text_fields.proofs.HexFields.{behind_bytes}
use Rattle.text_fields.proofs.hex.bytes.Given as goal

abbrev pub invariant-loop-rest : goal.invariant-loop-rest
invariant-loop-rest l = record {
  read : bytes_from l.field ≡ behind_bytes l.bytes.items (bytes_from l.rest);
  few : length l.bytes.items ≤ l.most;
}

abbrev pub decreases-loop-rest : goal.decreases-loop-rest
decreases-loop-rest l = length l.rest
