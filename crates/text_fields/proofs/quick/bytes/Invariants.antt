use Rattle.std.proofs.Common.{◌≡◌, ◌++◌, ◌≤◌, length}
use Rattle.std.specs.List.{All}
use Rattle.model_jobs.specs.Texts.{bytes_text}
use Rattle.text_fields.proofs.quick.bytes.Given as goal

abbrev pub invariant-loop-rest : goal.invariant-loop-rest
invariant-loop-rest l = record {
  spelt : l.text ≡ bytes_text l.bytes.items ++ l.rest;
  few : length l.bytes.items ≤ 32;
  bytes : All (λ b. b ≤ 255) l.bytes.items;
}

abbrev pub decreases-loop-rest : goal.decreases-loop-rest
decreases-loop-rest l = length l.rest
