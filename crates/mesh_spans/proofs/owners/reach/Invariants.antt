use Rattle.std.proofs.Common.{◌≡◌, ◌+◌, ◌-◌, ◌≤◌, ℕ, None, get_or, length}
use Rattle.std.specs.Prelude.{vec_capacity, vec_len}
use Rattle.mesh_spans.proofs.owners.reach.Given as goal

abbrev pub invariant-loop-spans : goal.invariant-loop-spans
invariant-loop-spans l = record {
  short : length l.spans.items ≤ 65536;
  room : vec_capacity l.spans ≡ vec_capacity l.initial.spans;
  same : (v : ℕ) → get_or l.spans.items v None ≡ get_or l.initial.spans.items v None;
}

abbrev pub decreases-loop-spans : goal.decreases-loop-spans
decreases-loop-spans l = l.place + 1 - vec_len l.spans
