use Rattle.std.proofs.Common.{◌≡◌, ◌≤◌, length}
use Rattle.std.specs.Prelude.{vec_capacity}
use Rattle.mesh_spans.specs.Index.{OwnsUpTo}
use Rattle.mesh_spans.proofs.owners.own_pages.Given as goal

abbrev pub invariant-loop-page : goal.invariant-loop-page
invariant-loop-page l = record {
  short : length l.spans.items ≤ 65536;
  room : vec_capacity l.spans ≡ vec_capacity l.initial.spans;
  owned : OwnsUpTo l.initial.spans.items l.spans.items l.first l.page l.span;
}
