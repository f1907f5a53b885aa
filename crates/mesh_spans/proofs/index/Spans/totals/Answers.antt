use Rattle.std.proofs.Common.{subst}
use Rattle.mesh_spans.specs.Index.{Index}
use Rattle.mesh_spans.proofs.CountLemmas.{AreTotals, table_counted}
use Rattle.mesh_spans.proofs.index.Spans.totals.Goals as goal

pub returns : goal.returns
returns c =
    let all = subst (λ (x : Index). AreTotals x c.totals.result) c.self.view_is (table_counted _ _ _ c.totals.ensures) in
    record { objects = all.objects; bytes = all.bytes; mapped = all.mapped }
