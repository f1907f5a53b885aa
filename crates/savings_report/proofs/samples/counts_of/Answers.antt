use Rattle.savings_replay.specs.Placement.{table_of}
use Rattle.savings_report.proofs.SampleTables.{are_counts}
use Rattle.savings_report.proofs.samples.counts_of.Goals as goal

pub returns : goal.returns
returns c = λ f at.
    are_counts f c.counts-counts.result c.mesh_counts-meshes.result (table_of c.with.result.now) c.used_pages.result (c.counts-counts.ensures.follows f at)
    (c.mesh_counts-meshes.ensures f at) (c.with.ensures f at) c.used_pages.ensures
