use Rattle.std.proofs.Common.{List, Option, subst}
use Rattle.mesh_bins.specs.Words.{IsLeast}
use Rattle.mesh_spans.specs.GroupBins.{is_partial}
use Rattle.mesh_spans.specs.Index.{GroupEntry, group_at}
use Rattle.mesh_spans.proofs.BinLemmas.{partial_least}
use Rattle.mesh_spans.proofs.groups.Groups.lowest_partial.Goals as goal

pub returns : goal.returns
returns c =
    subst (λ (gs : List (Option GroupEntry)). IsLeast (λ n. is_partial (group_at gs n) c.args.class) c.args.from 65536 c.lowest_partial.result) c.self.view_is
    (partial_least c.self.inside.entries.items c.self.inside.bins.items c.as_slice.result.now c.args.class c.args.from c.lowest_partial.result
    c.as_slice.ensures.value c.self.invariant.filed c.self.invariant.each c.lowest_partial.ensures.one c.lowest_partial.ensures.place
    c.lowest_partial.ensures.least)
