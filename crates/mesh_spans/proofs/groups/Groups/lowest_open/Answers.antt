use Rattle.mesh_spans.proofs.BinLemmas.{open_position}
use Rattle.mesh_spans.proofs.groups.Groups.lowest_open.Goals as goal

pub returns : goal.returns
returns c =
    rw (← c.self.view_is) (open_position c.self.inside.entries.items c.self.inside.bins.items c.as_slice.result.now c.args.class c.lowest_open.result
    c.as_slice.ensures.value c.self.invariant.few c.self.invariant.filed c.self.invariant.each c.lowest_open.ensures.one c.lowest_open.ensures.place
    c.lowest_open.ensures.least)
