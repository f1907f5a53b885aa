use Rattle.std.proofs.Common.{◌≤◌, length, slice_range}
use Rattle.text_devices.proofs.Pendings.{last_bytes}
use Rattle.text_devices.proofs.pending.Pending.keep_last.Goals as goal

pub returns : goal.returns
returns c =
    let few : c.args.count ≤ length (slice_range c.self.inside.buffer.items c.self.inside.start c.self.inside.end) = rw c.self.view_is c.requires in
    rw (← c.self.view_is) (last_bytes c.self.inside.buffer.items c.self.inside.start c.self.inside.end c.args.count c.self.invariant few)
