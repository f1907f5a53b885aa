use Rattle.text_job.proofs.PackedScripts.{in_range_at}
use Rattle.text_job.proofs.script.Script.get.Goals as goal

pub returns-clause-in_range : goal.returns-clause-in_range
returns-clause-in_range c =
    let found = rw c.deref.ensures.value at c.in_ok-packed.ensures.lookup in
    rw (c.unpack_command.ensures, c.as_slice.ensures.value) (in_range_at c.self.inside.bytes.items c.self.inside.commands.items c.args.place c.in_ok-packed.packed.now c.self.invariant found.3.0 found.1)
