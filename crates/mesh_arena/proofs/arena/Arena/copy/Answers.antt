use Rattle.std.proofs.Common.{arith, rules}
use Rattle.mesh_arena.specs.Pages.{run_of, length-run_of, byte_at}
use Rattle.mesh_arena.proofs.Changes.{writes, part-run_of}
use Rattle.mesh_arena.proofs.Ties.{tied_by_write}
use Rattle.mesh_arena.proofs.arena.Arena.copy.Goals as goal

pub copy-requires : goal.copy-requires
copy-requires c = rw (c.index.ensures, c.index-2.ensures, c.self.view_is) (search rules)

pub invariant_of-self : goal.invariant_of-self
invariant_of-self c =
    rw (c.copy.ensures.copied, c.index-2.ensures) (tied_by_write _ _ _ _ c.self.invariant (rw (← c.self.view_is) at c.requires.to_taken))

pub returns-clause-writes : goal.returns-clause-writes
returns-clause-writes c =
    let from_sized = rw (c.index.ensures) at c.copy.ensures.from_sized in
    let to_sized = rw (c.index-2.ensures) at c.copy.ensures.to_sized in
    let run = part-run_of c.self.inside.frames c.args.from c.args.from_off c.args.len (omega arith) in
    rw (c.copy.ensures.copied, c.index.ensures, c.index-2.ensures, run, ← c.self.view_is)
    (writes c.self.inside.frames c.args.to c.args.to_off (run_of (byte_at c.self.inside.frames c.args.from) c.args.from_off c.args.len) (rw (← c.self.view_is) at c.requires.to_taken) (rw length-run_of (omega arith)))
