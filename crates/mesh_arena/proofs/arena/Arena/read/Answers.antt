use Rattle.std.proofs.Common.{arith}
use Rattle.mesh_arena.proofs.Changes.{part-run_of}
use Rattle.mesh_arena.proofs.arena.Arena.read.Goals as goal

pub bytes-bytes-requires : goal.bytes-bytes-requires
bytes-bytes-requires c = rw (c.index.ensures, c.self.view_is) c.requires.taken

pub returns-clause-bytes : goal.returns-clause-bytes
returns-clause-bytes c = grind arith

pub returns-clause-run : goal.returns-clause-run
returns-clause-run c = grind (arith, part-run_of)

pub returns-clause-sized : goal.returns-clause-sized
returns-clause-sized c = rw (← c.self.view_is) (rw (rw (c.index.ensures) at c.bytes-bytes.ensures.bytes) at c.bytes-bytes.ensures.sized)
