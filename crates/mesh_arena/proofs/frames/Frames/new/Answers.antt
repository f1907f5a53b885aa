use Rattle.std.proofs.Common.{arith}
use Rattle.mesh_arena.proofs.Given.{made-none, pages-none}
use Rattle.mesh_arena.proofs.frames.Frames.new.Goals as goal

pub invariant_of-result : goal.invariant_of-result
invariant_of-result c = grind (arith, made-none)

pub returns : goal.returns
returns c = pages-none c.in_ok-made.made.items c.in_ok-given.given c.args.count c.in_ok-made.ensures.items
