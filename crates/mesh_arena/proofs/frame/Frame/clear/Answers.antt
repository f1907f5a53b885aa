use Rattle.std.proofs.Common.{rules}
use Rattle.mesh_arena.proofs.Changes.{refilled}
use Rattle.mesh_arena.proofs.frame.Frame.clear.Goals as goal

pub returns : goal.returns
returns c = refilled _ _ (c.fill.ensures.after (λ y e. search rules)) c.self.invariant
