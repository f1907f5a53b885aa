use Rattle.std.proofs.Common.{arith, sym, ◌∙◌}
use Rattle.std.proofs.lemmas.Bool.{le-ltb}
use Rattle.mesh_arena.proofs.Given.{is_taken-page, unmade-free}
use Rattle.mesh_arena.proofs.frames.Frames.is_taken.Goals as goal

pub returns-then-place-len : goal.returns-then-place-len
returns-then-place-len c = rw (c.has.ensures, ← c.self.view_is) (sym (is_taken-page _ _ _ _ (omega arith)))

pub returns-else-place-len : goal.returns-else-place-len
returns-else-place-len c = le-ltb _ _ c.if-place-len.false ∙ rw (← c.self.view_is) (unmade-free _ _ _ _ (omega arith))
