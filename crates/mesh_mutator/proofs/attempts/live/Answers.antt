use Rattle.std.proofs.Common.{sym, ◌∙◌}
use Rattle.mesh_mutator.proofs.CellAnswers.{live_named, live_stale, named_none}
use Rattle.mesh_mutator.proofs.attempts.live.Goals as goal

pub returns-in_default-clause-refused : goal.returns-in_default-clause-refused
returns-in_default-clause-refused c = named_none c.args.heap.now c.args.roots.now c.args.cell (sym c.in_default.ensures)

pub returns-then-is_live-clause-named : goal.returns-then-is_live-clause-named
returns-then-is_live-clause-named c = live_named _ _ _ _ c.requires (sym c.in-Some.ensures) (sym c.is_live.ensures ∙ c.if-is_live.true)

pub returns-else-is_live-clause-refused : goal.returns-else-is_live-clause-refused
returns-else-is_live-clause-refused c = live_stale c.args.heap.now _ _ _ c.requires (sym c.in-Some.ensures) (sym c.is_live.ensures ∙ c.if-is_live.false)
