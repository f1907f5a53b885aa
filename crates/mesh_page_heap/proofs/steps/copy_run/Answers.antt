use Rattle.std.proofs.Common.{◌/◌, ◌%◌, ℕ, subst}
use Rattle.mesh_arena.specs.Pages.{Writes, byte_at, run_of}
use Rattle.mesh_page_heap.proofs.PageCopies.{copies_run}
use Rattle.mesh_page_heap.specs.Indexes.{layout_of}
use Rattle.mesh_page_heap.proofs.steps.copy_run.Goals as goal

pub returns-clause-copies : goal.returns-clause-copies
returns-clause-copies c =
    copies_run _ _ _ _ _ _ _ c.requires.inside (subst (λ (p : ℕ). Writes c.args.arena.now c.copy.new.self p (c.args.from % 4096)
    (run_of (byte_at c.args.arena.now ((layout_of c.args.spans.now).page c.args.source (c.args.from / 4096))) (c.args.from % 4096) c.args.len))
    c.physical_page-there.ensures
    (subst (λ (p : ℕ). Writes c.args.arena.now c.copy.new.self c.physical_page-there.result (c.args.from % 4096)
    (run_of (byte_at c.args.arena.now p) (c.args.from % 4096) c.args.len)) c.physical_page-here.ensures c.copy.ensures.writes))
