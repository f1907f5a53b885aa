use Rattle.mesh_store.proofs.Ranges.{saves_run}
use Rattle.mesh_store.proofs.store.save_run.Goals as goal

pub returns : goal.returns
returns c = saves_run c.args.arena.now c.write.new.self c.args.map.now c.args.addr c.args.bytes.now (rw (c.entry_of-page.ensures.page, c.vpage_of.ensures, c.offset_of.ensures) at c.write.ensures.writes) c.requires.inside
