use Rattle.mesh_store.proofs.Ranges.{loaded}
use Rattle.mesh_store.proofs.store.load_run.Goals as goal

pub returns : goal.returns
returns c = loaded c.args.arena.now c.args.map.now c.args.addr _ c.read.new.out (rw (c.entry_of-page.ensures.page, c.vpage_of.ensures, c.offset_of.ensures) at c.read.ensures.run) c.requires.inside
