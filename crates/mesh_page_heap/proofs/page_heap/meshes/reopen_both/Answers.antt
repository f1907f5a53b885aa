use Rattle.std.proofs.Common.{false}
use Rattle.mesh_page_heap.proofs.Beginnings.{Flags}
use Rattle.mesh_page_heap.proofs.MeshFlags.{flag_there, opened_twice}
use Rattle.mesh_page_heap.proofs.page_heap.meshes.reopen_both.Goals as goal

pub reopen-requires-2 : goal.reopen-requires-2
reopen-requires-2 c =
    flag_there _ _ _ _ _ (record { there = c.requires.source; spans = c.reopen.ensures.spans; groups = c.reopen.ensures.groups }) c.requires.destination

pub returns : goal.returns
returns c =
    let one : Flags c.args.spans.now c.reopen.new.self c.args.source false
    = record { there = c.requires.source; spans = c.reopen.ensures.spans; groups = c.reopen.ensures.groups } in
    opened_twice _ _ _ _ _ one (record {
      there = flag_there _ _ _ _ _ one c.requires.destination;
      spans = c.reopen-2.ensures.spans;
      groups = c.reopen-2.ensures.groups;
    })
    c.reopen.ensures.table c.reopen-2.ensures.table c.reopen.ensures.closed c.reopen-2.ensures.closed
