use Rattle.std.proofs.Common.{◌≡◌, ◌+◌, Some, length, refl, sym}
use Rattle.model_words.specs.declared.commands.Command.TheVariants.{Put}
use Rattle.mesh_mutator.proofs.CellAnswers.{put_alike, put_empty, put_touches, rooted_stored, store_performed, stored_at_keeps, stored_serial}
use Rattle.mesh_mutator.specs.Book.{cell_at}
use Rattle.model_heap.specs.Mesh.{is_blocked}
use Rattle.mesh_steps.specs.Heap.{IsStore, plain_of, stored_at, table_of}
use Rattle.mesh_mutator.proofs.attempts.put.Goals.{After-stored}
use Rattle.mesh_mutator.proofs.attempts.put.Goals as goal

-- what the store comes to
wrote : (c : After-stored) → IsStore c.args.heap.now c.write.new.self (stored_at (plain_of c.args.heap.now) c.in-Some.object c.args.off c.args.bytes.now)
    (is_blocked (table_of c.args.heap.now) (c.in-Some.object.addr + c.args.off) (length c.args.bytes.now)) c.write.result
wrote c = record { done = c.write.ensures.done; blocked = c.write.ensures.blocked; refused = c.write.ensures.refused }

pub returns-in-Some-clause-performed : goal.returns-in-Some-clause-performed
returns-in-Some-clause-performed c =
    let at : cell_at c.args.roots.now c.args.cell ≡ Some c.in-Some.object = sym c.in-Some.ensures in
    rw c.stored.ensures (store_performed _ _ _ _ _ _ _ _ refl (put_alike c.args.heap.now _ _ _ _ _ c.requires.rooted at)
    (put_touches c.args.heap.now _ _ _ _ _ c.requires.rooted at) tt (wrote c))

pub returns-in-Some-clause-rooted : goal.returns-in-Some-clause-rooted
returns-in-Some-clause-rooted c =
    rooted_stored c.args.heap.now c.write.new.self c.args.roots.now (stored_at (plain_of c.args.heap.now) c.in-Some.object c.args.off c.args.bytes.now) _
    c.write.result (λ n is. stored_at_keeps (plain_of c.args.heap.now) n c.in-Some.object c.args.off c.args.bytes.now is) (wrote c) c.requires.rooted

pub returns-in-Some-clause-serial : goal.returns-in-Some-clause-serial
returns-in-Some-clause-serial c =
    stored_serial c.args.heap.now c.write.new.self _ _ c.write.result (wrote c)

pub returns-in-None-clause-performed : goal.returns-in-None-clause-performed
returns-in-None-clause-performed c = put_empty _ _ _ _ _ (sym c.in-None.ensures)
