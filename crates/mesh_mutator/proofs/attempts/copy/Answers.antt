use Rattle.std.proofs.Common.{◌≡◌, ◌+◌, Some, refl, sym}
use Rattle.model_heap.specs.Mesh.{is_blocked}
use Rattle.model_words.specs.declared.commands.Command.TheVariants.{Copy}
use Rattle.mesh_mutator.proofs.CellAnswers.{rooted_stored, store_performed, stored_serial}
use Rattle.mesh_mutator.proofs.CopyAnswers.{copied_at_keeps, copy_alike, copy_touches}
use Rattle.mesh_mutator.specs.Book.{cell_at}
use Rattle.mesh_steps.specs.Heap.{IsStore, copied_at, plain_of, table_of}
use Rattle.mesh_mutator.proofs.attempts.copy.Goals.{After-stored}
use Rattle.mesh_mutator.proofs.attempts.copy.Goals as goal

-- what the copy comes to
wrote : (c : After-stored) → IsStore c.args.heap.now c.copy.new.self
    (copied_at (plain_of c.args.heap.now) c.in-Some.target c.args.to_off c.in-Some-get.source c.args.from_off c.args.len)
    (is_blocked (table_of c.args.heap.now) (c.in-Some.target.addr + c.args.to_off) c.args.len) c.copy.result
wrote c = record { done = c.copy.ensures.done; blocked = c.copy.ensures.blocked; refused = c.copy.ensures.refused }

pub returns-clause-performed : goal.returns-clause-performed
returns-clause-performed c =
    let at : cell_at c.args.roots.now c.args.to ≡ Some c.in-Some.target = sym c.in-Some.ensures in
    let of : cell_at c.args.roots.now c.args.from ≡ Some c.in-Some-get.source = sym c.in-Some-get.ensures in
    rw c.stored.ensures (store_performed _ _ _ _ _ _ _ _ refl (copy_alike c.args.heap.now _ _ _ _ _ _ _ _ c.requires.rooted at of)
    (copy_touches c.args.heap.now _ _ _ _ _ _ _ _ c.requires.rooted at of) tt (wrote c))

pub returns-clause-rooted : goal.returns-clause-rooted
returns-clause-rooted c =
    rooted_stored c.args.heap.now c.copy.new.self _ _ _ c.copy.result
    (λ n is. copied_at_keeps (plain_of c.args.heap.now) _ _ c.args.to_off _ c.args.from_off c.args.len is) (wrote c) c.requires.rooted

pub returns-clause-serial : goal.returns-clause-serial
returns-clause-serial c =
    stored_serial c.args.heap.now c.copy.new.self _ _ c.copy.result (wrote c)
