use Rattle.std.proofs.Common.{refl}
use Rattle.model_words.specs.declared.commands.Command.TheVariants.{Poke}
use Rattle.mesh_mutator.proofs.CellAnswers.{poke_alike, rooted_stored, store_performed, stored_at_address_keeps, stored_serial}
use Rattle.model_heap.specs.Mesh.{is_blocked}
use Rattle.mesh_steps.specs.Heap.{IsStore, plain_of, stored_at_address, table_of}
use Rattle.mesh_mutator.proofs.attempts.poke.Goals.{After-stored}
use Rattle.mesh_mutator.proofs.attempts.poke.Goals as goal

-- what the store comes to
poked : (c : After-stored) → IsStore c.args.heap.now c.poke.new.self (stored_at_address (plain_of c.args.heap.now) c.args.addr c.args.byte)
    (is_blocked (table_of c.args.heap.now) c.args.addr 1) c.poke.result
poked c = record { done = c.poke.ensures.done; blocked = c.poke.ensures.blocked; refused = c.poke.ensures.refused }

pub returns-clause-performed : goal.returns-clause-performed
returns-clause-performed c =
    rw c.stored.ensures (store_performed _ _ _ _ _ c.args.addr 1 _ refl (poke_alike c.args.heap.now _ _ _) (λ went. refl) tt (poked c))

pub returns-clause-rooted : goal.returns-clause-rooted
returns-clause-rooted c =
    rooted_stored c.args.heap.now c.poke.new.self _ _ _ c.poke.result (λ n is. stored_at_address_keeps _ _ c.args.addr c.args.byte is) (poked c) c.requires

pub returns-clause-serial : goal.returns-clause-serial
returns-clause-serial c = stored_serial c.args.heap.now c.poke.new.self _ _ c.poke.result (poked c)
