use Rattle.std.proofs.Common.{◌≡◌, ◌-◌, ℕ, [], ◌∷◌, Result, sym, ap, subst, ◌∙◌, arith}
use Rattle.model_memory.specs.Memory.{Memory}
use Rattle.model_words.specs.declared.refusals.Refusal.{Refusal}
use Rattle.model_heap.specs.Mesh.{is_blocked}
use Rattle.mesh_steps.specs.Heap.{IsStore, plain_of, stored_at_address, stored_in, table_of}
use Rattle.mesh_steps.proofs.Stores.{answers_refused, stored_held, stored_stray}
use Rattle.mesh_steps.proofs.heap.Heap.poke.Goals.{After-save}
use Rattle.mesh_steps.proofs.heap.Heap.poke.Goals as goal

pub returns-in_default-clause-refused : goal.returns-in_default-clause-refused
returns-in_default-clause-refused c refusal e =
    answers_refused _ _ _ _ (stored_stray c.args.self.now _ _ c.in_default.ensures.none) e

pub save-requires-clause-live : goal.save-requires-clause-live
save-requires-clause-live c =
    let held = c.in-Some.ensures.there in
    let at : c.args.addr - c.in-Some.held.offset ≡ held.address = (let sum = held.at in omega (arith, sum)) in
    rw at (record { len = c.in-Some.held.len; recorded = held.recorded; enough = omega (arith, held.within) })

-- what the store in the object comes to as one at the address
stored : (c : After-save) → IsStore c.args.self.now c.save.new.self (stored_at_address (plain_of c.args.self.now) c.args.addr c.args.byte)
    (is_blocked (table_of c.args.self.now) c.args.addr 1) c.save.result
stored c =
    let held = c.in-Some.ensures.there in
    let at : c.args.addr - c.in-Some.held.offset ≡ held.address = (let sum = held.at in omega (arith, sum)) in
    let same = stored_held c.args.self.now c.args.addr c.args.byte c.in-Some.held held c.holder.ensures.sound in
    let whole = subst (λ (a : ℕ). IsStore c.args.self.now c.save.new.self (stored_in c.args.self.now c.in-Some.held.serial (c.args.addr - c.in-Some.held.offset)
    c.in-Some.held.offset (c.args.byte ∷ [])) (is_blocked (table_of c.args.self.now) a 1) c.save.result) (omega (arith, held.at)) c.save.ensures in
    subst (λ (after : Result Memory Refusal). IsStore c.args.self.now c.save.new.self after (is_blocked (table_of c.args.self.now) c.args.addr 1) c.save.result)
    (ap (λ (a : ℕ). stored_in c.args.self.now c.in-Some.held.serial a c.in-Some.held.offset (c.args.byte ∷ [])) at ∙ sym same) whole

pub returns : goal.returns
returns c = let is = stored c in record { done = is.done; blocked = is.blocked; refused = is.refused }
