use Rattle.std.proofs.Common.{◌≡◌, ℕ, Option, ap, unwrap_or, sym, ◌∙◌, arith, rules}
use Rattle.model_words.specs.Classes.{slots_of}
use Rattle.otherwise_frames.specs.Copies.{is_uncopied}
use Rattle.otherwise_frames.proofs.Passing.{first_found, none_found}
use Rattle.otherwise_frames.proofs.copies.copied_slots.Goals as goal

pub returns-then-is_uncopied : goal.returns-then-is_uncopied
returns-then-is_uncopied c =
    let slots = slots_of c.args.mesh.now.class in
    let found = first_found (is_uncopied c.args.memory.now c.args.spots.now c.args.mesh.now) 0 slots c.loop-slot.slot (omega arith)
    (search rules) c.loop-slot.invariant (sym c.is_uncopied.ensures ∙ c.if-is_uncopied.true) in
    sym (ap (λ (first : Option ℕ). unwrap_or first slots) found)

pub returns : goal.returns
returns c =
    let slots = slots_of c.args.mesh.now.class in
    let found = none_found (is_uncopied c.args.memory.now c.args.spots.now c.args.mesh.now) 0 slots
    (λ k lt. c.loop-slot.invariant k (search rules)) in
    let all : c.slots.result ≡ slots_of c.args.mesh.now.class = search rules in
    all ∙ sym (ap (λ (first : Option ℕ). unwrap_or first slots) found)
