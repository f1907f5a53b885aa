use Rattle.std.proofs.Common.{◌<◌, refl, sym, arith, subst, length}
use Rattle.model_memory.specs.Reads.{Kept}
use Rattle.mesh_lock.specs.Seat.{IsKept, Seat}
use Rattle.mesh_lock.proofs.MadeSeats.{kept_more}
use Rattle.mesh_lock.proofs.seat.Seat.keep.Goals as goal

pub invariant_of-self : goal.invariant_of-self
invariant_of-self c =
    let old : Seat = record { number = c.self.inside.number; calls = c.self.inside.calls.items; room = c.self.inside.room } in
    let new : Seat = record { number = c.self.inside.number; calls = c.push_reserved.new.self.items; room = c.self.inside.room } in
    let below : length old.calls < old.room = subst (λ (s : Seat). length s.calls < s.room) (sym c.self.view_is) c.requires.room in
    let good : IsKept c.of-kept.result = subst (λ (k : Kept). IsKept k) (sym c.of-kept.ensures) (c.requires.read, c.requires.range) in (
      kept_more old new c.of-kept.result c.self.invariant.0 below good c.push_reserved.ensures.items refl,
      (let cap = c.push_reserved.ensures.capacity in let was = c.self.invariant.1 in omega (arith, cap, was)),
    )
