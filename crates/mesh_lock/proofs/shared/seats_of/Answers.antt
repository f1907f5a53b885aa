use Rattle.std.proofs.Common.{List, ℕ, ap, ◌∙◌, arith}
use Rattle.std.proofs.lemmas.List.{take_all}
use Rattle.mesh_lock.specs.Seat.{empty_seats}
use Rattle.mesh_lock.proofs.MadeSeats.{seats_more}
use Rattle.mesh_lock.proofs.shared.seats_of.Goals as goal

pub loop-k-preserved : goal.loop-k-preserved
loop-k-preserved c = grind (arith, seats_more)

pub returns : goal.returns
returns c = c.loop-k.invariant.seats ∙ ap (λ (l : List ℕ). empty_seats 0 l) (take_all c.loop-k.k c.args.counts.now c.loop-k-test.false)
