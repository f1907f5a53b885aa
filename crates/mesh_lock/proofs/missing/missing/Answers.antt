use Rattle.std.proofs.Common.{◌≤◌, length, refl, sym, arith, inl, inr}
use Rattle.model_memory.specs.SeatLaws.{AreSeatedBelow, HasStranger}
use Rattle.mesh_lock.specs.Seat.{numbers_of}
use Rattle.mesh_lock.proofs.MadeSeats.{no_stranger, numbers_many}
use Rattle.mesh_lock.proofs.Settled.{seated_many}
use Rattle.mesh_lock.proofs.missing.missing.Goals.{then-seats-count-via-then-seats-count, then-seats-count-via-else-seats-count+then-has_stranger}
use Rattle.mesh_lock.proofs.missing.missing.Goals as goal

pub returns-then-seats-count-clause-missing : goal.returns-then-seats-count-clause-missing
returns-then-seats-count-clause-missing c =
    let numbers = numbers_of c.args.seats.now in
    let seated : AreSeatedBelow numbers c.args.count = λ k below. c.loop-w.invariant k (let past = c.loop-w-test.false in omega (arith, below, past)) in
    let stranger : HasStranger c.args.count numbers c.args.journal.now.entries = elim c.then-seats-count.branch [
      | then-seats-count-via-then-seats-count w ↦ inl (let more = w.if-seats-count.true in let many = numbers_many c.args.seats.now in omega (arith, more, many))
      | then-seats-count-via-else-seats-count+then-has_stranger w ↦ inr (w.if-has_stranger.ensures.some refl)
    ] in
    sym ((c.missing_seat_is_least.ensures.some c.args.count numbers c.args.journal.now.entries c.args.count).1 (inr (refl, seated, stranger)))

pub returns-clause-missing : goal.returns-clause-missing
returns-clause-missing c =
    let numbers = numbers_of c.args.seats.now in
    let seated : AreSeatedBelow numbers c.args.count = λ k below. c.loop-w.invariant k (let past = c.loop-w-test.false in omega (arith, below, past)) in
    let few : length numbers ≤ c.args.count = (let l = c.if-seats-count.false in let many = numbers_many c.args.seats.now in omega (arith, l, many)) in
    sym ((c.missing_seat_is_least.ensures.none c.args.count numbers c.args.journal.now.entries).1 (seated, no_stranger c.args.count numbers c.args.journal.now.entries few (c.if-has_stranger.ensures.none refl)))

pub returns-clause-many : goal.returns-clause-many
returns-clause-many c _ = grind (arith, numbers_many c.args.seats.now, seated_many c.args.count)

pub returns-clause-known : goal.returns-clause-known
returns-clause-known c _ = c.if-has_stranger.ensures.none refl
