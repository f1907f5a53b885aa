use Rattle.std.proofs.Common.{ℕ, refl, subst, sym}
use Rattle.model_memory.specs.Seats.{AreSettled}
use Rattle.mesh_lock.specs.Settle.{recorded_of}
use Rattle.mesh_lock.proofs.Settled.{is_end}
use Rattle.mesh_lock.proofs.ending.history_of.Goals as goal

pub returns-clause-ended : goal.returns-clause-ended
returns-clause-ended c memory legal =
    let entries = c.args.journal.now.entries in
    let many = c.in_default.ensures.many refl in
    let settled = subst (λ (n : ℕ). AreSettled n (recorded_of c.args.seats.now) entries) many (c.in_default-differing.ensures.settled refl) in
    is_end c.args.count c.args.seats.now entries c.in_ok-history.history.items memory c.built_is_legal.ensures c.built_has_calls.ensures.calls
    c.built_has_calls.ensures.no_other (sym c.in_default.ensures.missing) many (c.in_default.ensures.known refl) settled c.in_ok-history.ensures.kept legal
    c.in_ok-history.ensures.walked c.in_ok-history.ensures.right
