use Rattle.std.proofs.Common.{◌≡◌, true, arith, subst, sym}
use Rattle.model_intervals.specs.Intervals.{Call}
use Rattle.history_witness.specs.Slices.{is_new_or_free}
use Rattle.history_witness.proofs.PlainCalls.{read_at}
use Rattle.history_witness.proofs.slices.takes_new_and_free.Goals as goal

pub returns : goal.returns
returns c = λ told i a is new.
    let x = read_at c.args.calls.now i a is in
    let within = x.within in
    c.loop-place.invariant i x.call (omega (arith, within)) x.there (subst (λ (b : Call). is_new_or_free c.args.cell b.entry.command ≡ true) (sym x.plain) new)
