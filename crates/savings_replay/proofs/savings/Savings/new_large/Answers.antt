use Rattle.std.proofs.Common.{subst, sym}
use Rattle.savings_replay.specs.Follows.{Follows, Kept}
use Rattle.savings_replay.proofs.TakenCalls.{large_new}
use Rattle.savings_replay.proofs.savings.Savings.new_large.Goals as goal

pub returns-clause-taken : goal.returns-clause-taken
returns-clause-taken c = λ f fol.
    let inside = c.self.inside in
    rw c.large_new-self-inside.ensures.value
    (large_new inside.settings inside.objects c.add.new.self inside.counts inside.new_words inside.heaps f c.args.cell c.args.len
    (subst (λ (k : Kept). Follows k f) (sym c.self.view_is) fol)
    (record { cells = c.in_ok-add.ensures.cells; live = c.in_ok-add.ensures.live }))
