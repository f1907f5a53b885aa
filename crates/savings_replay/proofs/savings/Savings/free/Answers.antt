use Rattle.std.proofs.Common.{subst, sym}
use Rattle.savings_replay.specs.Follows.{Follows, Kept}
use Rattle.savings_replay.specs.Objects.{IsTakenOut}
use Rattle.savings_replay.specs.declared.objects.Object.{Object}
use Rattle.savings_replay.proofs.TakenCalls.{large_free, small_free}
use Rattle.savings_replay.proofs.savings.Savings.free.Goals as goal
use Rattle.savings_replay.proofs.savings.Savings.free.Goals.{In-Some}

-- what was taken out
out : (c : In-Some) → IsTakenOut c.self.inside.objects c.take_out.new.self c.args.cell c.in-Some.field-0-0 c.in-Some.object
out c = c.in-Some.ensures.some

pub returns-in_ok-round_if_due-in-Small-clause-taken :
    goal.returns-in_ok-round_if_due-in-Small-clause-taken
returns-in_ok-round_if_due-in-Small-clause-taken c = λ f fol.
    let at = (goal.at.returns-in_ok-round_if_due-in-Small-clause-taken c).In-Some in
    let inside = c.self.inside in
    rw (c.small_free-self-inside.ensures.value, c.is_due-is_due.ensures, c.free-live.ensures.left, ← c.self.view_is)
    (small_free inside.settings inside.objects c.take_out.new.self inside.counts inside.new_words inside.heaps c.free-live.new.self c.round_if_due.new.self f
    c.args.cell c.in-Some.field-0-0 c.in-Small.places (subst (λ (k : Kept). Follows k f) (sym c.self.view_is) fol)
    (subst (λ (x : Object). IsTakenOut inside.objects c.take_out.new.self c.args.cell c.in-Some.field-0-0 x) c.in-Small.is (out at))
    c.free-live.ensures.freed
    (rw (← c.free-live.ensures.left, ← c.is_due-is_due.ensures) c.in_ok-round_if_due-in-Small.ensures.value)
    c.round_if_due.ensures.kept)

pub returns-in-Large-clause-taken : goal.returns-in-Large-clause-taken
returns-in-Large-clause-taken c = λ f fol.
    let at = (goal.at.returns-in-Large-clause-taken c).In-Some in
    let inside = c.self.inside in
    rw (c.large_free-self-inside.ensures.value, ← c.self.view_is)
    (large_free inside.settings inside.objects c.take_out.new.self inside.counts inside.new_words inside.heaps f c.args.cell c.in-Some.field-0-0 c.in-Large.len
    (subst (λ (k : Kept). Follows k f) (sym c.self.view_is) fol)
    (subst (λ (x : Object). IsTakenOut inside.objects c.take_out.new.self c.args.cell c.in-Some.field-0-0 x) c.in-Large.is (out at)))
