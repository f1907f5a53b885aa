use Rattle.std.proofs.Common.{IfOk, subst, sym}
use Rattle.savings_replay.specs.Followed.{step}
use Rattle.savings_replay.specs.Follows.{IsTaken}
use Rattle.savings_replay.specs.declared.calls.Call.{Call}
use Rattle.savings_replay.proofs.savings.Savings.take.Goals as goal

pub returns-in-New-clause-taken : goal.returns-in-New-clause-taken
unfolding step
returns-in-New-clause-taken c = λ f fol.
    subst (λ (call : Call). IfOk c.new_object.result (IsTaken c.new_object.new.self f (step c.args.self.now.settings f call))) (sym c.in-New.is)
    (rw (← c.max.ensures) (c.new_object.ensures.taken f fol))

pub returns-in-Free-clause-taken : goal.returns-in-Free-clause-taken
unfolding step
returns-in-Free-clause-taken c = λ f fol.
    subst (λ (call : Call). IfOk c.free.result (IsTaken c.free.new.self f (step c.args.self.now.settings f call))) (sym c.in-Free.is)
    (c.free.ensures.taken f fol)

pub returns-in-Alias-clause-taken : goal.returns-in-Alias-clause-taken
unfolding step
returns-in-Alias-clause-taken c = λ f fol.
    subst (λ (call : Call). IfOk c.alias.result (IsTaken c.alias.new.self f (step c.args.self.now.settings f call))) (sym c.in-Alias.is)
    (c.alias.ensures.taken f fol)
