use Rattle.std.proofs.Common.{◌≡◌, refl, subst, sym}
use Rattle.history_object.specs.ObjectBytes.{first_state}
use Rattle.history_overlaps.specs.Judges.{AccessJudge}
use Rattle.history_overlaps.specs.LifeSteps.{IsFirst}
use Rattle.history_object.specs.declared.faults.JudgeFault.{JudgeFault}
use Rattle.history_object.specs.declared.faults.JudgeFault.TheVariants.{Memory}
use Rattle.history_overlaps.specs.Stops.{CannotBegin}
use Rattle.history_overlaps.proofs.Stopped.{full_is_own}
use Rattle.text_devices.proofs.LineSteps.{handed_on}
use Rattle.history_overlaps.proofs.UnexplainedCalls.{taken_call}
use Rattle.history_overlaps.proofs.life.Life.begin.Goals as goal

pub returns-clause-begun : goal.returns-clause-begun
returns-clause-begun c =
    let given = c.in_ok-give_judge.ensures.given in
    let is = c.in-Some.is in
    let at = given.1 in
    let same : given.0 ≡ c.in-Some.judge = cc (is, at) in
    let e = c.in_ok-begin-in-Some.ensures in
    record {
      first = c.in-Some.judge;
      is_first = subst (λ (j : AccessJudge). IsFirst c.args.self.now j) same given.2;
      judge = c.begin.new.self;
      now = refl;
      follows = λ calls begin end. e.follows (first_state c.args.self.now.object.len) calls begin end;
      is_open = e.open;
      some = e.some;
      is_call = λ n other is. taken_call c.args.number c.args.access c.in-Some.judge c.begin.new.self e.place n other is;
    }

pub returns-in_err-give_judge-clause-stopped : goal.returns-in_err-give_judge-clause-stopped
returns-in_err-give_judge-clause-stopped c = handed_on c.from_residual.result Memory (CannotBegin c.args.self.now) c.from_residual.ensures.1 tt

pub returns-in_err-begin-in-Some-clause-stopped : goal.returns-in_err-begin-in-Some-clause-stopped
returns-in_err-begin-in-Some-clause-stopped c =
    let given = c.in_ok-give_judge.ensures.given in
    let is = c.in-Some.is in
    let at = given.1 in
    let same : given.0 ≡ c.in-Some.judge = cc (is, at) in
    let first = subst (λ (j : AccessJudge). IsFirst c.args.self.now j) same given.2 in
    handed_on c.from_residual-in_err-begin-in-Some.result c.in_err-begin-in-Some.field-0.0 (CannotBegin c.args.self.now) c.from_residual-in_err-begin-in-Some.ensures.1
    (subst (λ (f : JudgeFault). CannotBegin c.args.self.now f) (sym c.in_err-begin-in-Some.ensures.full)
    (full_is_own c.args.self.now c.in-Some.judge first c.in_err-begin-in-Some.ensures.taken))
