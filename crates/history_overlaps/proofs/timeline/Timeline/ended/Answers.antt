use Rattle.std.proofs.Common.{refl, subst, sym}
use Rattle.std.specs.Prelude.{IfSome, IsNone}
use Rattle.std.proofs.lemmas.Result.{IfOk-weaker}
use Rattle.history_overlaps.specs.Standing.{HasEndedSo, IsEnding, IsFlawed}
use Rattle.history_overlaps.specs.declared.pending.Pending.{Pending}
use Rattle.history_overlaps.proofs.EndSteps.{free_ended_so, if_some_weaker}
use Rattle.std.proofs.lemmas.Result.{IfErr-weaker}
use Rattle.history_object.specs.declared.faults.JudgeFault.TheVariants.{Memory}
use Rattle.history_overlaps.specs.Stops.{IsStoppedEnd}
use Rattle.history_overlaps.proofs.Stopped.{no_memory_end}
use Rattle.text_devices.proofs.LineSteps.{handed_on}
use Rattle.history_overlaps.proofs.timeline.Timeline.ended.Goals as goal

pub returns-in_ok-flaw-in-Made-clause-ended : goal.returns-in_ok-flaw-in-Made-clause-ended
returns-in_ok-flaw-in-Made-clause-ended c = λ none.
    subst (λ (p : Pending). HasEndedSo c.args.self.now c.made.new.self c.args.number p) (sym c.in-Made.is) (c.in_ok-flaw-in-Made.ensures.ended none c.args.number)

pub returns-in_ok-flaw-in-Made-clause-flawed : goal.returns-in_ok-flaw-in-Made-clause-flawed
returns-in_ok-flaw-in-Made-clause-flawed c = if_some_weaker c.in_ok-flaw-in-Made.flaw _ (IsFlawed c.args.self.now c.args.number c.args.pending)
    (λ flaw flawed. subst (λ (p : Pending). IsFlawed c.args.self.now c.args.number p flaw) (sym c.in-Made.is) (flawed c.args.number)) c.in_ok-flaw-in-Made.ensures.flawed

pub returns-in-Refused-clause-ended : goal.returns-in-Refused-clause-ended
returns-in-Refused-clause-ended c = λ none.
    subst (λ (p : Pending). HasEndedSo c.args.self.now c.args.self.now c.args.number p) (sym c.in-Refused.is) (c.refused.ensures.ended none c.args.number)

pub returns-in-Refused-clause-flawed : goal.returns-in-Refused-clause-flawed
returns-in-Refused-clause-flawed c = if_some_weaker c.refused.result _ (IsFlawed c.args.self.now c.args.number c.args.pending)
    (λ flaw flawed. subst (λ (p : Pending). IsFlawed c.args.self.now c.args.number p flaw) (sym c.in-Refused.is) (flawed c.args.number)) c.refused.ensures.flawed

pub returns-in-Free-clause-ended : goal.returns-in-Free-clause-ended
returns-in-Free-clause-ended c = λ none.
    subst (λ (p : Pending). HasEndedSo c.args.self.now c.args.self.now c.args.number p) (sym c.in-Free.is) (free_ended_so c.args.self.now c.args.number)

pub access_ended-requires : goal.access_ended-requires
access_ended-requires c = subst (λ (p : Pending). IsEnding c.args.self.now c.args.number p) c.in-Access.is c.requires

pub returns-in-Access-clause-ended : goal.returns-in-Access-clause-ended
returns-in-Access-clause-ended c = IfOk-weaker c.access_ended.result _ (λ flaw. IsNone flaw → HasEndedSo c.args.self.now c.access_ended.new.self c.args.number c.args.pending)
    (λ flaw ended none. subst (λ (p : Pending). HasEndedSo c.args.self.now c.access_ended.new.self c.args.number p) (sym c.in-Access.is) (ended none)) c.access_ended.ensures.ended

pub returns-in-Access-clause-flawed : goal.returns-in-Access-clause-flawed
returns-in-Access-clause-flawed c = IfOk-weaker c.access_ended.result _ (λ flaw. IfSome flaw (IsFlawed c.args.self.now c.args.number c.args.pending))
    (λ flaw some. if_some_weaker flaw _ (IsFlawed c.args.self.now c.args.number c.args.pending)
    (λ f flawed. subst (λ (p : Pending). IsFlawed c.args.self.now c.args.number p f) (sym c.in-Access.is) flawed) some) c.access_ended.ensures.flawed

pub returns-in_err-flaw-in-Made-clause-stopped : goal.returns-in_err-flaw-in-Made-clause-stopped
returns-in_err-flaw-in-Made-clause-stopped c = handed_on c.from_residual.result Memory (IsStoppedEnd c.args.self.now c.args.number c.args.pending c.args.most) c.from_residual.ensures.1
    (no_memory_end c.args.self.now c.args.number c.args.most c.args.pending Memory refl)

pub returns-in-Access-clause-stopped : goal.returns-in-Access-clause-stopped
returns-in-Access-clause-stopped c = IfErr-weaker c.access_ended.result _ (IsStoppedEnd c.args.self.now c.args.number c.args.pending c.args.most)
    (λ fault stopped. subst (λ (p : Pending). IsStoppedEnd c.args.self.now c.args.number p c.args.most fault) (sym c.in-Access.is) stopped) c.access_ended.ensures.stopped
