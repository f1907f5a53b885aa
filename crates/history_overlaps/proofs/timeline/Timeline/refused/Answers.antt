use Rattle.history_overlaps.proofs.EndSteps.{refused_so, refused_unfair}
use Rattle.history_overlaps.proofs.timeline.Timeline.refused.Goals as goal

pub returns-then-is_own_refusal-clause-ended : goal.returns-then-is_own_refusal-clause-ended
returns-then-is_own_refusal-clause-ended c = λ none number. refused_so c.args.self.now number c.args.len c.args.refusal (c.is_own_refusal.ensures.0 c.if-is_own_refusal.true)

pub returns-clause-flawed : goal.returns-clause-flawed
returns-clause-flawed c = λ number. refused_unfair c.args.self.now number c.args.len c.args.refusal
    (λ own. let is = c.is_own_refusal.ensures.1 own in let not = c.if-is_own_refusal.false in cc (is, not)) c.unfair_refusal.result c.unfair_refusal.ensures
