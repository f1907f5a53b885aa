use Rattle.std.proofs.Common.{ℕ, Option, arith, refl, subst, sym, ◌^◌}
use Rattle.std.specs.Prelude.{IfSome, IsNone}
use Rattle.model_intervals.specs.Completions.{never}
use Rattle.history_overlaps.specs.Ends.{AreEnded, IsRuledOut, NoneBefore}
use Rattle.history_overlaps.specs.Standing.{waits_of}
use Rattle.history_overlaps.specs.declared.stops.Found.{Found}
use Rattle.history_overlaps.proofs.CheckSteps.{flaw_below, kept_finished, kept_flawed}
use Rattle.history_overlaps.proofs.CallPlaces.{at_below}
use Rattle.text_devices.proofs.LineSteps.{handed_on}
use Rattle.history_overlaps.proofs.timeline.Timeline.finish.Goals as goal

pub end_before-requires-clause-stands : goal.end_before-requires-clause-stands
end_before-requires-clause-stands c = let kept = c.requires.kept in (kept.0, kept.2.stands)

pub returns-in_default-clause-linearizable : goal.returns-in_default-clause-linearizable
returns-in_default-clause-linearizable c = λ none calls kept.
    let ended = subst (λ (o : Option Found). IsNone o → AreEnded c.args.self.now c.end_before.new.self never × NoneBefore (waits_of c.end_before.new.self) never)
    c.in_default.is c.in_ok-found.ensures.ended refl in
    kept_finished c.args.self.now calls kept c.end_before.new.self ended.0 ended.1

module _ (c : goal.After-struct_known-1) where
  out : IsRuledOut c.args.self.now never c.in-Some.found
  out = subst (λ (o : Option Found). IfSome o (IsRuledOut c.args.self.now never)) c.in-Some.is c.in_ok-found.ensures.flawed

pub overflow_add-result : goal.overflow_add-result
overflow_add-result c =
    let kept = c.requires.kept in
    let found = subst (λ (o : Option Found). IfSome o (IsRuledOut c.args.self.now never)) c.in-Some.is c.in_ok-found.ensures.flawed in
    let below = flaw_below c.args.self.now kept.0 kept.2 c.in-Some.found.number c.in-Some.found.flaw (found kept.0 kept.2.stands).1 in
    let long = kept.1 in let lines = c.requires.lines in omega (arith, below, long, lines)

pub returns-clause-judged : goal.returns-clause-judged
returns-clause-judged c = λ calls kept. kept_flawed c.args.self.now calls kept c.in-Some.found (out c)

pub returns-in_err-found-clause-stopped : goal.returns-in_err-found-clause-stopped
returns-in_err-found-clause-stopped c =
    handed_on c.from_residual.result c.in_err-found.field-0.0 _ c.from_residual.ensures.1
    (λ calls kept. let stops = c.in_err-found.ensures.stopped calls kept.stands in (at_below calls c.in_err-found.field-0.0.number stops.0.0 stops.0.1, stops.1))
