use Rattle.std.proofs.Common.{◌≡◌, ℕ, ◌+◌, true, List, [], ◌∷◌, ◌++◌, length, length-append, Option, arith, inl, inr, refl, sym, subst}
use Rattle.std.specs.Prelude.{IfSome, IsNone}
use Rattle.model_intervals.specs.Intervals.{Call}
use Rattle.history_reading.specs.CallReadings.{is_in_order}
use Rattle.history_reading.specs.CallWords.{plain_call}
use Rattle.history_overlaps.specs.Ends.{AreEnded, IsRuledOut, NoneBefore}
use Rattle.history_overlaps.specs.Queues.{MayBegin}
use Rattle.history_overlaps.specs.Standing.{IsMisusedSo, lives_of, waits_of}
use Rattle.history_overlaps.specs.Stops.{IsStoppedSo, StopsBefore}
use Rattle.history_overlaps.specs.Timelines.{FewOpen}
use Rattle.text_words.specs.RecordedWords.{plain_entry}
use Rattle.history_overlaps.specs.declared.misuses.NotBegun.{NotBegun}
use Rattle.history_overlaps.specs.declared.stops.Found.{Found}
use Rattle.history_overlaps.specs.Checks.{IsKept}
use Rattle.history_overlaps.specs.Misuses.{IsMisusedAt}
use Rattle.history_overlaps.proofs.CheckSteps.{begins_behind, flaw_below, kept_flawed_before, kept_on, may_begin, misused_before, misused_below}
use Rattle.history_overlaps.proofs.Stopped.{completed_by}
use Rattle.history_overlaps.proofs.UndecidedTexts.{completed_with}
use Rattle.text_devices.proofs.LineSteps.{handed_on}
use Rattle.history_overlaps.proofs.timeline.Timeline.take.Goals as goal

pub end_before-requires-clause-stands : goal.end_before-requires-clause-stands
end_before-requires-clause-stands c = let kept = c.requires.kept in (kept.0, kept.2.stands)

module _ (c : goal.After-struct_known-1) where
  out : IsRuledOut c.args.self.now c.args.call.now.begin c.in-Some.found
  out = subst (λ (m : ℕ). IsRuledOut c.args.self.now m c.in-Some.found) c.from.ensures
      (subst (λ (o : Option Found). IfSome o (IsRuledOut c.args.self.now c.from.result)) c.in-Some.is c.in_ok-found.ensures.flawed)

pub overflow_add-result : goal.overflow_add-result
overflow_add-result c =
    let kept = c.requires.kept in
    let found = subst (λ (o : Option Found). IfSome o (IsRuledOut c.args.self.now c.from.result)) c.in-Some.is c.in_ok-found.ensures.flawed in
    let below = flaw_below c.args.self.now kept.0 kept.2 c.in-Some.found.number c.in-Some.found.flaw (found kept.0 kept.2.stands).1 in
    let long = kept.1 in let lines = c.requires.lines in omega (arith, below, long, lines)

pub returns-in-Some-clause-judged : goal.returns-in-Some-clause-judged
returns-in-Some-clause-judged c = λ calls long kept in_order.
    let read = c.requires.is_read in let begins = read.takes_time in let ends = read.ends in
    kept_flawed_before c.args.self.now calls kept (plain_call c.args.call.now) c.in-Some.found (omega (arith, begins, ends)) (out c)

pub begin-requires-clause-few : goal.begin-requires-clause-few
begin-requires-clause-few c =
    let ended = subst (λ (o : Option Found). IsNone o → AreEnded c.args.self.now c.end_before.new.self c.from.result × NoneBefore (waits_of c.end_before.new.self) c.from.result) c.in_default.is
    c.in_ok-found.ensures.ended in
    (ended refl).0.few c.args.number c.requires.few

pub returns-in-Ok-clause-taken : goal.returns-in-Ok-clause-taken
returns-in-Ok-clause-taken c = λ none calls long kept in_order.
    let ended = subst (λ (o : Option Found). IsNone o → AreEnded c.args.self.now c.end_before.new.self c.from.result × NoneBefore (waits_of c.end_before.new.self) c.from.result) c.in_default.is
    c.in_ok-found.ensures.ended in
    let here = subst (λ (m : ℕ). AreEnded c.args.self.now c.end_before.new.self m × NoneBefore (waits_of c.end_before.new.self) m) c.from.ensures (ended refl) in
    let call = plain_call c.args.call.now in let read = c.requires.is_read in
    kept_on c.args.self.now calls kept c.end_before.new.self c.begin.new.self call here.0 here.1 in_order read.takes_time read.ends read.effect read.cell
    (let small = c.ranges.number.fits in omega (arith, small, long))
    (λ stands may. c.in-Ok.ensures.stands calls call.begin long stands may)
    (λ past. c.in-Ok.ensures.past calls call call.begin long refl past)
    (subst (λ (n : ℕ). FewOpen (lives_of c.begin.new.self) (n + 1)) (sym long) c.in-Ok.ensures.few)

-- the calls that have begun, as one more begins
module _ (c : goal.After-struct_known-in-Err-Misused-1) where
  ended_now : AreEnded c.args.self.now c.end_before.new.self c.args.call.now.begin × NoneBefore (waits_of c.end_before.new.self) c.args.call.now.begin
  ended_now = subst (λ (m : ℕ). AreEnded c.args.self.now c.end_before.new.self m × NoneBefore (waits_of c.end_before.new.self) m) c.from.ensures
      (subst (λ (o : Option Found). IsNone o → AreEnded c.args.self.now c.end_before.new.self c.from.result × NoneBefore (waits_of c.end_before.new.self) c.from.result) c.in_default.is
      c.in_ok-found.ensures.ended refl)

  may_now : (calls : List Call) → length calls ≡ c.args.number → IsKept c.args.self.now calls → is_in_order calls (plain_call c.args.call.now) ≡ true
      → MayBegin calls (waits_of c.end_before.new.self) (plain_call c.args.call.now)
  may_now calls long kept in_order =
      let call = plain_call c.args.call.now in let read = c.requires.is_read in
      may_begin c.args.self.now calls kept c.end_before.new.self c.end_before.new.self call ended_now.0 ended_now.1 in_order read.takes_time read.ends read.effect read.cell
      (let small = c.ranges.number.fits in omega (arith, small, long))

  misused_by : (calls : List Call) → length calls ≡ c.args.number → IsKept c.args.self.now calls → is_in_order calls (plain_call c.args.call.now) ≡ true
      → IsMisusedAt (calls ++ plain_call c.args.call.now ∷ []) c.in-Err-Misused.misused.number c.in-Err-Misused.misused.misuse
  misused_by calls long kept in_order =
      let call = plain_call c.args.call.now in
      let told = subst (λ (b : NotBegun). IsMisusedSo c.end_before.new.self c.args.number (plain_entry c.args.call.now.entry) b) c.in-Err-Misused.field-0-is c.in-Err-Misused.ensures.misused in
      told calls call long refl (ended_now.0.stands calls kept.stands) (may_now calls long kept in_order)

pub overflow_add-result-in-Err-Misused : goal.overflow_add-result-in-Err-Misused
overflow_add-result-in-Err-Misused c =
    let kept = c.requires.kept in
    let below = misused_below (kept.0 ++ plain_call c.args.call.now ∷ []) c.in-Err-Misused.misused.number c.in-Err-Misused.misused.misuse
    (misused_by c kept.0 kept.1 kept.2 kept.3) in
    let one_more = length-append kept.0 (plain_call c.args.call.now ∷ []) in
    let long = kept.1 in let lines = c.requires.lines in omega (arith, below, one_more, long, lines)

pub returns-in-Err-Misused-clause-judged : goal.returns-in-Err-Misused-clause-judged
returns-in-Err-Misused-clause-judged c = λ calls long kept in_order.
    let call = plain_call c.args.call.now in let read = c.requires.is_read in
    misused_before calls call c.in-Err-Misused.misused.number c.in-Err-Misused.misused.misuse (misused_by c calls long kept in_order) in_order
    (completed_with calls call read.takes_time (begins_behind calls call in_order)
    (completed_by c.end_before.new.self calls call ((ended_now c).0.stands calls kept.stands) (may_now c calls long kept in_order)))

pub returns-in_err-found-clause-stopped : goal.returns-in_err-found-clause-stopped
returns-in_err-found-clause-stopped c =
    let call = plain_call c.args.call.now in
    handed_on c.from_residual.result c.in_err-found.field-0.0 _ c.from_residual.ensures.1
    (λ calls long kept in_order. inl (subst (λ (m : ℕ). StopsBefore calls m c.args.most c.in_err-found.field-0.0) c.from.ensures
    (c.in_err-found.ensures.stopped calls kept.stands)))

pub returns-in-Err-Fault-clause-stopped : goal.returns-in-Err-Fault-clause-stopped
returns-in-Err-Fault-clause-stopped c = λ calls long kept in_order.
    let call = plain_call c.args.call.now in let read = c.requires.is_read in
    let ended = subst (λ (m : ℕ). AreEnded c.args.self.now c.end_before.new.self m × NoneBefore (waits_of c.end_before.new.self) m) c.from.ensures
    (subst (λ (o : Option Found). IsNone o → AreEnded c.args.self.now c.end_before.new.self c.from.result × NoneBefore (waits_of c.end_before.new.self) c.from.result) c.in_default.is
    c.in_ok-found.ensures.ended refl) in
    let may = may_begin c.args.self.now calls kept c.end_before.new.self c.end_before.new.self call ended.0 ended.1 in_order read.takes_time read.ends read.effect read.cell
    (let small = c.ranges.number.fits in omega (arith, small, long)) in
    let stopped = subst (λ (b : NotBegun). IsStoppedSo c.end_before.new.self c.args.number (plain_entry c.args.call.now.entry) b) c.in-Err-Fault.field-0-is c.in-Err-Fault.ensures.stopped in
    inr (sym long, stopped calls call long refl (ended.0.stands calls kept.stands) may)
