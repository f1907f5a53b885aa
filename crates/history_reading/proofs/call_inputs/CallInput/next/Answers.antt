use Rattle.std.proofs.Common.{◌+◌, ◌≤◌, ap, subst, sym, ◌≡◌, ◌++◌, ◌∷◌, [], ◌∙◌, rules, refl, arith}
use Rattle.history_reading.proofs.Readings.{handed_on}
use Rattle.text_devices.specs.LineInputs.{HasCome as LinesCome, HasEnded as LinesEnded, line_of, lines_of}
use Rattle.text_devices.specs.declared.lines.LineInput.{LineInput}
use Rattle.history_reading.specs.CallFaults.{call_error_of}
use Rattle.history_reading.specs.CallInputs.{HasStopped, lines_before}
use Rattle.history_reading.specs.declared.call_inputs.CallInput.{CallInput}
use Rattle.history_reading.proofs.CallInputs.{call_came, head_came, input_ended, input_stopped, line_stopped, lines_before_it}
use Rattle.history_reading.proofs.call_inputs.CallInput.next.Goals as goal

pub returns-in_err-read_line-clause-stopped : goal.returns-in_err-read_line-clause-stopped
returns-in_err-read_line-clause-stopped g c = λ left calls first.
    let old = c.loop-self.self in
    let before = g.I.Source.remaining c.loop-self.input in
    let left_now = g.I.Source.remaining c.read_line.new.input in
    let come = c.loop-self.invariant.come left calls first in
    let error = c.in_err-read_line.field-0.0 in
    handed_on c.from_residual.result (call_error_of error) (HasStopped left left_now calls) c.from_residual.ensures.1
    (input_stopped old left before left_now calls error come (c.in_err-read_line.ensures.stopped left come.lines come.come))

pub returns-then-not-branch-clause-ended : goal.returns-then-not-branch-clause-ended
returns-then-not-branch-clause-ended g c = λ left calls first _.
    let old = c.loop-self.self in
    let new : CallInput = record { lines = c.read_line.new.self; order = old.order; alloc = old.alloc } in
    let before = g.I.Source.remaining c.loop-self.input in
    let left_now = g.I.Source.remaining c.read_line.new.input in
    let come = c.loop-self.invariant.come left calls first in
    let ended : LinesEnded left left_now come.lines = c.in_ok-read_line.ensures.ended left come.lines come.come (search rules) in
    input_ended old new left before left_now calls come ended (c.in_ok-read_line.ensures.no_more (search rules))

pub returns-in_err-call-clause-stopped : goal.returns-in_err-call-clause-stopped
returns-in_err-call-clause-stopped g c = λ left calls first.
    let old = c.loop-self.self in
    let new : CallInput = record { lines = c.read_line.new.self; order = old.order; alloc = old.alloc } in
    let before = g.I.Source.remaining c.loop-self.input in
    let left_now = g.I.Source.remaining c.read_line.new.input in
    let come = c.loop-self.invariant.come left calls first in
    let line = line_of c.read_line.new.self in
    let lines : LinesCome c.read_line.new.self left left_now (come.lines ++ line ∷ []) = c.in_ok-read_line.ensures.line left come.lines come.come (search rules) in
    let error = c.in_err-call.field-0.0 in
    handed_on c.from_residual-in_err-call.result error (HasStopped left left_now calls) c.from_residual-in_err-call.ensures.1
    (line_stopped old new left before left_now calls line error come lines
    (c.in_err-call.ensures.taken _ calls (lines_before_it new left left_now come.lines line lines) come.order))

pub returns-in-Some-clause-call : goal.returns-in-Some-clause-call
returns-in-Some-clause-call g c = λ left calls first.
    let old = c.loop-self.self in
    let mid : CallInput = record { lines = c.read_line.new.self; order = old.order; alloc = old.alloc } in
    let new = c.take_line.new.self in
    let before = g.I.Source.remaining c.loop-self.input in
    let left_now = g.I.Source.remaining c.read_line.new.input in
    let come = c.loop-self.invariant.come left calls first in
    let line = line_of c.read_line.new.self in
    let lines : LinesCome c.read_line.new.self left left_now (come.lines ++ line ∷ []) = c.in_ok-read_line.ensures.line left come.lines come.come (search rules) in
    let same : new.lines ≡ c.read_line.new.self = c.in_ok-call.ensures.same in
    let taken = rw c.in-Some.is at (c.in_ok-call.ensures.taken _ calls (lines_before_it mid left left_now come.lines line lines) come.order) in
    let second : 2 ≤ lines_before mid = rw c.in-Some.is at c.in_ok-call.ensures.call in
    call_came old new left before left_now calls line c.in-Some.call come
    (subst (λ (input : LineInput). LinesCome input left left_now (come.lines ++ line ∷ [])) (sym same) lines)
    (subst (λ (input : LineInput). 2 ≤ lines_of input) (sym same) second) taken.0 taken.1 taken.2

pub loop-self-preserved : goal.loop-self-preserved
loop-self-preserved g c =
    let old = c.loop-self.self in
    let mid : CallInput = record { lines = c.read_line.new.self; order = old.order; alloc = old.alloc } in
    let new = c.take_line.new.self in
    let before = g.I.Source.remaining c.loop-self.input in
    let left_now = g.I.Source.remaining c.read_line.new.input in
    let line = line_of c.read_line.new.self in
    let same : new.lines ≡ c.read_line.new.self = c.in_ok-call.ensures.same in
    let count : lines_of new.lines ≡ lines_of c.read_line.new.self = ap lines_of same in
    let more : lines_of c.read_line.new.self ≡ lines_of old.lines + 1 = c.in_ok-read_line.ensures.counted (search rules) in
    let one : lines_before mid ≡ 1 = (rw c.in_default.is at c.in_ok-call.ensures.head) refl in record {
      input = search rules;
      later = omega (arith, count, more, c.loop-self.invariant.later);
      come = λ left calls first.
          let come = c.loop-self.invariant.come left calls first in
          let lines : LinesCome c.read_line.new.self left left_now (come.lines ++ line ∷ []) = c.in_ok-read_line.ensures.line left come.lines come.come (search rules) in
          let taken = rw c.in_default.is at (c.in_ok-call.ensures.taken _ calls (lines_before_it mid left left_now come.lines line lines) come.order) in
          head_came old new left before left_now calls line come
          (subst (λ (input : LineInput). LinesCome input left left_now (come.lines ++ line ∷ [])) (sym same) lines)
          (count ∙ one) taken.0 taken.1;
    }
