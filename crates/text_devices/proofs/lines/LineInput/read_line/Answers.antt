use Rattle.std.proofs.Common.{rules, true, false, refl, ◌∙◌}
use Rattle.text_devices.proofs.LineSteps.{handed_on}
use Rattle.text_devices.specs.LineInputs.{HasStopped}
use Rattle.text_devices.specs.LineSteps.{IsUsedUp}
use Rattle.text_devices.specs.Pendings.{HasBytes}
use Rattle.text_devices.specs.declared.lines.LineInput.{LineInput}
use Rattle.text_devices.proofs.LineInputs.{ended, ended_faulty, read_on, stopped}
use Rattle.text_devices.proofs.lines.LineInput.read_line.Goals as goal

pub returns-in_err-take_line-clause-stopped : goal.returns-in_err-take_line-clause-stopped
returns-in_err-take_line-clause-stopped g c = λ left lines come.
    let left_now = g.I.Source.remaining c.loop-self.input in
    let error = c.in_err-take_line.field-0.0 in
    handed_on c.from_residual.result error (HasStopped left left_now lines) c.from_residual.ensures.1
    (stopped c.loop-self.self left left_now lines error (c.loop-self.invariant.begun left lines come) c.in_err-take_line.ensures.fault)

pub returns-in_err-finish-clause-stopped : goal.returns-in_err-finish-clause-stopped
returns-in_err-finish-clause-stopped g c = λ left lines come.
    let mid = c.take_line.new.self in
    let new : LineInput = record { lines = mid.lines; line = mid.line; pending = c.read.new.self } in
    let before = g.I.Source.remaining c.loop-self.input in
    let left_now = g.I.Source.remaining c.read.new.input in
    let used : IsUsedUp c.loop-self.self mid = c.in_ok-take_line.ensures.used_up (search rules) in
    let bytes : HasBytes c.read.new.self before left_now false = search rules in
    let error = c.in_err-finish.field-0.0 in
    let begun = read_on c.loop-self.self mid new left before left_now lines false (c.loop-self.invariant.begun left lines come) used refl refl bytes in
    handed_on c.from_residual-in_err-finish.result error (HasStopped left left_now lines) c.from_residual-in_err-finish.ensures.1
    (ended_faulty new left left_now lines error begun (bytes.is_none refl).0 (bytes.is_none refl).1 c.in_err-finish.ensures.fault)

pub returns-then-not-branch-clause-ended : goal.returns-then-not-branch-clause-ended
returns-then-not-branch-clause-ended g c = λ left lines come _.
    let mid = c.take_line.new.self in
    let new : LineInput = record { lines = mid.lines; line = mid.line; pending = c.read.new.self } in
    let before = g.I.Source.remaining c.loop-self.input in
    let left_now = g.I.Source.remaining c.read.new.input in
    let used : IsUsedUp c.loop-self.self mid = c.in_ok-take_line.ensures.used_up (search rules) in
    let bytes : HasBytes c.read.new.self before left_now false = search rules in
    let begun = read_on c.loop-self.self mid new left before left_now lines false (c.loop-self.invariant.begun left lines come) used refl refl bytes in
    ended new left left_now lines begun (bytes.is_none refl).0 (bytes.is_none refl).1 c.in_ok-finish.ensures.ok

pub loop-self-preserved : goal.loop-self-preserved
loop-self-preserved g c =
    let mid = c.take_line.new.self in
    let new : LineInput = record { lines = mid.lines; line = mid.line; pending = c.read.new.self } in
    let before = g.I.Source.remaining c.loop-self.input in
    let left_now = g.I.Source.remaining c.read.new.input in
    let used : IsUsedUp c.loop-self.self mid = c.in_ok-take_line.ensures.used_up (search rules) in
    let bytes : HasBytes c.read.new.self before left_now true = search rules in record {
      input = search rules;
      count = used.count ∙ c.loop-self.invariant.count;
      begun = λ left lines come.
          read_on c.loop-self.self mid new left before left_now lines true (c.loop-self.invariant.begun left lines come) used refl refl bytes;
    }
