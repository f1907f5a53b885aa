use Rattle.std.proofs.Common.{◌≡◌, ◌<◌, ◌++◌, List, ℕ, refl, ◌∙◌, subst, rules, arith}
use Rattle.text_fields.proofs.KeptLines.{cut_unended, rest_unended}
use Rattle.text_devices.proofs.LineSteps.{handed_on}
use Rattle.text_devices.specs.LineInputs.{line_of, lines_of, unread_of}
use Rattle.text_devices.specs.LineSteps.{IsFaulty, IsNotKept}
use Rattle.text_devices.proofs.LineSteps.{long_line_begun, long_line_ended, next_line, rest_is_left}
use Rattle.text_devices.proofs.lines.LineInput.take_line.Goals as goal
use Rattle.text_devices.proofs.lines.LineInput.take_line.Goals.{else-self-via-then-self+else-not-is_empty, else-self-via-else-self}

pub keep-requires : goal.keep-requires
keep-requires c = rest_unended c.as_slice-bytes.result.now (c.in_default.ensures.none refl)

pub returns-in_err-keep-clause-fault : goal.returns-in_err-keep-clause-fault
returns-in_err-keep-clause-fault c =
    let error = c.in_err-keep.field-0.0 in
    let same : c.as_slice-bytes.result.now ≡ unread_of c.args.self.now = c.as_slice-bytes.ensures in
    handed_on c.from_residual.result error (IsFaulty c.args.self.now) c.from_residual.ensures.1
    (long_line_begun c.args.self.now error (rw same at (c.in_default.ensures.none refl))
    (subst (λ (bytes : List ℕ). IsNotKept (lines_of c.args.self.now) (line_of c.args.self.now ++ bytes) error) same c.in_err-keep.ensures.fault))

pub keep-requires-2 : goal.keep-requires-2
keep-requires-2 c = cut_unended c.as_slice-bytes.result.now c.in-Some.last.now c.in-Some.rest.now c.in-Some.ensures.some

pub returns-in_err-keep-2-clause-fault : goal.returns-in_err-keep-2-clause-fault
returns-in_err-keep-2-clause-fault c =
    let error = c.in_err-keep-2.field-0.0 in
    let same : c.as_slice-bytes.result.now ≡ unread_of c.args.self.now = c.as_slice-bytes.ensures in
    handed_on c.from_residual-in_err-keep-2.result error (IsFaulty c.args.self.now) c.from_residual-in_err-keep-2.ensures.1
    (long_line_ended c.args.self.now c.in-Some.last.now c.in-Some.rest.now error (rw same at c.in-Some.ensures.some) c.in_err-keep-2.ensures.fault)

pub returns-clause-next : goal.returns-clause-next
returns-clause-next c = λ _.
    let same : c.as_slice-bytes.result.now ≡ unread_of c.args.self.now = c.as_slice-bytes.ensures in
    let cut = rw same at c.in-Some.ensures.some in
    let few : lines_of c.args.self.now < 4294967295 = elim c.else-self.branch [
      | else-self-via-then-self+else-not-is_empty w ↦ search rules
      | else-self-via-else-self w ↦ search rules
    ] in
    next_line c.args.self.now _ c.in-Some.last.now c.in-Some.rest.now cut c.in_ok-keep-2.ensures.ok
    (c.keep_last-2.ensures ∙ rest_is_left (unread_of c.args.self.now) c.in-Some.last.now c.in-Some.rest.now cut) refl (omega (arith, few))
