use Rattle.std.proofs.Common.{◌≡◌, Ok, false, rules}
use Rattle.history_reading.specs.CallFiles.{call_in}
use Rattle.history_reading.specs.CallReadings.{is_in_order}
use Rattle.history_reading.specs.CallWords.{plain_call}
use Rattle.text_devices.specs.LineInputs.{line_of}
use Rattle.history_reading.proofs.CallInputs.{out_of_order}
use Rattle.history_reading.proofs.call_inputs.CallInput.take_line.Goals as goal

pub returns-then-not-branch-clause-taken : goal.returns-then-not-branch-clause-taken
returns-then-not-branch-clause-taken c = λ lines calls same order.
    let tested = c.in_ok-add.ensures.tested calls order in
    let out : is_in_order calls (plain_call c.in_ok-call.call) ≡ false = search rules in
    let read : call_in (line_of c.args.self.now.lines) ≡ Ok (plain_call c.in_ok-call.call) = search rules in
    out_of_order lines c.lines-number.result calls (line_of c.args.self.now.lines) (plain_call c.in_ok-call.call) (search rules) (search rules) (search rules) read out
