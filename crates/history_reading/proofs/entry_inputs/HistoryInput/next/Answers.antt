use Rattle.std.proofs.Common.{rules, true, false, refl, ◌∙◌}
use Rattle.text_devices.specs.Faults.{replay_error_of}
use Rattle.history_reading.specs.EntryInputs.{HasStopped, IsUsedUp}
use Rattle.text_devices.specs.Pendings.{HasBytes}
use Rattle.history_reading.specs.declared.entry_inputs.HistoryInput.{HistoryInput}
use Rattle.history_reading.proofs.EntryInputs.{ended, ended_faulty, read_on, stopped}
use Rattle.history_reading.proofs.Readings.{handed_on}
use Rattle.history_reading.proofs.entry_inputs.HistoryInput.next.Goals as goal

pub returns-in_err-entry-clause-fault : goal.returns-in_err-entry-clause-fault
returns-in_err-entry-clause-fault g c = λ left entries come.
    let left_now = g.I.Source.remaining c.loop-entry.input in
    let fault = c.in_err-entry.field-0.0 in
    handed_on c.from_residual.result (replay_error_of fault) (HasStopped left left_now entries) c.from_residual.ensures.1
    (stopped c.loop-entry.self left left_now entries fault (c.loop-entry.invariant.come left entries come) c.in_err-entry.ensures.fault)

pub returns-in_err-finish-clause-fault : goal.returns-in_err-finish-clause-fault
returns-in_err-finish-clause-fault g c = λ left entries come.
    let new : HistoryInput = record { reader = c.take.new.self.reader; pending = c.read.new.self } in
    let before = g.I.Source.remaining c.loop-entry.input in
    let left_now = g.I.Source.remaining c.read.new.input in
    let used : IsUsedUp c.loop-entry.self c.take.new.self = c.in_ok-entry.ensures.used_up (search rules) in
    let bytes : HasBytes c.read.new.self before left_now false = search rules in
    let error = c.in_err-finish.field-0.0 in
    let come_on = read_on c.loop-entry.self c.take.new.self new left before left_now entries false (c.loop-entry.invariant.come left entries come) used refl bytes in
    handed_on c.from_residual-in_err-finish.result error (HasStopped left left_now entries) c.from_residual-in_err-finish.ensures.1
    (ended_faulty new left before left_now entries error come_on bytes c.in_err-finish.ensures.fault)

pub returns-then-not-branch-clause-ended : goal.returns-then-not-branch-clause-ended
returns-then-not-branch-clause-ended g c = λ left entries come _.
    let new : HistoryInput = record { reader = c.take.new.self.reader; pending = c.read.new.self } in
    let before = g.I.Source.remaining c.loop-entry.input in
    let left_now = g.I.Source.remaining c.read.new.input in
    let used : IsUsedUp c.loop-entry.self c.take.new.self = c.in_ok-entry.ensures.used_up (search rules) in
    let bytes : HasBytes c.read.new.self before left_now false = search rules in
    let come_on = read_on c.loop-entry.self c.take.new.self new left before left_now entries false (c.loop-entry.invariant.come left entries come) used refl bytes in
    ended new left before left_now entries come_on bytes c.in_ok-finish.ensures.ok

pub loop-entry-preserved : goal.loop-entry-preserved
loop-entry-preserved g c =
    let new : HistoryInput = record { reader = c.take.new.self.reader; pending = c.read.new.self } in
    let before = g.I.Source.remaining c.loop-entry.input in
    let left_now = g.I.Source.remaining c.read.new.input in
    let used : IsUsedUp c.loop-entry.self c.take.new.self = c.in_ok-entry.ensures.used_up (search rules) in
    let bytes : HasBytes c.read.new.self before left_now true = search rules in record {
      input = search rules;
      line = used.line ∙ c.loop-entry.invariant.line;
      come = λ left entries come.
          read_on c.loop-entry.self c.take.new.self new left before left_now entries true (c.loop-entry.invariant.come left entries come) used refl bytes;
    }
