use Rattle.std.proofs.Common.{sym}
use Rattle.std.proofs.lemmas.List.{take_rest}
use Rattle.std.proofs.lemmas.Result.{err_from_is_err_and}
use Rattle.history_reading.proofs.CallLines.{command_unread, none_asked}
use Rattle.history_reading.proofs.asked.call_asked_of.Goals as goal

pub returns-in_default : goal.returns-in_default
returns-in_default c = none_asked c.args.fields.now c.in_default.len_below

pub returns-in_err-command : goal.returns-in_err-command
returns-in_err-command c =
    let p = err_from_is_err_and c.from_residual-in_err-command.result c.from_residual-in_err-command.ensures.1 in
    let unread = rw (take_rest c.args.fields.now 4) at c.in_err-command.ensures in
    rw (p.1, p.2) (command_unread c.args.fields.now _ _ _ _ _ _ _ _ c.in-len4-up.len_at_least (sym c.in_ok-worker.ensures.value) (sym c.in_ok-begin.ensures.value)
    c.in_ok-end.ensures.ok.0 unread)
