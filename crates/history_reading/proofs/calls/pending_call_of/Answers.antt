use Rattle.text_fields.specs.Lines.{texts}
use Rattle.history_reading.proofs.PendingCalls.{pending_read}
use Rattle.history_reading.proofs.calls.pending_call_of.Goals as goal

pub returns : goal.returns
returns c =
    pending_read (texts c.args.fields.now) c.in_ok-asked.asked c.unknown_reply-reply.result c.in_ok-asked.ensures.0 c.in_ok-asked.ensures.1
    c.unknown_reply-reply.ensures.reply c.unknown_reply-reply.ensures.narrow
