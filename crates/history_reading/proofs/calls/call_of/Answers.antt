use Rattle.text_fields.specs.Lines.{texts}
use Rattle.history_reading.proofs.CallLines.{call_read}
use Rattle.history_reading.proofs.calls.call_of.Goals as goal

pub returns : goal.returns
returns c =
    call_read (texts c.args.before.now) (texts c.args.behind.now) c.in_ok-asked.asked c.in_ok-reply.reply c.in_ok-asked.ensures.0 c.in_ok-asked.ensures.1
    c.in_ok-reply.ensures.read.0 c.in_ok-reply.ensures.read.1 c.in_ok-reply.ensures.effect
