use Rattle.std.proofs.Common.{subst}
use Rattle.text_fields.specs.Commands.{plain_command}
use Rattle.text_words.specs.RecordedWords.{plain_reply}
use Rattle.text_words.specs.declared.recorded.RecordedReply.{RecordedReply}
use Rattle.history_in_order.specs.Reasons.{IsDifference}
use Rattle.history_in_order.proofs.Judged.{told_answer, wrong_answer}
use Rattle.history_in_order.proofs.Lines.{no_line}
use Rattle.history_in_order.proofs.Loads.{byte_told}
use Rattle.history_in_order.proofs.memory.Tracked.judge_answer.Goals as goal

pub returns-clause-wrong : goal.returns-clause-wrong
returns-clause-wrong c =
    wrong_answer c.args.self.now c.answer.new.self (plain_command c.args.command.now) (plain_reply c.args.reply.now) (plain_reply c.in_ok-wanted.wanted) c.requires.other
    c.in_ok-wanted.ensures.answered (λ same. absurd (cc (c.if-is_same.ensures.1 same)))

pub returns-clause-told : goal.returns-clause-told
returns-clause-told c =
    let command = plain_command c.args.command.now in
    let reply = c.args.reply.now in
    let wanted = c.in_ok-wanted.wanted in
    let byte = c.different_byte-byte.result in
    told_answer c.args.self.now c.answer.new.self command reply wanted byte c.difference.result c.requires.other c.in_ok-wanted.ensures.answered
    (byte_told c.args.self.now c.answer.new.self command reply wanted byte c.in_ok-wanted.ensures.answered c.answer.ensures.loads c.in_ok-wanted.ensures.changes
    c.different_byte-byte.ensures.byte c.different_byte-byte.ensures.none)
    (subst (λ (a : RecordedReply). IsDifference a wanted byte c.difference.result) c.in_ok-copied.ensures c.difference.ensures)

pub returns-clause-maker : goal.returns-clause-maker
returns-clause-maker c = λ entries.
    no_line c.in_ok-copied.field-0 c.in_ok-wanted.wanted c.different_byte-byte.result c.difference.result entries c.difference.ensures
