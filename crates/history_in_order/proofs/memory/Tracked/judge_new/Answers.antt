use Rattle.std.proofs.Common.{ℕ, subst, sym}
use Rattle.std.specs.Prelude.{IfOk, IfSome, IsNone}
use Rattle.model_words.specs.declared.commands.Command.TheVariants.{New}
use Rattle.text_words.specs.RecordedWords.{plain_reply}
use Rattle.text_words.specs.declared.recorded.RecordedReply.{RecordedReply}
use Rattle.history_in_order.specs.Judged.{IsTaken, IsWrong}
use Rattle.history_in_order.specs.Reasons.{Tells}
use Rattle.history_in_order.proofs.memory.Tracked.judge_new.Goals as goal

pub returns-in-Object-clause-taken : goal.returns-in-Object-clause-taken
returns-in-Object-clause-taken c =
    subst (λ (reply : RecordedReply). IfOk c.judge_made.result (λ reason. IsNone reason → (word : ℕ)
    → IsTaken c.args.self.now c.judge_made.new.self (New c.args.cell c.args.len word) (plain_reply reply))) (sym c.in-Object.is) c.judge_made.ensures.taken

pub returns-in-Object-clause-wrong : goal.returns-in-Object-clause-wrong
returns-in-Object-clause-wrong c =
    subst (λ (reply : RecordedReply). IfOk c.judge_made.result (λ reason. IfSome reason (λ _. (word : ℕ)
    → IsWrong c.args.self.now (New c.args.cell c.args.len word) (plain_reply reply)))) (sym c.in-Object.is) c.judge_made.ensures.wrong

pub returns-in-Object-clause-told : goal.returns-in-Object-clause-told
returns-in-Object-clause-told c =
    subst (λ (reply : RecordedReply). IfOk c.judge_made.result (λ reason. IfSome reason (λ why. (word : ℕ)
    → Tells c.args.self.now (New c.args.cell c.args.len word) (plain_reply reply) why))) (sym c.in-Object.is) c.judge_made.ensures.told
