use Rattle.std.proofs.Common.{List, ap, subst, sym}
use Rattle.std.specs.Prelude.{IfOk, IfSome, IsNone}
use Rattle.model_memory.specs.Plain.{Entry}
use Rattle.text_fields.specs.Commands.{plain_command}
use Rattle.text_words.specs.RecordedWords.{plain_entry, plain_reply}
use Rattle.text_fields.specs.declared.commands.SpeltCommand.{SpeltCommand}
use Rattle.history_in_order.specs.Judged.{IsTaken, IsWrong, is_new}
use Rattle.history_in_order.specs.Lines.{AreLined, HasLine}
use Rattle.history_in_order.specs.Reasons.{Tells}
use Rattle.history_in_order.proofs.Judged.{none_for_one, some_for_one}
use Rattle.history_in_order.proofs.Lines.{none_lined, none_more, one_lined, some_more}
use Rattle.history_in_order.proofs.memory.Tracked.judge.Goals as goal

pub returns-in-New-clause-taken : goal.returns-in-New-clause-taken
returns-in-New-clause-taken c =
    subst (λ (command : SpeltCommand). IfOk c.judge_new.result (λ reason. IsNone reason
    → IsTaken c.args.self.now c.judge_new.new.self (plain_command command) (plain_reply c.args.entry.now.reply))) (sym c.in-New.is)
    (none_for_one _ c.judge_new.result c.in-New.field-2 c.judge_new.ensures.taken)

pub returns-in-New-clause-wrong : goal.returns-in-New-clause-wrong
returns-in-New-clause-wrong c =
    subst (λ (command : SpeltCommand). IfOk c.judge_new.result (λ reason. IfSome reason
    (λ _. IsWrong c.args.self.now (plain_command command) (plain_reply c.args.entry.now.reply)))) (sym c.in-New.is)
    (some_for_one _ c.judge_new.result c.in-New.field-2 c.judge_new.ensures.wrong)

pub returns-in-New-clause-told : goal.returns-in-New-clause-told
returns-in-New-clause-told c =
    subst (λ (command : SpeltCommand). IfOk c.judge_new.result (λ reason. IfSome reason
    (Tells c.args.self.now (plain_command command) (plain_reply c.args.entry.now.reply)))) (sym c.in-New.is)
    (some_for_one _ c.judge_new.result c.in-New.field-2 c.judge_new.ensures.told)

pub returns-in-New-clause-lined : goal.returns-in-New-clause-lined
returns-in-New-clause-lined c =
    none_more c.judge_new.result (λ most entries is lined. one_lined entries c.args.self.now c.judge_new.new.self (plain_entry c.args.entry.now) c.args.line
    (ap (λ (command : SpeltCommand). is_new (plain_command command)) c.in-New.is) most is lined) c.judge_new.ensures.lined

pub returns-in_default-clause-lined : goal.returns-in_default-clause-lined
returns-in_default-clause-lined c =
    none_more c.judge_answer.result (λ none entries is lined. none_lined entries c.args.self.now c.judge_answer.new.self (plain_entry c.args.entry.now) none lined)
    c.judge_answer.ensures.lined

pub returns-in_default-clause-maker : goal.returns-in_default-clause-maker
returns-in_default-clause-maker c =
    some_more (λ why. (entries : List Entry) → HasLine entries why) (λ why. (entries : List Entry) → AreLined entries c.args.self.now → HasLine entries why)
    c.judge_answer.result (λ why told entries lined. told entries) c.judge_answer.ensures.maker
