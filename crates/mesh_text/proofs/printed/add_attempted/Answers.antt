use Rattle.std.proofs.Common.{◌++◌, Option, List, ℕ, append-nil, ap, sym, ◌∙◌}
use Rattle.std.proofs.lemmas.Result.{on_ok_weaker}
use Rattle.model_words.specs.declared.commands.Command.{Command}
use Rattle.mesh_text.specs.Echo.{command_field}
use Rattle.mesh_text.proofs.AttemptFields.{command_is_next, no_attempt}
use Rattle.mesh_text.proofs.printed.add_attempted.Goals as goal

pub returns-in-Run : goal.returns-in-Run
returns-in-Run c =
    on_ok_weaker c.add_command_field.result
    (λ added state at. rw c.in-Run.is (added ∙ ap (λ (command : Option Command). c.args.text.now.items ++ command_field command)
    (c.next_command.ensures ∙ command_is_next _ _ _ _ c.in-Run.worker at))) c.add_command_field.ensures

pub returns-in_default : goal.returns-in_default
returns-in_default c = λ state at.
    sym (ap (λ (added : List ℕ). c.args.text.now.items ++ added) (no_attempt state c.args.line.now c.in_default.not-Run) ∙ append-nil c.args.text.now.items)
