-- The length of an object that was made.
use Rattle.std.proofs.Common.{◌≡◌, ◌≤◌, Some, subst}
use Rattle.model_words.specs.declared.commands.Command.{Command}
use Rattle.model_words.specs.declared.commands.Command.TheVariants.{New}
use Rattle.model_words.specs.declared.commands.Reply.{Reply}
use Rattle.model_words.specs.declared.commands.Reply.TheVariants.{Object as Made}
use Rattle.model_intervals.specs.Objects.{Object as AnObject, IsFairNew, object_made}

-- a fair object has some bytes
pub fair_length : (command : Command) (reply : Reply) (x : AnObject) → object_made command reply ≡ Some x → IsFairNew command reply → 1 ≤ x.len
fair_length (New cell len word) (Made serial address) x is fair =
    let same : record { cell = cell; len = len; serial = serial; address = address } ≡ x = cc is in
    subst (λ (y : AnObject). 1 ≤ y.len) same fair.0
fair_length command reply x is fair = absurd (cc is)
