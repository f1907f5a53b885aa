-- What wasn't read.
use Rattle.std.proofs.Common.{◌≡◌, ℕ, Result, ap, refl}
use Rattle.model_words.specs.Words.{◌>>=◌}
use Rattle.model_words.specs.declared.faults.FaultKind.{FaultKind}
use Rattle.text_fields.specs.Commands.{most_bytes, rules_of}
use Rattle.text_fields.specs.Fields.{IsUnread}
use Rattle.text_fields.specs.declared.commands.Dialect.{Dialect}
use Rattle.text_fields.specs.declared.commands.Dialect.TheVariants.{Job, History}
use Rattle.text_fields.specs.declared.faults.LineFault.{LineFault}
use Rattle.text_fields.specs.declared.faults.LineFault.TheVariants.{Kind, Memory}

-- the two names of the most bytes of a dialect's command
pub rules_most : (dialect : Dialect) → (rules_of dialect).most ≡ most_bytes dialect
rules_most (Job version) = refl
rules_most History = refl

-- what isn't read leaves unread what comes of it
pub unread_then : {A B : Type 0} (most : ℕ) (read : Result A FaultKind) (next : A → Result B FaultKind) (fault : LineFault) → IsUnread most read fault
    → IsUnread most (read >>= next) fault
unread_then most read next (Kind kind) unread = ap (λ r. r >>= next) unread
unread_then most read next Memory unread = unread
