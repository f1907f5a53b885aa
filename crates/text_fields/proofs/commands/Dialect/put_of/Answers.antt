use Rattle.std.proofs.Common.{◌≡◌, Ok, refl, subst, sym, rules}
use Rattle.std.proofs.lemmas.Result.{err_from_is_err_and}
use Rattle.model_jobs.specs.JobFiles.{bytes_in, put_in}
use Rattle.model_words.specs.Words.{◌>>=◌}
use Rattle.model_words.specs.declared.commands.Command.TheVariants.{Put}
use Rattle.text_fields.specs.Commands.{most_bytes, rules_of}
use Rattle.text_fields.specs.Lines.{texts}
use Rattle.text_fields.specs.Fields.{IsUnread}
use Rattle.text_fields.proofs.Unread.{rules_most, unread_then}
use Rattle.text_fields.proofs.commands.Dialect.put_of.Goals as goal

pub returns-in_err-bytes : goal.returns-in_err-bytes
returns-in_err-bytes c =
    let p = err_from_is_err_and c.from_residual-in_err-bytes.result c.from_residual-in_err-bytes.ensures.1 in
    let same = rules_most c.args.self in
    let is : put_in (rules_of c.args.self) (texts c.args.fields.now)
    ≡ (bytes_in c.most_bytes.result c.in_ok-of.stored.now >>= λ bytes. Ok (Put c.in_ok-of-2.of c.in_ok-off.off (record { items = bytes })))
    = rw (c.in_ok-of.ensures.ok, sym c.in_ok-of-2.ensures.value, sym c.in_ok-off.ensures.value, same, c.most_bytes.ensures) refl in
    let unread : IsUnread c.most_bytes.result (bytes_in c.most_bytes.result c.in_ok-of.stored.now) c.in_err-bytes.field-0.0 = search rules in
    let none = subst (λ m. IsUnread m (bytes_in c.most_bytes.result c.in_ok-of.stored.now) c.in_err-bytes.field-0.0) c.most_bytes.ensures unread in
    rw (p.1, p.2, is) (unread_then (most_bytes c.args.self) _ _ _ none)
