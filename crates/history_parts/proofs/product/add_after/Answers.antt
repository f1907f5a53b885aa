use Rattle.std.proofs.Common.{sym, ◌∙◌}
use Rattle.history_object.specs.ObjectBytes.{effect}
use Rattle.history_parts.proofs.Gathered.{stored_taken}
use Rattle.history_parts.proofs.product.add_after.Goals as goal

pub returns-in_ok-_number : goal.returns-in_ok-_number
returns-in_ok-_number c =
    stored_taken effect c.args.store.now c.args.configuration.now _ c.args.all.now c.number_of.new.self c.in_ok-_number.ensures.taken
    (c.in_ok-_number._number, c.in_ok-_number.ensures.named) (sym c.in_ok-state.ensures ∙ c.in-Some.is, c.copied-done.ensures)
