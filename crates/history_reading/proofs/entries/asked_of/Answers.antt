use Rattle.history_reading.proofs.Arrows.{none_asked}
use Rattle.history_reading.proofs.entries.asked_of.Goals as goal

pub returns-in_default-clause-err : goal.returns-in_default-clause-err
returns-in_default-clause-err c = none_asked c.args.fields.now c.in_default.len_below
