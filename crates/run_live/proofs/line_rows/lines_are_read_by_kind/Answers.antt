use Rattle.std.proofs.Common.{refl}
use Rattle.std.specs.Fmt.{digits}
use Rattle.run_live.proofs.line_rows.lines_are_read_by_kind.Goals as goal

pub returns-clause-attempts : goal.returns-clause-attempts
unfolding digits
returns-clause-attempts c = (refl, refl, refl)

pub returns-clause-calls : goal.returns-clause-calls
unfolding digits
returns-clause-calls c = (refl, refl, refl)

pub returns-clause-words : goal.returns-clause-words
unfolding digits
returns-clause-words c = (refl, refl, refl, refl, refl, refl, refl, refl)

pub returns-clause-fields : goal.returns-clause-fields
unfolding digits
returns-clause-fields c = (refl, refl, refl, refl, refl, refl)
