use Rattle.std.proofs.Common.{inl}
use Rattle.run_program.proofs.certificate.order_in.Goals as goal

pub returns-in-Ok-clause-none : goal.returns-in-Ok-clause-none
returns-in-Ok-clause-none c = λ none. inl (c.in-Ok.ensures.none none)
