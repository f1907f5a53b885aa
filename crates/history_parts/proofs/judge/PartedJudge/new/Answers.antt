use Rattle.std.proofs.Common.{List, sym, subst}
use Rattle.history_object.specs.Following.{HasSome}
use Rattle.history_object.specs.ObjectBytes.{effect}
use Rattle.history_parts.specs.declared.part.Part.{Part}
use Rattle.history_parts.specs.Parts.{whole}
use Rattle.history_parts.proofs.judge.PartedJudge.new.Goals as goal

pub returns-clause-some : goal.returns-clause-some
returns-clause-some c = subst (λ (l : List Part). HasSome effect (whole c.in_ok-judge.judge l)) (sym c.new-parts.ensures.items) c.in_ok-judge.ensures.some
