use Rattle.std.proofs.Common.{subst}
use Rattle.savings_replay.proofs.ClassLaws.{objects_fit}
use Rattle.savings_replay.proofs.Kept.{seen_of}
use Rattle.savings_replay.specs.ClassLaws.{FitsPages}
use Rattle.savings_replay.specs.Placement.{Placement, table_of}
use Rattle.savings_replay.proofs.placement.Placement.sound.Goals as goal

pub returns-clause-fits : goal.returns-clause-fits
returns-clause-fits c = subst (λ (p : Placement). FitsPages (table_of p)) c.self.view_is (objects_fit (table_of (seen_of c.self.inside)) c.self.invariant.0.sound)
