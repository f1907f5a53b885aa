use Rattle.std.proofs.Common.{refl}
use Rattle.std.specs.Fmt.{digits}
use Rattle.mesh_text.specs.Histories.{history_text}
use Rattle.mesh_text.proofs.history_rows.histories_are_told_by_worker.Goals as goal

pub returns : goal.returns
unfolding history_text digits
returns c = record { none = refl; idle = refl; together = refl }
