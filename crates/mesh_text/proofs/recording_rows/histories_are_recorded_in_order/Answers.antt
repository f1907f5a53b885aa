use Rattle.std.proofs.Common.{refl}
use Rattle.std.specs.Fmt.{digits}
use Rattle.mesh_text.specs.Recordings.{recorded_text}
use Rattle.mesh_text.proofs.recording_rows.histories_are_recorded_in_order.Goals as goal

pub returns : goal.returns
unfolding recorded_text digits
returns c = record { none = refl; each = refl }
