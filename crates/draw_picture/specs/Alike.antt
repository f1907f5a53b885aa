-- What a frame says of the steps of a mesh.
use Rattle.std.specs.Prelude.{ℕ, ◌-◌, Bool, min, nat_eq}
use Rattle.draw_picture.specs.Numbers.{counted}
use Rattle.draw_picture.specs.declared.frame.Frame.{Frame}
use Rattle.draw_picture.specs.declared.frame.Member.{Member}
use Rattle.draw_picture.specs.declared.frame.MeshProgress.{MeshProgress}
use Rattle.draw_picture.specs.declared.frame.MeshProgress.TheVariants.{Steps, Moves}
use Rattle.draw_picture.specs.declared.frame.RunningMesh.{RunningMesh}
use Rattle.mesh_running.specs.StepOrders.{order_with, steps_before}
use Rattle.mesh_running.specs.declared.progress.Progress.{Progress}
use Rattle.mesh_running.specs.declared.progress.Progress.TheVariants.{Made, Unwinding}
use Rattle.mesh_running.specs.declared.step_order.StepOrder.{StepOrder}
use Rattle.model_words.specs.declared.commands.StepKind.TheVariants.{Copy}

-- whether a member belongs to a group
abbrev pub is_of : ℕ → Member → Bool
is_of group member = nat_eq member.group group

-- the number of members of a group
abbrev pub members_in : Frame → ℕ → ℕ
members_in frame group = counted (is_of group) 0 frame.members.items

-- the step order of a mesh
abbrev pub order_in : Frame → RunningMesh → StepOrder
order_in frame mesh = order_with mesh.class (min (members_in frame mesh.source) 8)

-- the number of slots that the first steps of a mesh copy
abbrev pub copied_after : StepOrder → Progress → ℕ
copied_after order (Made made) = min (made - steps_before order Copy) order.slots
copied_after order (Unwinding all undone) = 0

-- the same, for a mesh by any list of steps
abbrev pub copied_by : StepOrder → MeshProgress → ℕ
copied_by order (Steps progress) = copied_after order progress
copied_by order (Moves made copied) = copied

-- the number of slots of its source that a mesh has copied
abbrev pub copied_slots : Frame → RunningMesh → ℕ
copied_slots frame mesh = copied_by (order_in frame mesh) mesh.progress
