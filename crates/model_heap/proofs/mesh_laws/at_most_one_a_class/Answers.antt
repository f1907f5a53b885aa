use Rattle.model_heap.proofs.MeshClasses.{one_a_class}
use Rattle.model_heap.proofs.MeshLists.{class_tells}
use Rattle.model_heap.proofs.OneMesh.{of_class}
use Rattle.model_heap.proofs.TableChanges.{begin_sound, whole_sound, cancel_sound, step_sound}
use Rattle.model_heap.specs.Mesh.{mesh_of_class}
use Rattle.model_heap.proofs.mesh_laws.at_most_one_a_class.Goals as goal

pub returns-clause-sound : goal.returns-clause-sound
returns-clause-sound c t sound = one_a_class t sound

pub returns-clause-begin : goal.returns-clause-begin
returns-clause-begin c t source destination begun sound h =
    one_a_class begun.table (begin_sound mesh_of_class t source destination begun (λ class idle. class_tells class t.meshes idle) sound h)

pub returns-clause-whole : goal.returns-clause-whole
returns-clause-whole c t source destination whole sound h =
    one_a_class whole.table (whole_sound mesh_of_class t source destination whole (λ class idle. class_tells class t.meshes idle) sound h)

pub returns-clause-step : goal.returns-clause-step
returns-clause-step c t class stepped sound h = one_a_class stepped.table (step_sound t (of_class class) stepped sound h)

pub returns-clause-cancel : goal.returns-clause-cancel
returns-clause-cancel c t class cancelled sound h = one_a_class cancelled.table (cancel_sound t (of_class class) cancelled sound h)
