use Rattle.model_heap.proofs.ClassMeshes.{whole_by_class}
use Rattle.model_heap.proofs.MeshLists.{any_tells, class_tells}
use Rattle.model_heap.specs.Mesh.{any_mesh, mesh_of_class}
use Rattle.model_heap.proofs.mesh_laws.whole_mesh_is_all_steps_of_its_class.Goals as goal

pub returns-clause-tested : goal.returns-clause-tested
returns-clause-tested c = whole_by_class

pub returns-clause-any : goal.returns-clause-any
returns-clause-any c t sound = whole_by_class any_mesh t (λ class h. any_tells class t.meshes h) sound

pub returns-clause-of_class : goal.returns-clause-of_class
returns-clause-of_class c t sound = whole_by_class mesh_of_class t (λ class h. class_tells class t.meshes h) sound
