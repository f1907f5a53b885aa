use Rattle.model_heap.proofs.ListPlaces.{found_passes}
use Rattle.model_heap.specs.Table.{Mesh}
use Rattle.model_heap.proofs.MeshClasses.{found_some, some_found}
use Rattle.model_heap.proofs.OneMesh.{found_class, of_class}
use Rattle.model_heap.proofs.mesh_laws.mesh_of_class_is_found.Goals as goal

pub returns-clause-is : goal.returns-clause-is
returns-clause-is c t class mesh h = let one = found_passes Mesh (of_class class) t.meshes mesh h in (found_class class t.meshes mesh h, (one.0, one.1))

pub returns-clause-some : goal.returns-clause-some
returns-clause-some c t class = (λ h. some_found (of_class class) t.meshes h, λ h. found_some (of_class class) t.meshes h.0 h.1)
