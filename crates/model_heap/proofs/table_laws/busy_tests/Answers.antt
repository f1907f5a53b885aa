use Rattle.model_heap.proofs.MeshLists.{any_tells, class_tells}
use Rattle.model_heap.proofs.table_laws.busy_tests.Goals as goal

pub returns-clause-any : goal.returns-clause-any
returns-clause-any c t class h = any_tells class t.meshes h

pub returns-clause-of_class : goal.returns-clause-of_class
returns-clause-of_class c t class h = class_tells class t.meshes h
