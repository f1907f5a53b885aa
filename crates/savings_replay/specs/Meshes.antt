-- Which two groups may be meshed.
use Rattle.std.specs.Prelude.{◌≡◌, ℕ, false, min, sum_by}
use Rattle.mesh_class.specs.Classes.{pages_of}
use Rattle.model_heap.specs.Table.{len_in}
use Rattle.mesh_spans.specs.Index.{GroupEntry, Index}
use Rattle.mesh_spans.specs.Pairs.{MayMerge}
use Rattle.savings_replay.specs.ClassCounts.{entry_held}

-- two groups of the class may be meshed: `pages` physical pages would become free, `held` fewer pages would be those of
-- groups with an object, and the source's objects have `bytes` bytes
pub record MayMesh (index : Index) (source destination class pages held bytes : ℕ) : Type 0 where
  pub from : GroupEntry
  pub merge : MayMerge index source destination false from
  pub class_is : merge.pair.a.class ≡ class
  pub pages_are : pages ≡ pages_of merge.pair.a.class
  pub held_are : held ≡ min (entry_held merge.pair.a) (entry_held merge.pair.b)
  pub bytes_are : bytes ≡ sum_by len_in merge.pair.a.slots
