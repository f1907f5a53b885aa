-- The step order of a mesh from a group, by the layout.
use Rattle.std.specs.Prelude.{◌≡◌, ℕ}
use Rattle.mesh_class.specs.Classes.{pages_of, slots_of}
use Rattle.mesh_page_heap.specs.Layout.{Layout, page_total}
use Rattle.mesh_running.specs.declared.step_order.StepOrder.{StepOrder}

-- this is the step order of a mesh from group `n`
pub record IsStepOrderOf (l : Layout) (n : ℕ) (order : StepOrder) : Type 0 where
  pub total : order.virtual_pages ≡ page_total l n
  pub slots : order.slots ≡ slots_of (l.class n)
  pub pages : order.pages ≡ pages_of (l.class n)
