-- The order of a mesh's steps: the number of steps of each kind, and the number of steps before each kind.
use Rattle.std.specs.Prelude.{ℕ, ◌+◌, ◌*◌, ◌≤◌, length}
use Rattle.model_heap.specs.Table.{Group}
use Rattle.model_words.specs.Classes.{pages_of, slots_of}
use Rattle.model_words.specs.declared.commands.StepKind.{StepKind}
use Rattle.model_words.specs.declared.commands.StepKind.TheVariants.{Protect, Copy, Remap, Unprotect, Release}
use Rattle.mesh_running.specs.declared.step_order.StepOrder.{StepOrder}

-- the step order of a mesh whose source has this class and this number of members
abbrev pub order_with : ℕ → ℕ → StepOrder
order_with class members = record { virtual_pages = members * pages_of class; slots = slots_of class; pages = pages_of class }

-- the step order of a mesh with this source
abbrev pub order_of : Group → StepOrder
order_of source = order_with source.class (length source.members)

-- the numbers are bounded: 24 virtual pages (8 members of 3 pages), 256 slots and 3 physical pages
pub record IsStepOrder (order : StepOrder) : Type 0 where
  pub virtual_pages : order.virtual_pages ≤ 24
  pub slots : order.slots ≤ 256
  pub pages : order.pages ≤ 3

-- the number of steps of a kind
abbrev pub steps_of : StepOrder → StepKind → ℕ
steps_of order Protect = order.virtual_pages
steps_of order Copy = order.slots
steps_of order Remap = order.virtual_pages
steps_of order Unprotect = order.virtual_pages
steps_of order Release = order.pages

-- the number of steps before those of a kind
abbrev pub steps_before : StepOrder → StepKind → ℕ
steps_before order Protect = 0
steps_before order Copy = order.virtual_pages
steps_before order Remap = order.virtual_pages + order.slots
steps_before order Unprotect = 2 * order.virtual_pages + order.slots
steps_before order Release = 3 * order.virtual_pages + order.slots

-- the number of all steps
abbrev pub order_steps : StepOrder → ℕ
order_steps order = 3 * order.virtual_pages + order.slots + order.pages
