-- Each step of a mesh is a move of its rows.
use Rattle.std.specs.Prelude.{◌≡◌, true, [], ◌∷◌, ℕ, ◌+◌, ◌*◌, ◌<◌, if◌then◌else◌, nat_eq, length, slice_index}
use Rattle.model_memory.specs.Memory.{Memory}
use Rattle.model_orders.specs.Pages.{with_at}
use Rattle.model_orders.specs.Views.{Row, after_part, after_store}
use Rattle.model_orders.specs.declared.steps.Step.{Step}
use Rattle.model_orders.specs.declared.steps.Step.TheVariants.{Protect, Hide, Copy, Remap, Unprotect, Release}
use Rattle.model_orders.specs.declared.facts.Protection.TheVariants.{ReadWrite}
use Rattle.model_otherwise.specs.Effects.{Meshing, effect, with_spots}
use Rattle.model_otherwise.specs.Moves.{step_count}
use Rattle.model_otherwise.specs.PageMap.{place_of}
use Rattle.model_otherwise.specs.Spots.{stored}
use Rattle.model_otherwise.specs.declared.steps.Step.{Step as HeapStep}
use Rattle.model_otherwise.specs.declared.steps.Step.TheVariants.{Protect as HeapProtect, Hide as HeapHide, Copy as HeapCopy, Remap as HeapRemap, Unprotect as HeapUnprotect, Release as HeapRelease}
use Rattle.model_words.specs.Classes.{pages_of, slots_of}
use Rattle.model_orders.specs.HeapRows.{AreSame, IsOfMesh, is_live, row_at, shape_at, view_at}

-- the step of a list that is this step of a row
abbrev pub heap_step : Step → HeapStep
heap_step Protect = HeapProtect
heap_step Hide = HeapHide
heap_step Copy = HeapCopy
heap_step Remap = HeapRemap
heap_step Unprotect = HeapUnprotect
heap_step Release = HeapRelease

-- row `l` after a step is made for view `i` of row `j`
abbrev pub row_changed : Memory → (ℕ → ℕ) → Step → Meshing → ℕ → ℕ → ℕ → Row
row_changed m memory step x i j l =
    if nat_eq l j then after_part (shape_at x.mesh l) step i (row_at m memory x l) else row_at m memory x l

-- a step for a virtual page is that of a view of one row. The pages are counted through the members
abbrev pub ChangesOneView : Step → Type 0
ChangesOneView step = (m : Memory) (memory : ℕ → ℕ) (x : Meshing) (i j l : ℕ) → IsOfMesh x → i < length x.mesh.members → j < pages_of x.mesh.class
    → l < pages_of x.mesh.class
    → AreSame (shape_at x.mesh l) (row_at m memory (effect m (heap_step step) (i * pages_of x.mesh.class + j) x) l) (row_changed m memory step x i j l)

-- a copy of a slot is that of a piece of each row
abbrev pub CopiesOneSlot : Type 0
CopiesOneSlot = (m : Memory) (memory : ℕ → ℕ) (x : Meshing) (k l : ℕ) → IsOfMesh x → k < slots_of x.mesh.class → l < pages_of x.mesh.class
    → AreSame (shape_at x.mesh l) (row_at m memory (effect m HeapCopy k x) l) (after_part (shape_at x.mesh l) Copy k (row_at m memory x l))

-- a release of a physical page is that of one row
abbrev pub ReleasesOnePage : Type 0
ReleasesOnePage = (m : Memory) (memory : ℕ → ℕ) (x : Meshing) (j l : ℕ) → IsOfMesh x → j < pages_of x.mesh.class → l < pages_of x.mesh.class
    → AreSame (shape_at x.mesh l) (row_at m memory (effect m HeapRelease j x) l) (row_changed m memory Release x 0 j l)

-- heap and mesh after a byte is stored through the virtual page of member `i`, at an offset of page `j` of the span
abbrev pub byte_stored : Meshing → ℕ → ℕ → ℕ → ℕ → Meshing
byte_stored x i j offset byte = record x {
  heap = with_spots x.heap (stored x.heap.spots (place_of x.heap.entries (4096 * (slice_index x.mesh.members i + j) + offset)) (byte ∷ []));
}

-- a store of a live byte that isn't blocked is that of a view of one row
abbrev pub StoresOneByte : Type 0
StoresOneByte = (m : Memory) (memory : ℕ → ℕ) (x : Meshing) (i j l offset byte : ℕ) → IsOfMesh x → i < length x.mesh.members
    → j < pages_of x.mesh.class → l < pages_of x.mesh.class → offset < 4096
    → (view_at x j i).protection ≡ ReadWrite → is_live m x.mesh (4096 * j + offset) ≡ true
    → AreSame (shape_at x.mesh l) (row_at m (if nat_eq l j then with_at memory offset byte else memory) (byte_stored x i j offset byte) l)
    (if nat_eq l j then after_store (shape_at x.mesh l) i offset byte (row_at m memory x l) else row_at m memory x l)

-- what is so of each running mesh stays so, whichever of its numbers a step is made for
abbrev pub StaysOfMesh : Step → Type 0
StaysOfMesh step = (m : Memory) (x : Meshing) (n : ℕ) → IsOfMesh x
    → n < step_count x.mesh.class (length x.mesh.members) (heap_step step) → IsOfMesh (effect m (heap_step step) n x)
