-- The stage of a mesh after each number of its steps, on two small sources.
use Rattle.std.specs.Prelude.{◌≡◌, ℕ, List, [], ◌∷◌, map}
use Rattle.std.specs.List.{range_with_len}
use Rattle.model_heap.specs.Table.{Made, Unwinding}
use Rattle.mesh_page_heap.specs.Layout.{Stage}
use Rattle.mesh_page_heap.specs.MeshLayouts.{stage_at}

-- a stage of a mesh into group 7: which pages are read-only (from one number to below another), and how much was
-- copied, remapped and released
abbrev stage : ℕ → ℕ → ℕ → ℕ → ℕ → Stage
stage from to copied remapped released = record {
  into = 7;
  locked_from = from;
  locked_to = to;
  copied = copied;
  remapped = remapped;
  released = released;
}

-- the stages of a mesh of `total` virtual pages and `slots` slots, after each number of steps below `steps`
abbrev pub stages : ℕ → ℕ → ℕ → List Stage
stages total slots steps = map (λ d. stage_at total slots 7 (Made d)) (range_with_len 0 steps)

-- a source of two members of one page, with two slots, has nine steps: two protects, two copies, two remaps, two
-- unprotects and one release
abbrev pub MeshesTwoMembers : Type 0
MeshesTwoMembers = stages 2 2 9
    ≡ stage 0 0 0 0 0 ∷ stage 0 1 0 0 0 ∷ stage 0 2 0 0 0 ∷ stage 0 2 1 0 0 ∷ stage 0 2 2 0 0 ∷ stage 0 2 2 1 0 ∷ stage 0 2 2 2 0 ∷ stage 1 2 0 2 0
    ∷ stage 2 2 0 2 0 ∷ []

-- a source of one member of two pages, with one slot, has nine steps too: the last but one releases the first page
abbrev pub MeshesTwoPages : Type 0
MeshesTwoPages = stages 2 1 9
    ≡ stage 0 0 0 0 0 ∷ stage 0 1 0 0 0 ∷ stage 0 2 0 0 0 ∷ stage 0 2 1 0 0 ∷ stage 0 2 1 1 0 ∷ stage 0 2 1 2 0 ∷ stage 1 2 0 2 0 ∷ stage 2 2 0 2 0
    ∷ stage 2 2 0 2 1 ∷ []

-- a mesh that was cancelled after two protects makes its pages writable again one by one, and changes nothing else
abbrev pub UnwindsTwoPages : Type 0
UnwindsTwoPages = map (λ u. stage_at 2 2 7 (Unwinding 2 u)) (range_with_len 0 2) ≡ stage 0 2 0 0 0 ∷ stage 1 2 0 0 0 ∷ []
