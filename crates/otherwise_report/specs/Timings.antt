-- How commands are made, and what of it happens in no interleaving.
use Rattle.std.specs.Prelude.{ℕ, Bool, ◌||◌, if◌then◌else◌, not, List, [], ◌++◌, codes, is_some, length}
use Rattle.std.specs.List.{list_any, range_with_len}
use Rattle.explore_otherwise.specs.Fences.{waits_at_fence}
use Rattle.model_jobs.specs.Texts.{ended}
use Rattle.model_otherwise.specs.Moves.{Phase, is_fence}
use Rattle.model_otherwise.specs.States.{Setting, State}
use Rattle.model_otherwise.specs.Timed.{is_plain}
use Rattle.model_otherwise.specs.declared.timing.Making.{Making}
use Rattle.model_otherwise.specs.declared.timing.Making.TheVariants.{Whole, Split, Stale}
use Rattle.model_otherwise.specs.declared.timing.Timing.{Timing}

-- the line on a kind of commands, unless each of them is one move
abbrev pub making_text : List ℕ → Making → List ℕ
making_text name Whole = []
making_text name Split = ended (name ++ codes " split")
making_text name Stale = ended (name ++ codes " stale")

-- how stores, loads and frees are made, if they are made in two moves
abbrev pub timing_text : Timing → List ℕ
timing_text t = making_text (codes "store") t.stores ++ making_text (codes "load") t.loads ++ making_text (codes "free") t.frees

-- whether a command is between its moves in one of the states
abbrev pub are_begun : List State → Bool
are_begun states = list_any (λ s. is_some s.heap.flight) states

-- the line if commands may be made in two moves, and none is between its moves in these states
abbrev pub between_text : Timing → List State → List ℕ
between_text t states = if is_plain t || are_begun states then [] else ended (codes "no interleaving has a command between its moves")

-- whether one of the steps is a fence
abbrev pub has_fence : List Phase → Bool
has_fence phases = list_any (λ phase. list_any is_fence phase.steps) phases

-- whether one of the first `meshers` meshes waits at a fence
abbrev pub is_waiting : Setting → ℕ → State → Bool
is_waiting x meshers s = list_any (waits_at_fence x s) (range_with_len 0 meshers)

abbrev pub has_waiting : Setting → ℕ → List State → Bool
has_waiting x meshers states = list_any (is_waiting x meshers) states

-- the line if the list has a fence, and no mesh waits at one in these states
abbrev pub fence_text : Setting → List State → List ℕ
fence_text x states =
    if not (has_fence x.phases) || has_waiting x (length x.pairs) states then [] else ended (codes "no interleaving has a mesh wait at a fence")
