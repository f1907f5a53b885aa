-- The moves of the right list are the steps of the heap's own meshes.
use Rattle.std.specs.Prelude.{◌≡◌, ℕ, ◌-◌, ◌<◌, ◌≤◌, true, false, List, [], ◌∷◌, Some, None, length, map}
use Rattle.model_heap.specs.Mesh.{kind_after, step_count}
use Rattle.model_heap.specs.StepEffects.{steps_before}
use Rattle.model_heap.specs.Table.{Group}
use Rattle.model_words.specs.declared.commands.StepKind.{StepKind}
use Rattle.model_words.specs.declared.commands.StepKind.TheVariants.{Protect as KindProtect, Copy as KindCopy, Remap as KindRemap, Unprotect as KindUnprotect, Release as KindRelease}
use Rattle.model_otherwise.specs.Moves.{Phase, move_at, on_page, page_by_page}
use Rattle.model_otherwise.specs.declared.steps.Part.{Part}
use Rattle.model_otherwise.specs.declared.steps.Step.{Step}
use Rattle.model_otherwise.specs.declared.steps.Step.TheVariants.{Protect, Copy, CopyPiece, CopyPage, Remap, Unprotect, Release}

-- a phase of one step, one number in a move
abbrev pub single : Step → Phase
single step = record { steps = step ∷ []; most = None; page = None; is_once = false }

-- the steps of the heap's own meshes
abbrev pub right : List Phase
right = single Protect ∷ single Copy ∷ single Remap ∷ single Unprotect ∷ single Release ∷ []

-- the step of a kind
abbrev pub step_of : StepKind → Step
step_of KindProtect = Protect
step_of KindCopy = Copy
step_of KindRemap = Remap
step_of KindUnprotect = Unprotect
step_of KindRelease = Release

-- move `d` of the right list makes the step that the heap's mesh makes after `d` steps, for the same page or slot
abbrev pub RightMovesAreTheHeaps : Type 0
RightMovesAreTheHeaps = (source : Group) (d : ℕ) → d < step_count source
    → move_at right source.class (length source.members) d
    ≡ Some (record { step = step_of (kind_after source d); number = d - steps_before source (kind_after source d) } ∷ [])

-- the right list has as many moves as the heap's mesh has steps
abbrev pub RightMovesEnd : Type 0
RightMovesEnd = (source : Group) (d : ℕ) → step_count source ≤ d → move_at right source.class (length source.members) d ≡ None

-- ---- moves for some of the pages, by examples: a source of two members, with three pages each

-- a step for a number
abbrev pub part : Step → ℕ → Part
part step number = record { step = step; number = number }

-- a step for the first `n` numbers alone
abbrev pub first_only : ℕ → Step → Phase
first_only n step = record (single step) { most = Some n }

-- a limit ends the phase, and isn't more than there is
abbrev pub LimitsEndPhases : Type 0
LimitsEndPhases =
    (move_at (first_only 4 Protect ∷ []) 384 2 3 ≡ Some (part Protect 3 ∷ []))
    × (move_at (first_only 4 Protect ∷ single Copy ∷ []) 384 2 4 ≡ Some (part Copy 0 ∷ []))
    × (move_at (first_only 9 Protect ∷ []) 384 2 6 ≡ None)
    × (move_at (record (first_only 2 Release) { is_once = true } ∷ []) 384 2 0 ≡ Some (part Release 0 ∷ part Release 1 ∷ []))

-- the steps for a page of the span are made through all members. A span without the page has no moves
abbrev pub PagesGoThroughMembers : Type 0
PagesGoThroughMembers =
    (move_at (on_page 1 (single Remap) ∷ []) 384 2 0 ≡ Some (part Remap 1 ∷ []))
    × (move_at (on_page 1 (single Remap) ∷ []) 384 2 1 ≡ Some (part Remap 4 ∷ []))
    × (move_at (on_page 1 (single Remap) ∷ on_page 2 (single CopyPage) ∷ []) 384 2 2 ≡ Some (part CopyPage 2 ∷ []))
    × (move_at (on_page 1 (first_only 4 Remap) ∷ []) 384 2 1 ≡ None)
    × (move_at (on_page 1 (single Remap) ∷ single Copy ∷ []) 2048 2 0 ≡ Some (part Copy 0 ∷ []))

-- page by page, a page goes through all steps before the next one does
abbrev pub PagesComeOneByOne : Type 0
PagesComeOneByOne =
    (map (move_at (page_by_page (single Protect ∷ single CopyPage ∷ [])) 384 1) (0 ∷ 1 ∷ 2 ∷ 3 ∷ 4 ∷ 5 ∷ [])
    ≡ map (λ p. Some (p ∷ [])) (part Protect 0 ∷ part CopyPage 0 ∷ part Protect 1 ∷ part CopyPage 1 ∷ part Protect 2 ∷ part CopyPage 2 ∷ []))
    × (move_at (page_by_page (single Protect ∷ single CopyPage ∷ [])) 384 1 6 ≡ None)
    × (move_at (page_by_page (single Protect ∷ single CopyPage ∷ [])) 2048 1 2 ≡ None)

-- a slot has as many pieces as it takes to cover it
abbrev pub PiecesCoverSlots : Type 0
PiecesCoverSlots =
    (move_at (single (CopyPiece 100) ∷ []) 384 2 127 ≡ Some (part (CopyPiece 100) 127 ∷ []))
    × (move_at (single (CopyPiece 100) ∷ []) 384 2 128 ≡ None)
