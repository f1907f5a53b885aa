-- The words of steps, and the phase that a word of a list of steps spells. This project's own choice.
use Rattle.std.specs.Prelude.{ℕ, Bool, true, false, ◌&&◌, ◌||◌, if◌then◌else◌, nat_eq, List, [], ◌∷◌, Option, Some, None, Result, Ok, Err, codes, find, map, option_and_then, option_map}
use Rattle.std.specs.List.{list_all, slice_split}
use Rattle.model_jobs.specs.JobFiles.{are_same, number_in}
use Rattle.model_otherwise.specs.Moves.{Phase}
use Rattle.model_otherwise.specs.declared.steps.Step.{Step}
use Rattle.model_otherwise.specs.declared.steps.Step.TheVariants.{Protect, Hide, Copy, CopyPiece, CopyPage, Remap, Unmap, Unprotect, Release, ReleaseDirty, Merge, Open, OpenSource, OpenDestination, Fence, Look}
use Rattle.model_words.specs.declared.faults.FaultKind.{FaultKind}
use Rattle.otherwise_report.specs.declared.list_fault.ListFault.{ListFault}
use Rattle.otherwise_report.specs.declared.list_fault.ListFault.TheVariants.{NoStep, NotJoined}
use Rattle.otherwise_report.specs.declared.step_words.StepWord.{StepWord}

-- the name of a step. Its options aren't part of it
abbrev pub step_name : Step → List ℕ
step_name Protect = codes "protect"
step_name Hide = codes "hide"
step_name Copy = codes "copy"
step_name (CopyPiece len) = codes "copy"
step_name CopyPage = codes "copy"
step_name Remap = codes "remap"
step_name Unmap = codes "unmap"
step_name Unprotect = codes "unprotect"
step_name Release = codes "release"
step_name ReleaseDirty = codes "release"
step_name Merge = codes "merge"
step_name Open = codes "open"
step_name OpenSource = codes "open"
step_name OpenDestination = codes "open"
step_name Fence = codes "fence"
step_name Look = codes "look"

-- each step without options once
abbrev pub all_steps : List Step
all_steps = Protect ∷ Hide ∷ Copy ∷ Remap ∷ Unmap ∷ Unprotect ∷ Release ∷ Merge ∷ Open ∷ Fence ∷ Look ∷ []

-- whether the word is the name of the step
abbrev pub is_named : List ℕ → Step → Bool
is_named word step = are_same word (step_name step)

-- the step of a name, if there is one
abbrev pub step_named : List ℕ → Option Step
step_named word = find (is_named word) all_steps

-- the parts of a text between the bytes `at`
abbrev pub parts_between : ℕ → List ℕ → List (List ℕ)
parts_between at text = slice_split (λ b. nat_eq b at) text

-- whether the step is made for each virtual page of the source
abbrev pub is_of_pages : Step → Bool
is_of_pages Protect = true
is_of_pages Hide = true
is_of_pages Copy = false
is_of_pages (CopyPiece len) = false
is_of_pages CopyPage = false
is_of_pages Remap = true
is_of_pages Unmap = true
is_of_pages Unprotect = true
is_of_pages Release = false
is_of_pages ReleaseDirty = false
is_of_pages Merge = false
is_of_pages Open = false
is_of_pages OpenSource = false
is_of_pages OpenDestination = false
is_of_pages Fence = false
is_of_pages Look = false

-- whether the step is a release
abbrev pub is_release : Step → Bool
is_release Release = true
is_release ReleaseDirty = true
is_release _ = false

-- a step without options
abbrev pub bare : Step → StepWord
bare step = record { step = step; most = None; is_once = false }

-- the step made for all numbers at once, unless it is already
abbrev pub with_once : StepWord → Option StepWord
with_once word = if word.is_once then None else Some (record word { is_once = true })

-- the step with another kind
abbrev pub as_step : Step → StepWord → StepWord
as_step step word = record word { step = step }

-- the copy that copies page by page, if the step is a copy of slots
abbrev pub with_page : StepWord → Step → Option StepWord
with_page word Copy = Some (as_step CopyPage word)
with_page word _ = None

-- the release that keeps the bytes, if the step is a release that doesn't
abbrev pub with_dirty : StepWord → Step → Option StepWord
with_dirty word Release = Some (as_step ReleaseDirty word)
with_dirty word _ = None

-- the opening of one group, if the step opens both
abbrev pub with_one : Step → StepWord → Step → Option StepWord
with_one one word Open = Some (as_step one word)
with_one one word _ = None

-- the step for so many pages at most, if it is made for pages and has no limit yet
abbrev pub with_limit : ℕ → StepWord → Option ℕ → Option StepWord
with_limit n word None = if is_of_pages word.step || is_release word.step then Some (record word { most = Some n }) else None
with_limit n word (Some most) = None

-- the step with a number behind it: the bytes of a piece, or a limit
abbrev pub with_number : ℕ → StepWord → Step → Option StepWord
with_number n word Copy = Some (as_step (CopyPiece n) word)
with_number n word _ = with_limit n word word.most

-- the step with an option that is read as a number, if it is one
abbrev pub with_read : StepWord → Result ℕ FaultKind → Option StepWord
with_read word (Ok n) = with_number n word word.step
with_read word (Err kind) = None

-- the largest number of an option
abbrev pub most_option : ℕ
most_option = 4294967295

-- the step with an option, if it may have it
abbrev pub option_added : List ℕ → StepWord → Option StepWord
option_added option word =
    if are_same option (codes "once") then with_once word
    else if are_same option (codes "page") then with_page word word.step
    else if are_same option (codes "dirty") then with_dirty word word.step
    else if are_same option (codes "src") then with_one OpenSource word word.step
    else if are_same option (codes "dst") then with_one OpenDestination word word.step
    else with_read word (number_in 1 most_option option)

-- the step with options, if it may have them
abbrev pub options_added : List (List ℕ) → StepWord → Option StepWord
options_added [] word = Some word
options_added (option ∷ options) word = option_and_then (options_added options) (option_added option word)

-- the step that parts spell: its name, and its options
abbrev pub step_of_parts : List (List ℕ) → Option StepWord
step_of_parts [] = None
step_of_parts (name ∷ options) = option_and_then (λ step. options_added options (bare step)) (step_named name)

-- the step that a word spells: its name, and each option behind a `:`
abbrev pub step_in : List ℕ → Option StepWord
step_in word = step_of_parts (parts_between 58 word)

-- the steps that words spell, if each word spells one
abbrev pub steps_in : List (List ℕ) → Option (List StepWord)
steps_in [] = Some []
steps_in (word ∷ words) = option_and_then (λ step. option_map (λ steps. step ∷ steps) (steps_in words)) (step_in word)

-- whether both limits are the same
abbrev pub is_same_limit : Option ℕ → Option ℕ → Bool
is_same_limit None None = true
is_same_limit None (Some n) = false
is_same_limit (Some most) None = false
is_same_limit (Some most) (Some n) = nat_eq most n

-- whether both are true, or neither is
abbrev pub is_same_flag : Bool → Bool → Bool
is_same_flag true y = y
is_same_flag false true = false
is_same_flag false false = true

-- whether both steps are made for the same numbers
abbrev pub is_alike : StepWord → StepWord → Bool
is_alike first word = is_same_flag first.is_once word.is_once && is_same_limit first.most word.most

-- whether the first step is made together with these others: all are made for the same virtual pages of the source, and
-- all or none at once
abbrev pub are_joined : StepWord → List StepWord → Bool
are_joined first [] = true
are_joined first (second ∷ others) =
    list_all (λ word. is_of_pages word.step) (first ∷ second ∷ others) && list_all (is_alike first) (second ∷ others)

-- the phase of steps that are made together, or the fault
abbrev pub phase_of : ℕ → Option (List StepWord) → Result Phase ListFault
phase_of number None = Err (NoStep number)
phase_of number (Some []) = Err (NoStep number)
phase_of number (Some (first ∷ others)) =
    if are_joined first others then Ok (record { steps = map (λ word. word.step) (first ∷ others); most = first.most; page = None; is_once = first.is_once })
    else Err (NotJoined number)

-- the phase that a word of a list spells: steps with `+` between them. `number` is the word's number in the list
abbrev pub phase_in : ℕ → List ℕ → Result Phase ListFault
phase_in number word = phase_of number (steps_in (parts_between 43 word))
