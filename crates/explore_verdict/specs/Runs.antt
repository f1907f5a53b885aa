-- What a run that gives a verdict has read and found when it ends.
use Rattle.std.specs.Prelude.{◌≡◌, ◌≤◌, ◌+◌, ◌++◌, ◌∷◌, [], ◌&&◌, ℕ, Bool, true, false, List, Option, Some, None, codes, decimal, if◌then◌else◌, length, slice_get, slice_index_or}
use Rattle.std.specs.Io.KnownBytes.{Appends}
use Rattle.model_jobs.specs.Jobs.{Job}
use Rattle.model_jobs.specs.Texts.{ended}
use Rattle.explore_interleavings.specs.ExploreStates.{ExploreState, Setting}
use Rattle.explore_interleavings.specs.InitialStates.{IsExplored}
use Rattle.explore_interleavings.specs.declared.explorer.Explorer.{Explorer}
use Rattle.explore_interleavings.specs.declared.pair.MeshPair.{MeshPair}
use Rattle.explore_report.specs.Listings.{ListsAll}
use Rattle.explore_report.specs.declared.listing.Listing.{Listing}
use Rattle.explore_report.specs.OutcomeTexts.{printed_order}
use Rattle.explore_report.specs.declared.outcomes.Outcome.{Outcome}
use Rattle.states_reach.specs.declared.reached.Reached.{Reached}
use Rattle.text_job.specs.Read.{HasReadJob}
use Rattle.explore_verdict.specs.Begun.{must_begin, unbegun_text}
use Rattle.explore_verdict.specs.Expected.{blocks_of}
use Rattle.explore_verdict.specs.ListFaults.{list_fault_in}
use Rattle.explore_verdict.specs.Mismatches.{AreMatchable, IsUnmatchable}
use Rattle.explore_verdict.specs.declared.faults.VerdictFault.{VerdictFault}
use Rattle.explore_verdict.specs.declared.faults.VerdictFault.TheVariants as fault
use Rattle.explore_verdict.specs.declared.mismatches.Unmatchable.{Unmatchable}
use Rattle.explore_verdict.specs.declared.run.Ended.{Ended}
use Rattle.explore_verdict.specs.declared.run.Ended.TheVariants.{Told, Unmatched}
use Rattle.explore_verdict.specs.Judged.{is_as_expected, is_empty, listed_answers, outcome_texts, unexpected_answers, unexpected_in}
use Rattle.explore_verdict.specs.Pieces.{IsWritten, Piece, plain, shown}
use Rattle.explore_verdict.specs.TextSets.{distinct, missing_in}
use Rattle.explore_verdict.specs.Answers.{answers_of}
use Rattle.explore_verdict.specs.Conditions.{all_hold, conditions_pieces}
use Rattle.explore_verdict.specs.declared.condition.Condition.{Condition}

-- ---- what is judged

-- whether the listing has what the text lists and nothing else of its kind, if there is a text
abbrev pub meets_expected : Setting → List ExploreState → Listing → Option (List ℕ) → Bool
meets_expected x states listing None = true
meets_expected x states listing (Some text) = is_as_expected x states listing text

-- whether the listing is as the text lists it, if there is one, and each condition holds
abbrev pub is_well : Setting → List ExploreState → Listing → List Condition → Option (List ℕ) → Bool
is_well x states listing conditions expected = meets_expected x states listing expected && all_hold states listing.outcomes.items conditions

-- the lines for the meshes that must begin and begin in no interleaving
abbrev pub unbegun_lines : Setting → Listing → Bool → List ℕ
unbegun_lines x listing must = unbegun_text listing.phases.items (must_begin must x.pairs)

-- whether each mesh that must begin does so in some interleaving, and all else is well
abbrev pub is_well_begun : Setting → List ExploreState → Listing → Bool → List Condition → Option (List ℕ) → Bool
is_well_begun x states listing must conditions expected = is_empty (unbegun_lines x listing must) && is_well x states listing conditions expected

-- ---- what is written

-- what is counted if all is as expected: the outcomes, or the answers if the text lists no outcome
abbrev pub counted : List (List ℕ) → ℕ → ℕ → List ℕ
counted blocks outcomes answers =
    if is_empty blocks then decimal answers ++ codes " answers" else decimal outcomes ++ codes " outcomes"

-- the line that is written if the listing is as a text lists it
abbrev pub expected_line : Setting → List ExploreState → Listing → List ℕ → List ℕ
expected_line x states listing text =
    ended (codes "as expected: " ++ counted (blocks_of text) (length listing.outcomes.items) (length (listed_answers x states listing)))

-- texts, each behind a line
abbrev pub each_behind : List ℕ → List (List ℕ) → List ℕ
each_behind line [] = []
each_behind line (text ∷ texts) = line ++ text ++ each_behind line texts

-- the outcome at a place, with its number in the listing
abbrev pub shown_at : ℕ → Option Outcome → List Piece
shown_at number None = []
shown_at number (Some outcome) = plain (ended (codes "unexpected:")) ∷ shown number outcome ∷ []

-- the unexpected outcomes at these places. The first place has this number in the listing
abbrev pub unexpected_pieces : List Outcome → List Bool → ℕ → List ℕ → List Piece
unexpected_pieces outcomes flags number [] = []
unexpected_pieces outcomes flags number (place ∷ order) =
    (if slice_index_or flags place false then shown_at number (slice_get outcomes place) else []) ++ unexpected_pieces outcomes flags (number + 1) order

-- the missing and the unexpected answers, and the missing outcomes
abbrev pub differing : List (List ℕ) → List (List ℕ) → List (List ℕ) → List ℕ
differing missing_answers unexpected_answers missing =
    each_behind (ended (codes "missing:")) missing_answers ++ each_behind (ended (codes "unexpected:")) unexpected_answers
    ++ each_behind (ended (codes "missing:")) missing

-- the differences between a listing and what a text lists: first those of answers, then those of outcomes
abbrev pub difference_pieces : Setting → List ExploreState → Listing → List ℕ → List Piece
difference_pieces x states listing text =
    plain (differing (missing_in (distinct (listed_answers x states listing)) (answers_of text))
    (unexpected_answers (answers_of text) (listed_answers x states listing))
    (missing_in (distinct (outcome_texts x states listing.outcomes.items)) (blocks_of text)))
    ∷ unexpected_pieces listing.outcomes.items (unexpected_in x states listing.outcomes.items (blocks_of text)) 0 (printed_order states listing.outcomes.items)

-- what a verdict says of what a text lists, if there is a text
abbrev pub expected_pieces : Setting → List ExploreState → Listing → Option (List ℕ) → List Piece
expected_pieces x states listing None = []
expected_pieces x states listing (Some text) =
    if is_as_expected x states listing text then plain (expected_line x states listing text) ∷ [] else difference_pieces x states listing text

-- what a verdict says if each mesh that must begin does so
abbrev pub begun_pieces : Setting → List ExploreState → Listing → List Condition → Option (List ℕ) → List Piece
begun_pieces x states listing conditions expected = expected_pieces x states listing expected ++ conditions_pieces states listing.outcomes.items conditions

-- what a verdict says: the lines of the meshes that must begin and never do, or else all that is judged
abbrev pub verdict_pieces : Setting → List ExploreState → Listing → Bool → List Condition → Option (List ℕ) → List Piece
verdict_pieces x states listing must conditions expected =
    if is_empty (unbegun_lines x listing must) then begun_pieces x states listing conditions expected else plain (unbegun_lines x listing must) ∷ []

-- ---- runs

-- `well` is the verdict on a complete listing of the job's outcomes, with these meshes and this cancel, in at most
-- `most` states, and the text is that of the verdict. Outcomes can match the pattern of each condition
pub record IsVerdictOf (pairs : List MeshPair) (cancel : Option ℕ) (most : ℕ) (must : Bool) (conditions : List Condition) (expected : Option (List ℕ)) (job : Job) (well : Bool) (text : List ℕ) : Type 0 where
  pub reached : Reached Explorer
  pub explored : IsExplored (record { job = job; pairs = pairs; cancel = cancel }) reached
  pub few : length reached.system.states ≤ most
  pub listing : Listing
  pub lists : ListsAll (record { job = job; pairs = pairs; cancel = cancel }) reached.system.states listing
  pub matchable : AreMatchable (record { job = job; pairs = pairs; cancel = cancel }) reached.system.states conditions
  pub is_well : well ≡ is_well_begun (record { job = job; pairs = pairs; cancel = cancel }) reached.system.states listing must conditions expected
  pub told : IsWritten (record { job = job; pairs = pairs; cancel = cancel }) reached
      (verdict_pieces (record { job = job; pairs = pairs; cancel = cancel }) reached.system.states listing must conditions expected) text

-- the job was explored with these meshes and this cancel, and no outcome can match the pattern of this condition
pub record HasUnmatchable (pairs : List MeshPair) (cancel : Option ℕ) (conditions : List Condition) (job : Job) (pattern : Unmatchable) : Type 0 where
  pub reached : Reached Explorer
  pub explored : IsExplored (record { job = job; pairs = pairs; cancel = cancel }) reached
  pub is : IsUnmatchable (record { job = job; pairs = pairs; cancel = cancel }) reached.system.states conditions pattern

-- how a judgement of a job has ended
abbrev pub HasEndedAs : List MeshPair → Option ℕ → ℕ → Bool → List Condition → Option (List ℕ) → Job → Ended → Type 0
HasEndedAs pairs cancel most must conditions expected job (Told report) = IsVerdictOf pairs cancel most must conditions expected job report.well report.text.items
HasEndedAs pairs cancel most must conditions expected job (Unmatched pattern) = HasUnmatchable pairs cancel conditions job pattern

-- why there is no verdict. If the exploration stopped, nothing is claimed here
abbrev pub HasNoVerdict : List MeshPair → Option ℕ → List Condition → Option (List ℕ) → Option (List ℕ) → Option (List ℕ) → VerdictFault → Type 0
HasNoVerdict pairs cancel conditions expected left left' (fault.Explore error) = Unit {0}
HasNoVerdict pairs cancel conditions expected left left' (fault.NoList fault) = list_fault_in expected ≡ Some fault
HasNoVerdict pairs cancel conditions expected left left' (fault.Unmatched pattern) = (job : Job) × HasReadJob left left' job × HasUnmatchable pairs cancel conditions job pattern

-- a job was read, `well` is the verdict on its outcomes, and the text of the verdict was written
pub record HasJudged (pairs : List MeshPair) (cancel : Option ℕ) (most : ℕ) (must : Bool) (conditions : List Condition) (expected : Option (List ℕ)) (left left' written written' : Option (List ℕ)) (well : Bool) : Type 0 where
  pub job : Job
  pub read : HasReadJob left left' job
  pub text : List ℕ
  pub is_verdict : IsVerdictOf pairs cancel most must conditions expected job well text
  pub wrote : Appends written written' text
