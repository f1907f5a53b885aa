-- The words of a plan's lines.
use Rattle.std.proofs.Common.{◌≡◌, ℕ, zero, suc, ◌<◌, List, [], ◌∷◌, Some, drop, length, map, slice_get, slice_index_or, ap, refl, subst, sym, ◌∙◌}
use Rattle.std.proofs.lemmas.List.{length-map}
use Rattle.std.proofs.lemmas.Option.{slice_get-map, slice_get_read}
use Rattle.std.specs.Option.{option_map}
use Rattle.model_jobs.specs.Jobs.{Line, State}
use Rattle.model_jobs.specs.Texts.{line_text}
use Rattle.model_words.specs.declared.commands.Command.{Command}
use Rattle.draw_job.specs.Captions.{caption_text, next_command}
use Rattle.text_job.specs.Plan.{line_of}
use Rattle.text_job.specs.declared.plan.PlanLine.{PlanLine}
use Rattle.text_job.specs.declared.plan.PlanLine.TheVariants.{Run, Pair, Begin, Step, Cancel, StepClass, CancelClass, Whole, Sweep, Report}

-- what stands at a place is the first of what is left from there on
first_of_rest : {A : Type 0} (xs : List A) (n : ℕ) → slice_get xs n ≡ slice_get (drop n xs) 0
first_of_rest [] zero = refl
first_of_rest [] (suc n) = refl
first_of_rest (x ∷ xs) zero = refl
first_of_rest (x ∷ xs) (suc n) = first_of_rest xs n

-- the command at the place of a worker's next one is the first that the worker has left
pub command_is_next : (state : State) (worker place : ℕ) (script : List Command) → slice_index_or state.scripts worker [] ≡ drop place script
    → slice_get script place ≡ next_command state worker
command_is_next state worker place script left = first_of_rest script place ∙ ap (λ xs. slice_get xs 0) (sym left)

-- a line of a plan as the definitions have it
pub line_is_planned : (lines : List PlanLine) (plan : List Line) (place : ℕ) (line : PlanLine) → map line_of lines ≡ plan → place < length plan
    → line ≡ slice_index_or lines place line → slice_get plan place ≡ Some (line_of line)
line_is_planned lines plan place line same within is =
    let count : length plan ≡ length lines = ap length (sym same) ∙ length-map lines line_of in
    let there = slice_get_read lines (length lines) place line refl (subst (λ n. place < n) count within) is in
    ap (λ xs. slice_get xs place) (sym same) ∙ (slice_get-map line_of lines place ∙ ap (option_map line_of) there)

-- of any line but a worker's the caption is the line
pub other_caption : (state : State) (line : PlanLine) → ((worker : ℕ) → line ≡ Run worker → ⊥) → caption_text state (line_of line) ≡ line_text (line_of line)
other_caption state (Run worker) other = absurd (other worker refl)
other_caption state (Pair asked) other = refl
other_caption state (Begin source destination) other = refl
other_caption state Step other = refl
other_caption state Cancel other = refl
other_caption state (StepClass class) other = refl
other_caption state (CancelClass class) other = refl
other_caption state (Whole source destination) other = refl
other_caption state (Sweep group) other = refl
other_caption state Report other = refl
