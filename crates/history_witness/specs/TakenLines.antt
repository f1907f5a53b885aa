-- Which calls of a text are taken, and their lines.
use Rattle.std.specs.Prelude.{ℕ, zero, suc, Bool, true, false, if◌then◌else◌, List, [], ◌∷◌, ◌++◌, Option, Some, None, slice_get}
use Rattle.model_jobs.specs.Texts.{ended}
use Rattle.text_fields.specs.Lines.{text_lines}

-- whether the call at this place is taken, by a list of what is taken
abbrev pub is_some_true : Option Bool → Bool
is_some_true None = false
is_some_true (Some flag) = flag

abbrev pub taken_in : List Bool → ℕ → Bool
taken_in flags i = is_some_true (slice_get flags i)

-- the number of places below this one that are taken
abbrev pub taken_below : (ℕ → Bool) → ℕ → ℕ
taken_below taken zero = 0
taken_below taken (suc i) = if taken i then suc (taken_below taken i) else taken_below taken i

-- the lines at the places that are kept, each with its line end
abbrev pub lines_at : (ℕ → Bool) → List (List ℕ) → List ℕ
lines_at kept [] = []
lines_at kept (line ∷ lines) = if kept 0 then ended line ++ lines_at (λ i. kept (suc i)) lines else lines_at (λ i. kept (suc i)) lines

-- whether the line at this place is kept: the first line, and each line of a call that is taken
abbrev pub is_kept : (ℕ → Bool) → ℕ → Bool
is_kept taken zero = true
is_kept taken (suc i) = taken i

-- the first line of the text, and the lines of the calls that are taken
abbrev pub taken_text : List ℕ → (ℕ → Bool) → List ℕ
taken_text text taken = lines_at (is_kept taken) (text_lines text)
