-- The fields of a line of a session.
use Rattle.std.proofs.Common.{◌≡◌, ℕ, ◌-◌, ◌<◌, ◌≤◌, true, false, List, [], ◌∷◌, Err, length, get_or, take, drop, refl, arith}
use Rattle.std.proofs.lemmas.List.{take_all}
use Rattle.std.specs.Prelude.{codes}
use Rattle.std.specs.List.{list_any}
use Rattle.model_jobs.specs.JobFiles.{are_same, is_empty}
use Rattle.model_words.specs.declared.faults.FaultKind.TheVariants.{Word}
use Rattle.text_fields.specs.Lines.{texts}
use Rattle.run_live.specs.LiveLines.{attempt_in, call_in, live_in, live_of_fields}
use denote.Ref.{Bor}

-- fewer than two fields behind `run` are no attempt
pub no_attempt : (workers : ℕ) (fields : List (Bor (List ℕ))) → length fields < 2 → Err Word ≡ attempt_in workers (texts fields)
no_attempt workers [] few = refl
no_attempt workers (a ∷ []) few = refl
no_attempt workers (a ∷ b ∷ fields) few = absurd (omega (arith, few))

-- the fields behind the first
abbrev pub later : List (Bor (List ℕ)) → List (Bor (List ℕ))
later fields = take (length fields - 1) (drop 1 fields)

-- filled fields are a line's, the first as its word
read_by_word : (workers : ℕ) (fields : List (Bor (List ℕ))) (other : Bor (List ℕ)) → 1 ≤ length fields → list_any is_empty (texts fields) ≡ false
    → live_of_fields workers (texts fields) ≡ live_in workers (get_or fields 0 other).now (texts (later fields))
read_by_word workers [] other some filled = absurd (omega (arith, some))
read_by_word workers (word ∷ rest) other some filled = grind (arith, take_all)

-- a line of the word `run` is an attempt, and any other a call
pub attempt_by_word : (workers : ℕ) (fields : List (Bor (List ℕ))) (other : Bor (List ℕ)) → 1 ≤ length fields → list_any is_empty (texts fields) ≡ false
    → are_same (get_or fields 0 other).now (codes "run") ≡ true → live_of_fields workers (texts fields) ≡ attempt_in workers (texts (later fields))
attempt_by_word workers fields other some filled run = rw (read_by_word workers fields other some filled, run) refl

pub call_by_word : (workers : ℕ) (fields : List (Bor (List ℕ))) (other : Bor (List ℕ)) → 1 ≤ length fields → list_any is_empty (texts fields) ≡ false
    → are_same (get_or fields 0 other).now (codes "run") ≡ false
    → live_of_fields workers (texts fields) ≡ call_in workers (get_or fields 0 other).now (texts (later fields))
call_by_word workers fields other some filled other_word = rw (read_by_word workers fields other some filled, other_word) refl
