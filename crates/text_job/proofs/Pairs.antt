-- The search that a line `pair` asks for.
use Rattle.std.proofs.Common.{◌≡◌, ℕ, ◌-◌, ◌≤◌, true, Bor, List, ◌∷◌, [], length, get_or, take, drop, Result, Ok, refl, sym, subst, arith}
use Rattle.std.specs.Prelude.{codes}
use Rattle.std.proofs.lemmas.List.{length-map, take_all}
use Rattle.model_jobs.proofs.FieldReadings.{same_by_test}
use Rattle.model_jobs.specs.JobFiles.{are_same, line_in, pair_in}
use Rattle.model_words.specs.declared.faults.FaultKind.{FaultKind}
use Rattle.model_words.specs.declared.versions.Version.{Version}
use Rattle.text_fields.specs.Lines.{texts}
use Rattle.text_job.specs.Plan.{search_in}

-- words that were read
abbrev taken : List ℕ → Result (List ℕ) FaultKind
taken words = Ok words

-- the word `pair` is that of a search
pub pair_chosen : (version : Version) (workers : ℕ) (word : List ℕ) (fields : List (List ℕ)) → are_same word (codes "pair") ≡ true
    → line_in version workers word fields ≡ pair_in fields
pair_chosen version workers word fields same =
    subst (λ (w : List ℕ). line_in version workers w fields ≡ pair_in fields) (sym (same_by_test word (codes "pair") same)) refl

-- two fields and at most 32 more are a search's
pub pair_is_search : (fields : List (Bor (List ℕ))) (other : Bor (List ℕ)) → 2 ≤ length fields → length (take (length fields - 2) (drop 2 fields)) ≤ 32
    → pair_in (texts fields) ≡ search_in (get_or fields 0 other).now (get_or fields 1 other).now (texts (take (length fields - 2) (drop 2 fields)))
pair_is_search [] other some few = absurd (omega (arith, some))
pair_is_search (size ∷ []) other some few = absurd (omega (arith, some))
pair_is_search (size ∷ rounds ∷ words) other some few = grind (arith, take_all, length-map)
