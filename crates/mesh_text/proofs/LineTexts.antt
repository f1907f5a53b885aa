-- The text that a line of a plan adds.
use Rattle.std.proofs.Common.{◌≡◌, ℕ, List, ◌++◌, Result, Ok, Err, ap, refl, sym, ◌∙◌}
use Rattle.std.specs.Prelude.{OnOk, decimal, if◌then◌else◌, is_ok}
use Rattle.std.proofs.lemmas.Result.{on_ok_weaker}
use Rattle.model_jobs.specs.Jobs.{Answer, Job, Next, State}
use Rattle.model_jobs.specs.Texts.{answer_text}
use Rattle.model_words.specs.declared.refusals.Refusal.{Refusal}
use Rattle.mesh_mutator.specs.Book.{Book}
use Rattle.mesh_text.specs.Answers.{count_told, counted_text}
use Rattle.mesh_text.specs.Turns.{IsAt, IsNextAt, IsTold}

-- an answer whose text was added is told
pub told_at : (job : Job) (next : Next) (book : Book) (places : List ℕ) (given : Answer) (old new : List ℕ) → IsNextAt job next book places given
    → new ≡ old ++ answer_text given → IsTold job next book places old new
told_at job next book places given old new is added = record { added = added ∙ ap (λ a. old ++ answer_text a) is.answer_is; at = is.at }

-- the text of a count is that of its answer
counted_is : (words : List ℕ) (say : ℕ → Answer) (count : Result ℕ Refusal) → ((n : ℕ) → answer_text (say n) ≡ words ++ decimal n)
    → counted_text words count ≡ answer_text (count_told say count)
counted_is words say (Ok n) spelt = sym (spelt n)
counted_is words say (Err refusal) spelt = refl

-- where its text was added, a call's answer is told wherever a job stands
pub told_on : {E : Type 0} (r : Result (Unit {0}) E) (job : Job) (call : State → Next) (from to : Book) (places : List ℕ) (given : Answer) (old new : List ℕ)
    → ((state : State) → IsAt job state from places → IsNextAt job (call state) to places given) → OnOk r (new ≡ old ++ answer_text given)
    → OnOk r ((state : State) → IsAt job state from places → IsTold job (call state) to places old new)
told_on r job call from to places given old new is added = on_ok_weaker r (λ text state at. told_at _ _ _ _ _ _ _ (is state at) text) added

-- and so is the answer of one that counts
pub counted_on : {E : Type 0} (r : Result (Unit {0}) E) (job : Job) (call : State → Next) (from to : Book) (places words : List ℕ) (say : ℕ → Answer) (count : Result ℕ Refusal)
    (old new : List ℕ) → ((n : ℕ) → answer_text (say n) ≡ words ++ decimal n)
    → ((state : State) → IsAt job state from places → IsNextAt job (call state) to places (count_told say count)) → OnOk r (new ≡ old ++ counted_text words count)
    → OnOk r ((state : State) → IsAt job state from places → IsTold job (call state) to places old new)
counted_on r job call from to places words say count old new spelt is added =
    told_on r job call from to places (count_told say count) old new is (on_ok_weaker r (λ text. text ∙ ap (λ t. old ++ t) (counted_is words say count spelt)) added)

-- a text that grew where there was room
pub grew_ok : {T E : Type 0} (r : Result T E) (text grown kept : List ℕ) → text ≡ (if is_ok r then grown else kept) → OnOk r (text ≡ grown)
grew_ok (Ok x) text grown kept is = is
grew_ok (Err e) text grown kept is = tt
