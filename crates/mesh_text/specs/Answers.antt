-- The results of the mesher's calls as answers of a job, and the text of a count.
use Rattle.std.specs.Prelude.{ℕ, List, ◌++◌, Result, Ok, Err, decimal}
use Rattle.model_jobs.specs.Jobs.{Answer, StepMade, MesherRefused}
use Rattle.model_jobs.specs.Texts.{refusal_text}
use Rattle.model_words.specs.declared.refusals.Refusal.{Refusal}
use Rattle.model_words.specs.declared.answers.StepDone.{StepDone}

-- the answer to a call of the mesher that returns a count or a refusal. `say` makes an answer from the count
abbrev pub count_told : (ℕ → Answer) → Result ℕ Refusal → Answer
count_told say (Ok count) = say count
count_told say (Err refusal) = MesherRefused refusal

-- the answer to a call that makes a step
abbrev pub step_told : Result StepDone Refusal → Answer
step_told (Ok step) = StepMade step.kind step.left
step_told (Err refusal) = MesherRefused refusal

-- the text of a result: these words and the count, or the text of the refusal
abbrev pub counted_text : List ℕ → Result ℕ Refusal → List ℕ
counted_text words (Ok count) = words ++ decimal count
counted_text words (Err refusal) = refusal_text refusal
