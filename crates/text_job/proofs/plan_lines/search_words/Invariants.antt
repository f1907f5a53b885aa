use Rattle.std.proofs.Common.{◌≡◌, ◌++◌, Ok, length}
use Rattle.model_jobs.specs.JobFiles.{words_in}
use Rattle.model_words.specs.Words.{◌>>=◌}
use Rattle.text_fields.specs.Lines.{texts}
use Rattle.text_job.proofs.plan_lines.search_words.Given as goal

-- what all fields say is what was read, and after it what the rest says
abbrev pub invariant-loop-rest : goal.invariant-loop-rest
invariant-loop-rest l = words_in (texts l.fields) ≡ (words_in (texts l.rest) >>= λ words. Ok (l.words.items ++ words))

abbrev pub decreases-loop-rest : goal.decreases-loop-rest
decreases-loop-rest l = length l.rest
