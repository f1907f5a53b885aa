-- The text of a judgement. The wording is this project's own choice.
use Rattle.std.specs.Prelude.{ℕ, List, ◌++◌, codes}
use Rattle.model_jobs.specs.Texts.{ended, number_field}
use Rattle.history_object.specs.declared.faults.JudgeFault.{JudgeFault}
use Rattle.history_object.specs.declared.faults.JudgeFault.TheVariants.{TooManyPending}
use Rattle.history_in_order.specs.VerdictTexts.{verdict_text}
use Rattle.history_overlaps.specs.declared.verdicts.CallVerdict.{CallVerdict}
use Rattle.history_overlaps.specs.declared.verdicts.CallVerdict.TheVariants.{Linearizable, Misused, Flawed, Undecided}
use Rattle.history_judge.specs.FlawTexts.{flaw_text, misuse_text}
use Rattle.history_judge.specs.declared.judging.Judgement.{Judgement}
use Rattle.history_judge.specs.declared.judging.Judgement.TheVariants.{InOrder, Overlapping}

-- the text of why the judge stopped, if it may meet at most `most` configurations
abbrev pub undecided_text : ℕ → JudgeFault → List ℕ
undecided_text most TooManyPending = codes "more than 64 pending accesses to one object"
undecided_text most fault = codes "more than" ++ number_field most ++ codes " configurations"

-- the text of a verdict on overlapping calls
abbrev pub call_text : ℕ → CallVerdict → List ℕ
call_text most (Linearizable entries) = codes "linearizable" ++ number_field entries ++ codes " entries"
call_text most (Misused line misuse) = codes "line" ++ number_field line ++ codes ": " ++ misuse_text misuse
call_text most (Flawed line flaw) = codes "line" ++ number_field line ++ codes ": " ++ flaw_text flaw
call_text most (Undecided line fault) = codes "undecided at line" ++ number_field line ++ codes ": " ++ undecided_text most fault

-- the line of a judgement, with its end
abbrev pub judgement_text : ℕ → Judgement → List ℕ
judgement_text most (InOrder verdict) = verdict_text verdict
judgement_text most (Overlapping verdict) = ended (call_text most verdict)
