-- What is found of a recorded history of either kind.
use Rattle.std.specs.Prelude.{◌⊎◌, ℕ, List, Option, codes}
use Rattle.std.specs.Io.KnownBytes.{prepend_known}
use Rattle.model_jobs.specs.Texts.{ended}
use Rattle.history_judge.specs.Beginnings.{StartsOtherwise, StartsWith}
use Rattle.history_reading.specs.declared.faults.CallError.{CallError}
use Rattle.history_reading.specs.declared.faults.CallError.TheVariants.{Text, Order, Read, Memory}
use Rattle.history_in_order.specs.Checks.{HasJudged as HasJudgedInOrder}
use Rattle.history_in_order.specs.Outcomes.{Faulty, outcome_of}
use Rattle.history_overlaps.specs.Checks.{HasJudged as HasJudgedOverlapping, HasNotJudged as HasNotJudgedOverlapping}
use Rattle.history_judge.specs.declared.judging.Judgement.{Judgement}
use Rattle.history_judge.specs.declared.judging.Judgement.TheVariants.{InOrder, Overlapping}

-- the rest of a source, if `begun` was read ahead and `left` is what follows
abbrev pub left_of : List ℕ → Option (List ℕ) → Option (List ℕ)
left_of begun left = prepend_known begun left

-- the first line, with its end, of a history of overlapping calls
abbrev pub overlapping_line : List ℕ
overlapping_line = ended (codes "history 2")

-- what was found of the text that the device gave; the text's first line decides which kind of history it is. If calls
-- overlap, an object may have `most` configurations
abbrev pub HasJudged : ℕ → Option (List ℕ) → Option (List ℕ) → Judgement → Type 0
HasJudged most left left' (InOrder verdict) = StartsOtherwise overlapping_line left × HasJudgedInOrder left left' (outcome_of verdict)
HasJudged most left left' (Overlapping verdict) = StartsWith overlapping_line left × HasJudgedOverlapping most left left' verdict

-- why there is no judgement: the text, as a history of its kind, has this fault. If the input or an allocation failed,
-- nothing is claimed
abbrev pub HasNotJudged : Option (List ℕ) → Option (List ℕ) → CallError → Type 0
HasNotJudged left left' (Text fault) =
    (StartsOtherwise overlapping_line left × HasJudgedInOrder left left' (Faulty fault))
    ⊎ (StartsWith overlapping_line left × HasNotJudgedOverlapping left left' (Text fault))
HasNotJudged left left' (Order line) = StartsWith overlapping_line left × HasNotJudgedOverlapping left left' (Order line)
HasNotJudged left left' Read = Unit {0}
HasNotJudged left left' Memory = Unit {0}
