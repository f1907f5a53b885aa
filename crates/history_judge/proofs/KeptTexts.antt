-- What is found of a text of overlapping calls, if some of its bytes were inspected before.
use Rattle.std.proofs.Common.{◌≡◌, ℕ, List, sym, ◌∙◌, Option, Some, None}
use Rattle.std.specs.Io.KnownBytes.{Consumes, Keeps}
use Rattle.history_overlaps.specs.Checks.{HasJudged}
use Rattle.history_overlaps.specs.declared.verdicts.CallVerdict.{CallVerdict}
use Rattle.history_overlaps.specs.declared.verdicts.CallVerdict.TheVariants.{Linearizable, Misused, Flawed, Undecided}

consumed : (left kept left' : Option (List ℕ)) (text : List ℕ) → Keeps left kept → Consumes kept left' text → Consumes left left' text
consumed None kept left' text same taken = tt
consumed (Some xs) None left' text same taken = absurd same
consumed (Some xs) (Some ys) None text same taken = absurd taken
consumed (Some xs) (Some ys) (Some zs) text same taken = sym same ∙ taken

-- an inspection that keeps the text keeps what is found of it
pub judged_as_kept : (most : ℕ) (left kept left' : Option (List ℕ)) (verdict : CallVerdict) → Keeps left kept → HasJudged most kept left' verdict
    → HasJudged most left left' verdict
judged_as_kept most left kept left' (Linearizable entries) same judged =
    (judged.0, consumed left kept left' judged.0 same judged.1, judged.2, judged.3)
judged_as_kept most left kept left' (Misused line misuse) same judged = (judged.0, consumed left kept left' judged.0 same judged.1, judged.2)
judged_as_kept most left kept left' (Flawed line flaw) same judged = (judged.0, consumed left kept left' judged.0 same judged.1, judged.2)
judged_as_kept most left kept left' (Undecided line fault) same judged = (judged.0, consumed left kept left' judged.0 same judged.1, judged.2)
