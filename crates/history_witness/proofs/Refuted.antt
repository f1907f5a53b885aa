-- A text in which the judge finds a wrong call.
use Rattle.std.proofs.Common.{◌≡◌, ℕ, List, ◌++◌, append-nil, inl, inr, ap, sym, subst, ◌∙◌, Option, Some, None}
use Rattle.std.specs.Io.KnownBytes.{Consumes}
use Rattle.history_overlaps.specs.Checks.{HasJudged, IsFlawedText, IsUnexplainedText}
use Rattle.history_overlaps.specs.declared.flaws.Flaw.{Flaw}
use Rattle.history_overlaps.specs.declared.verdicts.CallVerdict.{CallVerdict}
use Rattle.history_overlaps.specs.declared.verdicts.CallVerdict.TheVariants.{Flawed}
use Rattle.history_witness.specs.Witnesses.{IsRefuted}

-- no order explains the calls of a text that was read so far
unexplained : (text : List ℕ) (left' : Option (List ℕ)) (line : ℕ) (flaw : Flaw) (read : List ℕ) → Consumes (Some text) left' read → IsFlawedText left' read line flaw
    → IsUnexplainedText text
unexplained text None line flaw read taken flawed = absurd taken
unexplained text (Some rest) line flaw read taken flawed = elim flawed.unexplained [
  | inl goes ↦ subst (λ (t : List ℕ). IsUnexplainedText t) (sym taken) (goes rest).1
  | inr ended ↦
      let whole : read ≡ text = sym (append-nil read) ∙ ap (λ (l : List ℕ). read ++ l) (sym ended.1) ∙ sym taken in
      subst (λ (t : List ℕ). IsUnexplainedText t) whole ended.0.1
]

pub refuted : (most : ℕ) (text inner : List ℕ) (left' : Option (List ℕ)) (verdict : CallVerdict) (wrong line : ℕ) (flaw : Flaw) → inner ≡ text
    → HasJudged most (Some inner) left' verdict
    → verdict ≡ Flawed wrong flaw → wrong ≡ line → IsRefuted text line
refuted most text inner left' verdict wrong line flaw whole judged is same =
    let of_text = subst (λ (t : List ℕ). HasJudged most (Some t) left' verdict) whole judged in
    let of_line = subst (λ (n : ℕ). HasJudged most (Some text) left' (Flawed n flaw)) same (subst (λ (v : CallVerdict). HasJudged most (Some text) left' v) is of_text) in
    record { most = most; flaw = flaw; left = left'; judged = of_line; unexplained = unexplained text left' line flaw of_line.0 of_line.1 of_line.2 }
