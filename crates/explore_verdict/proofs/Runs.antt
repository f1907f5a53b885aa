-- Texts that are written piece by piece.
use Rattle.std.proofs.Common.{◌≡◌, ◌∙◌, ◌++◌, ◌∷◌, [], ℕ, List, append-nil, append_assoc, ap, refl, sym}
use Rattle.explore_interleavings.specs.ExploreStates.{Setting}
use Rattle.explore_interleavings.specs.declared.explorer.Explorer.{Explorer}
use Rattle.explore_report.specs.OutcomeTexts.{IsOutcomeText}
use Rattle.explore_report.specs.declared.outcomes.Outcome.{Outcome}
use Rattle.states_reach.specs.declared.reached.Reached.{Reached}
use Rattle.explore_verdict.specs.Pieces.{HasWritten, IsWritten, Piece, plain, shown}

module _ (x : Setting) (reached : Reached Explorer) where
  -- nothing is written
  pub has_none : (text : List ℕ) → HasWritten x reached [] text text
  has_none text = ([], refl, sym (append-nil text))

  -- bytes are written
  pub has_plain : (old new bytes : List ℕ) → new ≡ old ++ bytes → HasWritten x reached (plain bytes ∷ []) old new
  has_plain old new bytes is = (bytes, ([], refl, sym (append-nil bytes)), is)

  -- an outcome is written
  pub has_shown : (old new : List ℕ) (number : ℕ) (outcome : Outcome)
      → (added : List ℕ) × (IsOutcomeText x reached outcome number added × (new ≡ old ++ added)) → HasWritten x reached (shown number outcome ∷ []) old new
  has_shown old new number outcome (added, (is, at)) = (added, (added, [], is, refl, sym (append-nil added)), at)

  -- the pieces of one text and then those of another
  both_written : (one more : List Piece) (front back : List ℕ) → IsWritten x reached one front → IsWritten x reached more back
      → IsWritten x reached (one ++ more) (front ++ back)
  both_written [] more front back none rest = rw none rest
  both_written (plain bytes ∷ one) more front back (text, are, is) rest =
      (text ++ back, both_written one more text back are rest, ap (λ (t : List ℕ). t ++ back) is ∙ append_assoc bytes text back)
  both_written (shown number outcome ∷ one) more front back (first, text, shows, are, is) rest =
      (first, text ++ back, shows, both_written one more text back are rest, ap (λ (t : List ℕ). t ++ back) is ∙ append_assoc first text back)

  -- one after another
  pub has_both : (one more : List Piece) (old mid new : List ℕ) → HasWritten x reached one old mid → HasWritten x reached more mid new
      → HasWritten x reached (one ++ more) old new
  has_both one more old mid new (front, are, is) (back, rest, at) =
      (front ++ back, both_written one more front back are rest, at ∙ ap (λ (t : List ℕ). t ++ back) is ∙ append_assoc old front back)

  -- what is written into an empty text is the text
  pub is_whole : (pieces : List Piece) (text : List ℕ) → HasWritten x reached pieces [] text → IsWritten x reached pieces text
  is_whole pieces text (added, are, is) = rw is are
