-- What is appended for a fault.
use Rattle.std.specs.Prelude.{◌≡◌, ℕ, List, ◌++◌}
use Rattle.model_words.specs.declared.faults.TextFault.{TextFault}
use Rattle.text_reasons.specs.Reasons.{IsPlain, kind_of}
use Rattle.text_reasons.specs.Sentences.{reason_text}
use Rattle.text_reasons.specs.Truths.{IsSo}
use Rattle.text_reasons.specs.declared.kinds.TextKind.{TextKind}
use Rattle.text_reasons.specs.declared.reason.Reason.{Reason}
use Rattle.text_reasons.specs.declared.reason.Reason.TheVariants.{General}

-- the text of a reason was appended that is for a fault of this kind. If the kind has no reasons of its own, it is the
-- general one
pub record HasAddedReason (old new : List ℕ) (wanted : TextKind) (fault : TextFault) : Type 0 where
  pub reason : Reason
  pub appended : new ≡ old ++ reason_text reason
  pub kind : kind_of reason ≡ fault.kind
  pub plain : IsPlain fault.kind → reason ≡ General wanted fault.kind
  pub so : IsSo reason
