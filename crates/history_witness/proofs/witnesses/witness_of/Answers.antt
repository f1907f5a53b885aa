use Rattle.std.proofs.Common.{ℕ, ◌-◌, ◌+◌, ◌≡◌, List, Option, Global, Vec, map, ap, arith, subst, sym, ◌∙◌}
use Rattle.std.specs.Prelude.{IfOk, IfSome}
use denote.Ref.{Bor}
use Rattle.text_fields.specs.Lines.{texts}
use Rattle.history_reading.specs.CallWords.{plain_call}
use Rattle.history_reading.specs.declared.words.TimedCall.{TimedCall}
use Rattle.history_overlaps.specs.Checks.{AreFirstCalls}
use Rattle.history_witness.specs.Witnesses.{IsWitness}
use Rattle.history_witness.proofs.witnesses.witness_of.Goals as goal

pub returns : goal.returns
returns c =
    let text = c.args.text.now in
    let above = c.if-line-lt2.false in
    let back : c.args.line - 2 + 2 ≡ c.args.line = omega (arith, above) in
    subst (λ (n : ℕ). IfOk c.checked.result (λ (found : Option (Vec ℕ Global)). IfSome found (λ (witness : Vec ℕ Global). IsWitness text n witness.items))) back
    (c.checked.ensures text (ap (λ (l : List (Bor (List ℕ))). texts l) c.as_slice-lines.ensures.value ∙ c.in_ok-split.ensures)
    (subst (λ (l : List TimedCall). AreFirstCalls (map plain_call l) text) (sym c.as_slice-calls.ensures.value) c.in_ok-begun.ensures))
