use Rattle.std.proofs.Common.{◌≡◌, Bool, true, false, not, refl, sym, ◌∙◌, subst}
use Rattle.text_reasons.specs.Truths.{IsRefused}
use Rattle.text_reasons.specs.declared.spelling.Range.{Range}
use Rattle.text_reasons.proofs.spelling.Range.allows.Goals as goal

refused : (b : Bool) → not b ≡ false → b ≡ true
refused true is = refl
refused false is = sym is

pub returns-in-Bytes : goal.returns-in-Bytes
returns-in-Bytes c = λ none.
    subst (λ (r : Range). IsRefused r c.args.text.now) (sym c.in-Bytes.is) (refused _ (sym c.spells_bytes.ensures ∙ none))
