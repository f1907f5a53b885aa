use Rattle.std.proofs.Common.{◌≡◌, ◌++◌, ℕ, Option, codes, subst, sym}
use Rattle.std.specs.Prelude.{OnOk}
use Rattle.std.proofs.lemmas.Result.{on_ok_weaker}
use Rattle.history_in_order.specs.VerdictTexts.{store_text}
use Rattle.history_in_order.proofs.ReasonTexts.{number_told}
use Rattle.history_in_order.proofs.texts.add_store.Goals as goal

pub returns-in_ok-extend_from_slice-in-Some : goal.returns-in_ok-extend_from_slice-in-Some
returns-in_ok-extend_from_slice-in-Some c =
    subst (λ (o : Option ℕ). OnOk c.add_decimal.result (c.add_decimal.new.text.items ≡ c.args.text.now.items ++ store_text o)) (sym c.in-Some.is)
    (on_ok_weaker c.add_decimal.result (λ last. number_told _ _ _ (codes " was last stored at line ") c.from.result c.in-Some.line c.from.ensures
    c.in_ok-extend_from_slice-in-Some.ensures.items last) c.add_decimal.ensures)
