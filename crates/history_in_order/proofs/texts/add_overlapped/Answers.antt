use Rattle.std.proofs.Common.{codes}
use Rattle.std.proofs.lemmas.Result.{on_ok_weaker}
use Rattle.history_in_order.proofs.ReasonTexts.{numbers_told}
use Rattle.history_in_order.proofs.texts.add_overlapped.Goals as goal

pub returns : goal.returns
returns c =
    on_ok_weaker c.add_decimal-2.result (λ last. numbers_told _ _ _ _ _ (codes "overlaps object ") (codes ", made at line ") c.from.result c.args.overlap.now.serial c.from-2.result
    c.args.overlap.now.made_at c.from.ensures c.from-2.ensures c.in_ok-extend_from_slice.ensures.items c.in_ok-add_decimal.ensures
    c.in_ok-extend_from_slice-2.ensures.items last) c.add_decimal-2.ensures
