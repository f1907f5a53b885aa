use Rattle.std.proofs.Common.{◌≡◌, List, ℕ, false, subst, sym}
use Rattle.explore_verdict.specs.TextSets.{is_in}
use Rattle.explore_verdict.proofs.TextSets.{absent_from}
use Rattle.explore_verdict.proofs.text_set.TextSet.add.Goals as goal

pub add-requires : goal.add-requires
add-requires c =
    absent_from c.self.inside.pool c.args.text
    (subst (λ (texts : List (List ℕ)). is_in texts c.args.text ≡ false) (sym c.self.view_is) (sym c.if-not-has.ensures))
