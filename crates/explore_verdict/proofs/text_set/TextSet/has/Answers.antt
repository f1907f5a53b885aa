use Rattle.std.proofs.Common.{◌∙◌, List, ℕ, ap}
use Rattle.explore_verdict.specs.TextSets.{is_in}
use Rattle.explore_verdict.proofs.TextSets.{found_in}
use Rattle.explore_verdict.proofs.text_set.TextSet.has.Goals as goal

pub returns : goal.returns
returns c =
    c.is_some.ensures
    ∙ found_in c.self.inside.pool c.args.text.now c.find.result c.find.ensures
    ∙ ap (λ (texts : List (List ℕ)). is_in texts c.args.text.now) c.self.view_is
