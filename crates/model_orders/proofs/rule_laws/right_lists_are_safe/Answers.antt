use Rattle.model_orders.proofs.Explained.{explained_moved, explained_right, start_explained}
use Rattle.model_orders.proofs.Moves.{moves_explained}
use Rattle.model_orders.specs.Pages.{after_all}
use Rattle.model_orders.proofs.rule_laws.right_lists_are_safe.Goals as goal

pub returns : goal.returns
returns c steps pages moves right start place =
    let e = moves_explained moves pages (λ x. start_explained steps (pages x) right (start x)) place in
    (explained_right (after_all moves pages place) e, explained_moved (after_all moves pages place) e)
