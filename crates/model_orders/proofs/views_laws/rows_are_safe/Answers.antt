use Rattle.model_orders.specs.Views.{after_all}
use Rattle.model_orders.proofs.RowBegins.{explained_moved, explained_right, start_explained}
use Rattle.model_orders.proofs.RowMoves.{moves_explained}
use Rattle.model_orders.proofs.views_laws.rows_are_safe.Goals as goal

pub returns : goal.returns
returns c steps shapes rows moves right are start place =
    let e = moves_explained shapes are moves rows (λ x. start_explained (shapes x) steps (rows x) right (start x)) place in
    (explained_right (shapes place) (after_all shapes moves rows place) e, explained_moved (shapes place) (after_all shapes moves rows place) e)
