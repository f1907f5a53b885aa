-- Commands keep what the rule says of a row, and so do all moves.
use Rattle.std.proofs.Common.{◌≡◌, ℕ, ◌+◌, ◌<◌, Bool, ◌&&◌, not, nat_eq, nat_lt, List, [], ◌∷◌, refl, sym, subst}
use Rattle.std.proofs.lemmas.Bool.{and_parts, eqb-true, ltb-true, ltb-false}
use Rattle.model_orders.specs.declared.steps.Step.{Step}
use Rattle.model_orders.specs.declared.steps.Step.TheVariants.{Protect, Hide, Copy, Remap, Unprotect, Release}
use Rattle.model_orders.specs.Pages.{is_read_write, with_at}
use Rattle.model_orders.proofs.Points.{by_test, reuse_agrees, store_agrees}
use Rattle.model_orders.specs.Views.{IsShape, Move, Row, Shape, Store, Free, Reuse, Make, after, after_all, after_free, after_make, after_part, after_reuse, after_store, moves_of}
use Rattle.model_orders.proofs.RowExplained.{IsExplained, IsMiddle, facts_next, truth_during}
use Rattle.model_orders.proofs.RowBegins.{kept_next, settled, settled_next}
use Rattle.model_orders.proofs.RowParts.{part_made, step_over}

store_explained : (shape : Shape) (view offset byte : ℕ) (row : Row) → IsExplained shape row → IsExplained shape (after_store shape view offset byte row)
store_explained shape view offset byte row e =
    by_test (λ r. IsExplained shape r) (nat_lt view shape.views && (is_read_write (row.views view).protection && row.live offset)) _ row
    (λ may.
    let parts = and_parts _ _ may in
    let within : view < shape.views = ltb-true view shape.views parts.0 in
    let writable = (and_parts _ _ parts.1).0 in
    record {
      facts = e.facts;
      agrees = λ x live. store_agrees (row.views view).protection (row.views view).target (truth_during row.left e.facts) offset byte x row.source row.destination row.memory
          writable (settled shape row.left row.made row e view within) (e.agrees x live);
      copied = λ x live below. store_agrees (row.views view).protection (row.views view).target (facts_next row.left e.facts).truth offset byte x row.source row.destination
          row.memory writable (settled_next shape row.left row.made row e view within) (e.copied x live below);
      before = e.before;
      done = e.done;
      kept = e.kept;
      was = e.was;
      is_released = e.is_released;
      between = e.between;
      right = e.right;
    })
    (λ blocked. e)

free_explained : (shape : Shape) (freed : ℕ → Bool) (row : Row) → IsExplained shape row → IsExplained shape (after_free freed row)
free_explained shape freed row e = record {
  facts = e.facts;
  agrees = λ x live. e.agrees x (and_parts (row.live x) (not (freed x)) live).0;
  copied = λ x live below. e.copied x (and_parts (row.live x) (not (freed x)) live).0 below;
  before = e.before;
  done = e.done;
  kept = e.kept;
  was = e.was;
  is_released = e.is_released;
  between = e.between;
  right = e.right;
}

reuse_explained : (shape : Shape) (offset byte : ℕ) (row : Row) → IsExplained shape row → IsExplained shape (after_reuse offset byte row)
reuse_explained shape offset byte row e = record {
  facts = e.facts;
  agrees = λ x live. reuse_agrees row.released (truth_during row.left e.facts) offset byte x row.source (row.destination x) (row.memory x)
      (λ released. (e.kept released).0) (e.agrees x live);
  copied = λ x live below. reuse_agrees row.released (facts_next row.left e.facts).truth offset byte x row.source (row.destination x) (row.memory x)
      (λ released. kept_next row.left e.facts e.right (e.kept released).0) (e.copied x live below);
  before = e.before;
  done = e.done;
  kept = e.kept;
  was = e.was;
  is_released = e.is_released;
  between = e.between;
  right = e.right;
}

-- a part of a step leaves the list as it is
left_stays : (shape : Shape) (step : Step) (steps : List Step) (row : Row) → row.left ≡ step ∷ steps → (after_part shape step row.made row).left ≡ step ∷ steps
left_stays shape Protect steps row same = same
left_stays shape Hide steps row same = same
left_stays shape Copy steps row same = same
left_stays shape Remap steps row same = same
left_stays shape Unprotect steps row same = same
left_stays shape Release steps row same = same

make_explained : (shape : Shape) → IsShape shape → (left : List Step) (row : Row) → row.left ≡ left → IsExplained shape row → IsExplained shape (after_make shape left row)
make_explained shape is [] row same e = e
make_explained shape is (step ∷ steps) row same e =
    let here : IsMiddle shape (step ∷ steps) row.made row = subst (λ left. IsMiddle shape left row.made row) same e in
    by_test (λ r. IsExplained shape r) (nat_lt row.made (moves_of shape step)) (record (after_part shape step row.made row) { made = row.made + 1 }) (record row { left = steps; made = 0 })
    (λ some. subst (λ left. IsMiddle shape left (row.made + 1) (record (after_part shape step row.made row) { made = row.made + 1 })) (sym (left_stays shape step steps row same))
    (part_made shape step steps row (ltb-true row.made (moves_of shape step) some) here))
    (λ none. step_over shape is step steps row (ltb-false row.made (moves_of shape step) none) here)

at_explained : (shapes : ℕ → Shape) (rows : ℕ → Row) (place : ℕ) (row : Row) → IsExplained (shapes place) row → ((x : ℕ) → IsExplained (shapes x) (rows x))
    → (x : ℕ) → IsExplained (shapes x) (with_at rows place row x)
at_explained shapes rows place row e all x = by_test (λ r. IsExplained (shapes x) r) (nat_eq x place) row (rows x)
    (λ here. subst (λ y. IsExplained (shapes y) row) (sym (eqb-true x place here)) e) (λ other. all x)

move_explained : (shapes : ℕ → Shape) → ((x : ℕ) → IsShape (shapes x)) → (move : Move) (rows : ℕ → Row) → ((x : ℕ) → IsExplained (shapes x) (rows x))
    → (x : ℕ) → IsExplained (shapes x) (after shapes move rows x)
move_explained shapes are (Store place view offset byte) rows all = at_explained shapes rows place _ (store_explained (shapes place) view offset byte (rows place) (all place)) all
move_explained shapes are (Free freed) rows all = λ x. free_explained (shapes x) (freed x) (rows x) (all x)
move_explained shapes are (Reuse place offset byte) rows all = at_explained shapes rows place _ (reuse_explained (shapes place) offset byte (rows place) (all place)) all
move_explained shapes are (Make place) rows all = at_explained shapes rows place _ (make_explained (shapes place) (are place) (rows place).left (rows place) refl (all place)) all

pub moves_explained : (shapes : ℕ → Shape) → ((x : ℕ) → IsShape (shapes x)) → (moves : List Move) (rows : ℕ → Row) → ((x : ℕ) → IsExplained (shapes x) (rows x))
    → (x : ℕ) → IsExplained (shapes x) (after_all shapes moves rows x)
moves_explained shapes are [] rows all = all
moves_explained shapes are (move ∷ moves) rows all = moves_explained shapes are moves (after shapes move rows) (move_explained shapes are move rows all)
