-- Commands keep what the rule says of a page, and so do all moves.
use Rattle.std.proofs.Common.{ℕ, Bool, not, ◌&&◌, nat_eq, List, [], ◌∷◌, refl}
use Rattle.std.proofs.lemmas.Bool.{and_parts}
use Rattle.model_orders.specs.Pages.{Page, Move, Store, Free, Reuse, Make, after, after_all, after_free, after_reuse, after_store, is_read_write, with_at}
use Rattle.model_orders.proofs.Points.{by_test, reuse_agrees, store_agrees}
use Rattle.model_orders.proofs.Explained.{IsExplained, first_explained}

store_explained : (offset byte : ℕ) (page : Page) → IsExplained page → IsExplained (after_store offset byte page)
store_explained offset byte page e = by_test (λ p. IsExplained p) (is_read_write page.protection && page.live offset) _ page
    (λ may. record {
      truth = e.truth;
      agrees = λ x live. store_agrees page.protection page.target e.truth offset byte x page.source page.destination page.memory
          (and_parts _ _ may).0 e.settled (e.agrees x live);
      settled = e.settled;
      kept = e.kept;
      right = e.right;
    })
    (λ blocked. e)

free_explained : (freed : ℕ → Bool) (page : Page) → IsExplained page → IsExplained (after_free freed page)
free_explained freed page e = record {
  truth = e.truth;
  agrees = λ x live. e.agrees x (and_parts (page.live x) (not (freed x)) live).0;
  settled = e.settled;
  kept = e.kept;
  right = e.right;
}

reuse_explained : (offset byte : ℕ) (page : Page) → IsExplained page → IsExplained (after_reuse offset byte page)
reuse_explained offset byte page e = record {
  truth = e.truth;
  agrees = λ x live. reuse_agrees page.released e.truth offset byte x page.source (page.destination x) (page.memory x) (λ released. (e.kept released).0) (e.agrees x live);
  settled = e.settled;
  kept = e.kept;
  right = e.right;
}

-- a move that changes one page
at_explained : (pages : ℕ → Page) (place : ℕ) (page : Page) → IsExplained page → ((x : ℕ) → IsExplained (pages x)) → (x : ℕ) → IsExplained (with_at pages place page x)
at_explained pages place page e all x = by_test (λ p. IsExplained p) (nat_eq x place) page (pages x) (λ here. e) (λ other. all x)

move_explained : (move : Move) (pages : ℕ → Page) → ((x : ℕ) → IsExplained (pages x)) → (x : ℕ) → IsExplained (after move pages x)
move_explained (Store place offset byte) pages all = at_explained pages place _ (store_explained offset byte (pages place) (all place)) all
move_explained (Free freed) pages all = λ x. free_explained (freed x) (pages x) (all x)
move_explained (Reuse place offset byte) pages all = at_explained pages place _ (reuse_explained offset byte (pages place) (all place)) all
move_explained (Make place) pages all = at_explained pages place _ (first_explained (pages place).left (pages place) refl (all place)) all

pub moves_explained : (moves : List Move) (pages : ℕ → Page) → ((x : ℕ) → IsExplained (pages x)) → (x : ℕ) → IsExplained (after_all moves pages x)
moves_explained [] pages all = all
moves_explained (move ∷ moves) pages all = moves_explained moves (after move pages) (move_explained move pages all)
