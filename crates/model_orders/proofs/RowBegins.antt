-- What holds of a row at the start of a step, and what follows for its loads.
use Rattle.std.proofs.Common.{◌≡◌, ℕ, ◌<◌, inl, inr, Bool, true, false, List, [], ◌∷◌, arith, refl, sym, subst, ◌∙◌}
use Rattle.std.proofs.lemmas.Bool.{and_parts}
use Rattle.std.proofs.lemmas.Bool.Decides.{leb_tells}
use Rattle.model_orders.specs.declared.steps.Step.{Step}
use Rattle.model_orders.specs.declared.facts.Side.{Side}
use Rattle.model_orders.specs.declared.facts.Side.TheVariants.{Source, Destination}
use Rattle.model_orders.specs.declared.facts.Truth.{Truth}
use Rattle.model_orders.specs.declared.facts.Truth.TheVariants.{InDestination}
use Rattle.model_orders.specs.declared.facts.Facts.{Facts}
use Rattle.model_orders.specs.Rule.{facts_after, first_facts, is_right, is_right_between, is_right_from, is_settled, may_make}
use Rattle.model_orders.proofs.Points.{Agree, load_right, over_moved}
use Rattle.model_orders.specs.Views.{Row, Shape, View, IsAtStart, IsLoadedRight, IsMoved}
use Rattle.model_orders.proofs.RowExplained.{IsExplained, IsMiddle, Matches, agree_begins, before_next, before_settled, done_settled, facts_next, kept_begins, next_kept, truth_during}

-- the parts of what the rule says of a list
pub right_parts : (facts : Facts) (step : Step) (steps : List Step) → is_right_from facts (step ∷ steps) ≡ true
    → (may_make step facts ≡ true) × (is_right_between (facts_after step facts) ≡ true) × (is_right_from (facts_after step facts) steps ≡ true)
right_parts facts step steps right = let parts = and_parts _ _ right in let more = and_parts _ _ parts.1 in (parts.0, more.0, more.1)

agree_at : (left : List Step) (facts : Facts) (s d m : ℕ) → is_right_from facts left ≡ true → Agree facts.truth s d m → Agree (truth_during left facts) s d m
agree_at [] facts s d m right h = h
agree_at (step ∷ steps) facts s d m right h = agree_begins step facts s d m (right_parts facts step steps right).0 h

kept_at : (left : List Step) (facts : Facts) → facts.truth ≡ InDestination → truth_during left facts ≡ InDestination
kept_at [] facts is = is
kept_at (step ∷ steps) facts is = kept_begins step facts is

-- a row at the start of the first step of a list
pub begins : (shape : Shape) (left : List Step) (row : Row) (facts : Facts)
    → ((offset : ℕ) → row.live offset ≡ true → Agree facts.truth (row.source offset) (row.destination offset) (row.memory offset))
    → ((view : ℕ) → view < shape.views → Matches (row.views view) facts)
    → (row.released ≡ true → (facts.truth ≡ InDestination) × ((view : ℕ) → view < shape.views → (row.views view).target ≡ Destination))
    → (facts.released ≡ true → row.released ≡ true) → is_right_between facts ≡ true → is_right_from facts left ≡ true → IsMiddle shape left 0 row
begins shape left row facts agrees matches kept was between right = record {
  facts = facts;
  agrees = λ offset live. agree_at left facts (row.source offset) (row.destination offset) (row.memory offset) right (agrees offset live);
  copied = λ offset live below. absurd (omega (arith, below));
  before = λ view within made. matches view within;
  done = λ view within below. absurd (omega (arith, below));
  kept = λ released. (kept_at left facts (kept released).0, (kept released).1);
  was = was;
  is_released = λ some. absurd (omega (arith, some));
  between = between;
  right = right;
}

settled_by : (view : View) (facts : Facts) (t : Truth) → Matches view facts → is_settled facts.protection facts.target t ≡ true
    → is_settled view.protection view.target t ≡ true
settled_by view facts t matches h = rw (matches.0, matches.1) h

during_before : (left : List Step) (facts : Facts) → is_right_from facts left ≡ true → is_right_between facts ≡ true
    → is_settled facts.protection facts.target (truth_during left facts) ≡ true
during_before [] facts right h = h
during_before (step ∷ steps) facts right h = before_settled step facts (right_parts facts step steps right).0 h

during_done : (left : List Step) (facts : Facts) → is_right_from facts left ≡ true → is_right_between facts ≡ true
    → is_settled (facts_next left facts).protection (facts_next left facts).target (truth_during left facts) ≡ true
during_done [] facts right h = h
during_done (step ∷ steps) facts right h = done_settled step facts h (right_parts facts step steps right).1

next_before : (left : List Step) (facts : Facts) → is_right_from facts left ≡ true → is_right_between facts ≡ true
    → is_settled facts.protection facts.target (facts_next left facts).truth ≡ true
next_before [] facts right h = h
next_before (step ∷ steps) facts right h = before_next step facts (right_parts facts step steps right).0 h

next_done : (left : List Step) (facts : Facts) → is_right_from facts left ≡ true → is_right_between facts ≡ true → is_right_between (facts_next left facts) ≡ true
next_done [] facts right h = h
next_done (step ∷ steps) facts right h = (right_parts facts step steps right).1

-- each view is settled, at the bytes that a copy has not reached and at those that it has
pub settled : (shape : Shape) (left : List Step) (made : ℕ) (row : Row) (e : IsMiddle shape left made row) (view : ℕ) → view < shape.views
    → is_settled (row.views view).protection (row.views view).target (truth_during left e.facts) ≡ true
settled shape left made row e view within = elim (leb_tells made view) [
  | inl upper ↦ settled_by (row.views view) e.facts _ (e.before view within upper.1) (during_before left e.facts e.right e.between)
  | inr lower ↦ settled_by (row.views view) (facts_next left e.facts) _ (e.done view within (omega (arith, lower.1))) (during_done left e.facts e.right e.between)
]

pub settled_next : (shape : Shape) (left : List Step) (made : ℕ) (row : Row) (e : IsMiddle shape left made row) (view : ℕ) → view < shape.views
    → is_settled (row.views view).protection (row.views view).target (facts_next left e.facts).truth ≡ true
settled_next shape left made row e view within = elim (leb_tells made view) [
  | inl upper ↦ settled_by (row.views view) e.facts _ (e.before view within upper.1) (next_before left e.facts e.right e.between)
  | inr lower ↦ settled_by (row.views view) (facts_next left e.facts) _ (e.done view within (omega (arith, lower.1))) (next_done left e.facts e.right e.between)
]

pub kept_next : (left : List Step) (facts : Facts) → is_right_from facts left ≡ true → truth_during left facts ≡ InDestination → (facts_next left facts).truth ≡ InDestination
kept_next [] facts right is = is
kept_next (step ∷ steps) facts right is = next_kept step facts (right_parts facts step steps right).0 is

pub start_explained : (shape : Shape) (steps : List Step) (row : Row) → is_right steps ≡ true → IsAtStart shape steps row → IsExplained shape row
start_explained shape steps row right start =
    subst (λ n. IsMiddle shape row.left n row) (sym start.made) (
    begins shape row.left row first_facts start.bytes (λ view within. (start.protection view within, start.target view within))
    (λ released. absurd (cc (released, start.released))) (λ is. absurd (cc is)) refl (rw start.left right)
    )

held : (released : Bool) (side : Side) → (released ≡ true → side ≡ Destination) → side ≡ Source → released ≡ false
held false side kept source = refl
held true side kept source = let both : Source ≡ Destination = sym source ∙ kept refl in absurd (cc both)

pub explained_right : (shape : Shape) (row : Row) → IsExplained shape row → IsLoadedRight shape row
explained_right shape row e = record {
  bytes = λ view offset within live open_page. load_right (row.views view).protection (row.views view).target (truth_during row.left e.facts)
      (row.source offset) (row.destination offset) (row.memory offset) (settled shape row.left row.made row e view within) open_page (e.agrees offset live);
  held = λ view within. held row.released (row.views view).target (λ released. (e.kept released).1 view within);
}

moved_at : (shape : Shape) (left : List Step) (made : ℕ) (row : Row) → IsMiddle shape left made row → left ≡ [] → IsMoved shape row
moved_at shape (step ∷ steps) made row e over = cc over
moved_at shape [] made row e over =
    let moved = over_moved e.facts.protection e.facts.target e.facts.released e.right in
    let matches : (view : ℕ) → view < shape.views → Matches (row.views view) e.facts = (λ view within. elim (leb_tells made view) [
      | inl upper ↦ e.before view within upper.1
      | inr lower ↦ e.done view within (omega (arith, lower.1))
    ]) in
    record {
      protection = λ view within. (matches view within).0 ∙ moved.0;
      target = λ view within. (matches view within).1 ∙ moved.1;
      released = e.was moved.2;
    }

pub explained_moved : (shape : Shape) (row : Row) → IsExplained shape row → row.left ≡ [] → IsMoved shape row
explained_moved shape row e over = moved_at shape row.left row.made row e over
