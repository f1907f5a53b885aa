-- What the mesher's moves keep of a row.
use Rattle.std.proofs.Common.{◌≡◌, ℕ, ◌+◌, ◌<◌, ◌≤◌, inl, inr, Bool, true, false, ◌&&◌, if◌then◌else◌, nat_eq, List, ◌∷◌, arith, refl, sym, subst, ◌∙◌}
use Rattle.std.proofs.lemmas.Bool.{and_parts}
use Rattle.std.proofs.lemmas.Bool.Decides.{eqb_tells, leb_tells}
use Rattle.model_orders.specs.declared.steps.Step.{Step}
use Rattle.model_orders.specs.declared.steps.Step.TheVariants.{Protect, Hide, Copy, Remap, Unprotect, Release}
use Rattle.model_orders.specs.declared.facts.Protection.{Protection}
use Rattle.model_orders.specs.declared.facts.Side.TheVariants.{Destination}
use Rattle.model_orders.specs.Pages.{with_at}
use Rattle.model_orders.specs.declared.facts.Truth.{Truth}
use Rattle.model_orders.specs.declared.facts.Truth.TheVariants.{InSource, InBoth, InDestination}
use Rattle.model_orders.specs.Rule.{facts_after, may_copy, truth_copied}
use Rattle.model_orders.proofs.Points.{Agree, by_test, copy_agrees, released_target}
use Rattle.model_orders.specs.Views.{IsShape, Row, Shape, View, after_part, moves_of, with_changed}
use Rattle.model_orders.proofs.RowExplained.{IsMiddle, Matches, changed_matches, changed_target, truth_in}
use Rattle.model_orders.proofs.RowBegins.{begins, kept_next, right_parts}

-- a view of the row after one of them is changed: the changed one, or another
with_view : (P : View → Type 0) (views : ℕ → View) (place view : ℕ) (w : View) → (view ≡ place → P w) → ((view ≡ place → ⊥) → P (views view)) → P (with_at views place w view)
with_view P views place view w here other = elim (eqb_tells view place) [
  | inl same ↦ rw same.0 (here same.1)
  | inr apart ↦ rw apart.0 (other apart.1)
]

-- one more view is changed
pub view_made : (shape : Shape) (step : Step) (steps : List Step) (row : Row) (e : IsMiddle shape (step ∷ steps) row.made row) → row.made < shape.views
    → (facts_after step e.facts).truth ≡ truth_in step e.facts → ((facts_after step e.facts).released ≡ e.facts.released)
    → IsMiddle shape (step ∷ steps) (row.made + 1) (record (with_changed step row.made row) { made = row.made + 1 })
view_made shape step steps row e within truth_is released_is = record {
  facts = e.facts;
  agrees = e.agrees;
  copied = λ offset live below. subst (λ t. Agree t (row.source offset) (row.destination offset) (row.memory offset)) (sym truth_is) (e.agrees offset live);
  before = λ view inside above. with_view (λ w. Matches w e.facts) row.views row.made view _ (λ same. absurd (omega (arith, same, above)))
      (λ apart. e.before view inside (omega (arith, above)));
  done = λ view inside below. with_view (λ w. Matches w (facts_after step e.facts)) row.views row.made view _
      (λ same. changed_matches step (row.views row.made) e.facts (e.before row.made within (omega arith)))
      (λ apart. e.done view inside (omega (arith, below, apart)));
  kept = λ released. (
    (e.kept released).0,
    λ view inside. with_view (λ w. w.target ≡ Destination) row.views row.made view _
        (λ same. changed_target step (row.views row.made) ((e.kept released).1 row.made within)) (λ apart. (e.kept released).1 view inside),
  );
  was = e.was;
  is_released = λ some is. e.was (sym released_is ∙ is);
  between = e.between;
  right = e.right;
}

-- the views during a copy, which changes none
copy_matches : (shape : Shape) (steps : List Step) (row : Row) (e : IsMiddle shape (Copy ∷ steps) row.made row) (view : ℕ) → view < shape.views → Matches (row.views view) e.facts
copy_matches shape steps row e view within = elim (leb_tells row.made view) [
  | inl upper ↦ e.before view within upper.1
  | inr lower ↦ e.done view within (omega (arith, lower.1))
]

release_matches : (shape : Shape) (steps : List Step) (row : Row) (e : IsMiddle shape (Release ∷ steps) row.made row) (view : ℕ) → view < shape.views → Matches (row.views view) e.facts
release_matches shape steps row e view within = elim (leb_tells row.made view) [
  | inl upper ↦ e.before view within upper.1
  | inr lower ↦ e.done view within (omega (arith, lower.1))
]

copy_keeps : (t : Truth) (here : Bool) (s d m : ℕ) → may_copy t ≡ true → Agree t s d m → Agree t s (if here then s else d) m
copy_keeps t false s d m may h = h
copy_keeps InSource true s d m may h = h
copy_keeps InBoth true s d m may h = (h.0, h.0)
copy_keeps InDestination true s d m may h = cc may

and_true : (a b : Bool) → a ≡ true → b ≡ true → (a && b) ≡ true
and_true a b x y = rw (x, y) refl

-- a byte that this move copies, or an earlier move copied
copied_now : (protection : Protection) (t : Truth) (live : Bool) (piece n s d m : ℕ) → live ≡ true → may_copy t ≡ true → Agree t s d m → piece < n + 1
    → (piece < n → Agree (truth_copied protection t) s d m) → Agree (truth_copied protection t) s (if live && nat_eq piece n then s else d) m
copied_now protection t live piece n s d m is_live may h below earlier = by_test (λ x. Agree (truth_copied protection t) s x m) (live && nat_eq piece n) s d
    (λ here. copy_agrees protection t true s d m refl may h)
    (λ other. elim (eqb_tells piece n) [
      | inl same ↦ (let both : true ≡ false = sym (and_true live (nat_eq piece n) is_live same.0) ∙ other in absurd (cc both))
      | inr apart ↦ earlier (omega (arith, below, apart.1))
    ])

pub copy_made : (shape : Shape) (steps : List Step) (row : Row) → IsMiddle shape (Copy ∷ steps) row.made row
    → IsMiddle shape (Copy ∷ steps) (row.made + 1) (record (after_part shape Copy row.made row) { made = row.made + 1 })
copy_made shape steps row e =
    let may : may_copy e.facts.truth ≡ true = (right_parts e.facts Copy steps e.right).0 in
    record {
      facts = e.facts;
      agrees = λ offset live. copy_keeps e.facts.truth (row.live offset && nat_eq (shape.piece offset) row.made) (row.source offset) (row.destination offset) (row.memory offset) may (e.agrees offset live);
      copied = λ offset live below. copied_now e.facts.protection e.facts.truth (row.live offset) (shape.piece offset) row.made (row.source offset) (row.destination offset)
          (row.memory offset) live may (e.agrees offset live) below (e.copied offset live);
      before = λ view within above. copy_matches shape steps row e view within;
      done = λ view within below. copy_matches shape steps row e view within;
      kept = e.kept;
      was = e.was;
      is_released = λ some is. e.was is;
      between = e.between;
      right = e.right;
    }

pub release_made : (shape : Shape) (steps : List Step) (row : Row) → IsMiddle shape (Release ∷ steps) row.made row
    → IsMiddle shape (Release ∷ steps) (row.made + 1) (record (after_part shape Release row.made row) { made = row.made + 1 })
release_made shape steps row e =
    let may = (and_parts _ _ (right_parts e.facts Release steps e.right).0).0 in
    record {
      facts = e.facts;
      agrees = e.agrees;
      copied = λ offset live below. e.agrees offset live;
      before = λ view within above. release_matches shape steps row e view within;
      done = λ view within below. release_matches shape steps row e view within;
      kept = λ released. (refl, λ view within. (release_matches shape steps row e view within).1 ∙ released_target e.facts.target e.facts.truth may);
      was = λ is. refl;
      is_released = λ some is. refl;
      between = e.between;
      right = e.right;
    }

pub part_made : (shape : Shape) (step : Step) (steps : List Step) (row : Row) → row.made < moves_of shape step → IsMiddle shape (step ∷ steps) row.made row
    → IsMiddle shape (step ∷ steps) (row.made + 1) (record (after_part shape step row.made row) { made = row.made + 1 })
part_made shape Protect steps row within e = view_made shape Protect steps row e within refl refl
part_made shape Hide steps row within e = view_made shape Hide steps row e within refl refl
part_made shape Copy steps row within e = copy_made shape steps row e
part_made shape Remap steps row within e = view_made shape Remap steps row e within refl refl
part_made shape Unprotect steps row within e = view_made shape Unprotect steps row e within refl refl
part_made shape Release steps row within e = release_made shape steps row e

-- ---- the end of a step

all_matches : (shape : Shape) (step : Step) (steps : List Step) (row : Row) → moves_of shape step ≤ row.made → (e : IsMiddle shape (step ∷ steps) row.made row) (view : ℕ)
    → view < shape.views → Matches (row.views view) (facts_after step e.facts)
all_matches shape Protect steps row over e view within = e.done view within (omega (arith, over))
all_matches shape Hide steps row over e view within = e.done view within (omega (arith, over))
all_matches shape Copy steps row over e view within = copy_matches shape steps row e view within
all_matches shape Remap steps row over e view within = e.done view within (omega (arith, over))
all_matches shape Unprotect steps row over e view within = e.done view within (omega (arith, over))
all_matches shape Release steps row over e view within = release_matches shape steps row e view within

all_agrees : (shape : Shape) → IsShape shape → (step : Step) (steps : List Step) (row : Row) → moves_of shape step ≤ row.made → (e : IsMiddle shape (step ∷ steps) row.made row)
    → (offset : ℕ) → row.live offset ≡ true → Agree (facts_after step e.facts).truth (row.source offset) (row.destination offset) (row.memory offset)
all_agrees shape is Protect steps row over e offset live = e.agrees offset live
all_agrees shape is Hide steps row over e offset live = e.agrees offset live
all_agrees shape is Copy steps row over e offset live = let within = is offset in e.copied offset live (omega (arith, over, within))
all_agrees shape is Remap steps row over e offset live = e.agrees offset live
all_agrees shape is Unprotect steps row over e offset live = e.agrees offset live
all_agrees shape is Release steps row over e offset live = e.agrees offset live

all_was : (shape : Shape) (step : Step) (steps : List Step) (row : Row) → moves_of shape step ≤ row.made → (e : IsMiddle shape (step ∷ steps) row.made row)
    → (facts_after step e.facts).released ≡ true → row.released ≡ true
all_was shape Protect steps row over e is = e.was is
all_was shape Hide steps row over e is = e.was is
all_was shape Copy steps row over e is = e.was is
all_was shape Remap steps row over e is = e.was is
all_was shape Unprotect steps row over e is = e.was is
all_was shape Release steps row over e is = e.is_released over is

pub step_over : (shape : Shape) → IsShape shape → (step : Step) (steps : List Step) (row : Row) → moves_of shape step ≤ row.made → IsMiddle shape (step ∷ steps) row.made row
    → IsMiddle shape steps 0 (record row { left = steps; made = 0 })
step_over shape is step steps row over e =
    let parts = right_parts e.facts step steps e.right in
    begins shape steps (record row { left = steps; made = 0 }) (facts_after step e.facts) (all_agrees shape is step steps row over e) (all_matches shape step steps row over e)
    (λ released. (kept_next (step ∷ steps) e.facts e.right (e.kept released).0, (e.kept released).1)) (all_was shape step steps row over e) parts.1 parts.2
