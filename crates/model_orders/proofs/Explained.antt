-- The facts of the rule, read as a statement on a page, and what the mesher's steps keep of it.
use Rattle.std.proofs.Common.{◌≡◌, ℕ, Bool, true, false, List, [], ◌∷◌, ap, refl, sym, subst, ◌∙◌}
use Rattle.std.proofs.lemmas.Bool.{and_parts}
use Rattle.model_orders.specs.declared.steps.Step.{Step}
use Rattle.model_orders.specs.declared.steps.Step.TheVariants.{Protect, Hide, Copy, Remap, Unprotect, Release}
use Rattle.model_orders.specs.declared.facts.Side.{Side}
use Rattle.model_orders.specs.declared.facts.Side.TheVariants.{Source, Destination}
use Rattle.model_orders.specs.Pages.{Page, after_step, after_first, IsAtStart, IsLoadedRight, IsMoved}
use Rattle.model_orders.specs.declared.facts.Truth.{Truth}
use Rattle.model_orders.specs.declared.facts.Truth.TheVariants.{InSource, InBoth, InDestination}
use Rattle.model_orders.specs.declared.facts.Facts.{Facts}
use Rattle.model_orders.specs.Rule.{facts_after, is_right, is_right_between, is_right_from, is_settled, may_copy, may_make, truth_copied, truth_unprotected}
use Rattle.model_orders.proofs.Points.{Agree, copy_agrees, load_right, over_moved, release_agrees, released_target, unprotect_agrees}

abbrev pub facts_of : Page → Truth → Facts
facts_of page t = record { protection = page.protection; target = page.target; truth = t; released = page.released }

pub record IsExplained (page : Page) : Type 0 where
  pub truth : Truth
  pub agrees : (offset : ℕ) → page.live offset ≡ true → Agree truth (page.source offset) (page.destination offset) (page.memory offset)
  pub settled : is_settled page.protection page.target truth ≡ true
  pub kept : page.released ≡ true → (truth ≡ InDestination) × (page.target ≡ Destination)
  pub right : is_right_from (facts_of page truth) page.left ≡ true

no_copy : (t : Truth) → may_copy t ≡ true → t ≡ InDestination → ⊥
no_copy InSource may is = cc is
no_copy InBoth may is = cc is
no_copy InDestination may is = cc may

step_explained : (step : Step) (rest : List Step) (page : Page) (e : IsExplained page) → may_make step (facts_of page e.truth) ≡ true
    → is_right_between (facts_after step (facts_of page e.truth)) ≡ true → is_right_from (facts_after step (facts_of page e.truth)) rest ≡ true
    → IsExplained (record (after_step step page) { left = rest })
step_explained Protect rest page e may between right = record { truth = e.truth; agrees = e.agrees; settled = between; kept = e.kept; right = right }
step_explained Hide rest page e may between right = record { truth = e.truth; agrees = e.agrees; settled = between; kept = e.kept; right = right }
step_explained Copy rest page e may between right = record {
  truth = truth_copied page.protection e.truth;
  agrees = λ offset live. copy_agrees page.protection e.truth (page.live offset) (page.source offset) (page.destination offset) (page.memory offset) live may (e.agrees offset live);
  settled = between;
  kept = λ released. absurd (no_copy e.truth may (e.kept released).0);
  right = right;
}
step_explained Remap rest page e may between right = record {
  truth = e.truth;
  agrees = e.agrees;
  settled = between;
  kept = λ released. ((e.kept released).0, refl);
  right = right;
}
step_explained Unprotect rest page e may between right = record {
  truth = truth_unprotected page.target e.truth;
  agrees = λ offset live. unprotect_agrees page.target e.truth (page.source offset) (page.destination offset) (page.memory offset) (e.agrees offset live);
  settled = between;
  kept = λ released. (ap (truth_unprotected page.target) (e.kept released).0, (e.kept released).1);
  right = right;
}
step_explained Release rest page e may between right = record {
  truth = InDestination;
  agrees = λ offset live. release_agrees page.target e.truth (page.source offset) (page.destination offset) (page.memory offset) (and_parts _ _ may).0 (e.agrees offset live);
  settled = between;
  kept = λ released. (refl, released_target page.target e.truth (and_parts _ _ may).0);
  right = right;
}

pub first_explained : (left : List Step) (page : Page) → page.left ≡ left → IsExplained page → IsExplained (after_first left page)
first_explained [] page same e = e
first_explained (step ∷ rest) page same e =
    let right = subst (λ steps. is_right_from (facts_of page e.truth) steps ≡ true) same e.right in
    let parts = and_parts _ _ right in
    let more = and_parts _ _ parts.1 in
    step_explained step rest page e parts.0 more.0 more.1

pub start_explained : (steps : List Step) (page : Page) → is_right steps ≡ true → IsAtStart steps page → IsExplained page
start_explained steps page right start = record {
  truth = InSource;
  agrees = start.bytes;
  settled = rw (start.protection, start.target) refl;
  kept = λ released. absurd (cc (released, start.released));
  right = rw (start.protection, start.target, start.released, start.left) right;
}

held : (released : Bool) (t : Truth) (side : Side) → (released ≡ true → (t ≡ InDestination) × (side ≡ Destination)) → side ≡ Source → released ≡ false
held false t side kept source = refl
held true t side kept source = let both : Source ≡ Destination = sym source ∙ (kept refl).1 in absurd (cc both)

pub explained_right : (page : Page) → IsExplained page → IsLoadedRight page
explained_right page e = record {
  bytes = λ offset live open_page. load_right page.protection page.target e.truth (page.source offset) (page.destination offset) (page.memory offset) e.settled open_page (e.agrees offset live);
  held = held page.released e.truth page.target e.kept;
}

pub explained_moved : (page : Page) → IsExplained page → page.left ≡ [] → IsMoved page
explained_moved page e over =
    let moved = over_moved page.protection page.target page.released (subst (λ steps. is_right_from (facts_of page e.truth) steps ≡ true) over e.right) in
    record { protection = moved.0; target = moved.1; released = moved.2 }
