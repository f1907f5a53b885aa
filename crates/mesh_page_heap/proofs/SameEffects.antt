-- Two outcomes of one step of a mesh are the same.
use Rattle.std.proofs.Common.{◌≡◌, ℕ, Bool, true, false, not, List, ap, refl, subst, sym, ◌∙◌}
use Rattle.mesh_arena.specs.Pages.{Pages, is_taken}
use Rattle.mesh_page_heap.specs.EffectLaws.{AreSame}
use Rattle.mesh_page_heap.specs.Effects.{AreSides, HasEffect, IsUnder, under_of}
use Rattle.model_heap.specs.StepEffects.{Sides, Under, step_effect}
use Rattle.model_heap.specs.Table.{Group, Mesh}
use Rattle.mesh_pagemap.specs.Entries.{Entries}
use Rattle.mesh_spans.specs.Index.{Index}

-- sides with the same parts are one
sides_by_parts : (x y : Sides) → x.source ≡ y.source → x.from ≡ y.from → x.into ≡ y.into → x ≡ y
sides_by_parts x y source from into =
    ap {B = Sides} (λ (g : Group). record { source = g; from = x.from; into = x.into }) source
    ∙ ap {B = Sides} (λ (pages : List ℕ). record { source = y.source; from = pages; into = x.into }) from
    ∙ ap {B = Sides} (λ (pages : List ℕ). record { source = y.source; from = y.from; into = pages }) into

-- a mesh has one source and one destination
same_sides : (index : Index) (mesh : Mesh) (x y : Sides) → AreSides index mesh x → AreSides index mesh y → x ≡ y
same_sides index mesh x y these those =
    sides_by_parts x y (cc (sym these.source ∙ those.source)) (these.from ∙ sym those.from) (these.into ∙ sym those.into)

-- two truth values with the same contrary are one
same_not : (a b : Bool) → not a ≡ not b → a ≡ b
same_not true true h = refl
same_not false false h = refl
same_not true false h = sym h
same_not false true h = sym h

-- what lies under a table is one
same_under : (a b : Pages) (m n : Entries) (u : Under) → IsUnder a m u → IsUnder b n u → AreSame a b m n
same_under a b m n u these those = record {
  targets = λ v. those.targets v ∙ sym (these.targets v);
  taken = λ page. same_not (is_taken b page) (is_taken a page) (those.is_free page ∙ sym (these.is_free page));
  bytes = λ place in_a in_b. those.bytes place in_b ∙ sym (these.bytes place in_a);
}

-- two outcomes of one step are the same
pub effect_is_one : (index : Index) (mesh : Mesh) (arena a b : Pages) (m k n : Entries) → HasEffect index mesh arena a m k → HasEffect index mesh arena b m n
    → AreSame a b k n
effect_is_one index mesh arena a b m k n one other =
    let same : other.sides ≡ one.sides = same_sides index mesh other.sides one.sides other.sides_are one.sides_are in
    let under : IsUnder b n (step_effect one.sides mesh.progress (under_of arena m))
    = subst (λ (s : Sides). IsUnder b n (step_effect s mesh.progress (under_of arena m))) same other.under in
    same_under a b k n (step_effect one.sides mesh.progress (under_of arena m)) one.under under
