use Rattle.std.proofs.Common.{◌≡◌, ℕ, List, ap, subst, sym, ◌∙◌, refl, length, []}
use Rattle.std.specs.List.{range_with_len}
use Rattle.std.proofs.lemmas.Result.{IfOk-weaker}
use Rattle.model_search.specs.Search.{Candidate, View, shuffle}
use Rattle.mesh_search.specs.Views.{AreOnce, candidate_at, chosen, no_candidate}
use Rattle.mesh_search.proofs.FoundPairs.{shuffled_once}
use Rattle.mesh_search.proofs.Shuffled.{map-shuffle, all_places}
use Rattle.mesh_search.proofs.split.shuffled_places.Goals as goal

pub returns-clause-value : goal.returns-clause-value
returns-clause-value c =
    let view : View = c.args.view.now in
    let words : List ℕ = c.args.words.now in
    let numbers : List ℕ = range_with_len 0 (length view.candidates) in
    let places : c.as_slice.result.now ≡ numbers = c.as_slice.ensures.value ∙ c.in_ok-places.ensures.value in
    IfOk-weaker c.shuffle.result _ (λ v. chosen view v.items ≡ shuffle view.candidates words)
    (λ v is. ap (λ (ps : List ℕ). chosen view ps) (is ∙ ap (λ (ps : List ℕ). shuffle ps words) places) ∙ map-shuffle (candidate_at view) numbers words
    ∙ ap (λ (cs : List Candidate). shuffle cs words) (all_places view.candidates no_candidate 0 [] refl))
    c.shuffle.ensures.value

pub returns-clause-once : goal.returns-clause-once
returns-clause-once c =
    let view : View = c.args.view.now in
    IfOk-weaker c.shuffle.result _ (λ v. AreOnce (chosen view v.items))
    (λ v is. subst AreOnce (sym is) (shuffled_once view c.args.words.now c.in_ok-places.ensures.sound)) (returns-clause-value c)
