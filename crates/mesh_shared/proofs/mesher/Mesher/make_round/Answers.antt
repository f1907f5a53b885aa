use Rattle.std.proofs.Common.{ℕ, List, length, map, ap, ◌∙◌}
use Rattle.model_search.specs.Search.{Found, View, search}
use Rattle.mesh_shared.proofs.MesherCounts.{found_are_tried}
use Rattle.mesh_shared.proofs.mesher.Mesher.make_round.Goals as goal

pub returns-clause-searched : goal.returns-clause-searched
returns-clause-searched g c =
    let plan = c.args.self.now.plan.now in record {
      of_classes = c.in_ok-views.ensures;
      by_words = c.in_ok-found.ensures
          ∙ ap {B = List Found} (λ (l : List View). map (λ view. search view c.words_of.result.now plan.t) l) c.as_slice.ensures.value
          ∙ ap {B = List Found} (λ (words : List ℕ). map (λ view. search view words plan.t) c.in_ok-views.views.items) c.words_of.ensures;
    }

pub returns-clause-whole : goal.returns-clause-whole
returns-clause-whole g c left = c.mesh_all-whole.ensures.whole left ∙ ap (λ (l : List Found). length l) c.as_slice-4.ensures.value

pub returns-clause-counted : goal.returns-clause-counted
returns-clause-counted g c =
    found_are_tried c.as_slice-2.result.now c.as_slice-4.result.now _ c.args.calls.now _ c.count_search.new.self c.as_slice-2.ensures.value c.as_slice-4.ensures.value
    c.count_search.ensures c.mesh_all-whole.ensures.tried
