use Rattle.std.proofs.Common.{ap, ◌∙◌}
use Rattle.std.proofs.lemmas.Result.{IfOk-weaker}
use Rattle.model_jobs.specs.Jobs.{PairsFound}
use Rattle.model_search.specs.Search.{Found, search}
use Rattle.mesh_text.proofs.MesherCalls.{look_call}
use Rattle.mesh_text.proofs.mesher.pair.Goals as goal

pub returns : goal.returns
returns c =
    IfOk-weaker c.search_one.result _ _
    (λ found is. look_call _ _ _ (ap (λ (f : Found). PairsFound f) (is
    ∙ ap (λ words. search c.in_ok-view.view words c.args.asked.now.rounds) c.as_slice.ensures.value
    ∙ ap (λ view. search view c.args.asked.now.words.items c.args.asked.now.rounds) c.in_ok-view.ensures)))
    c.search_one.ensures.value
