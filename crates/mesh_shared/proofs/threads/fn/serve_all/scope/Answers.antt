use Rattle.std.proofs.Common.{List, Bor, map, sym, ◌∙◌}
use Rattle.model_words.specs.declared.commands.Command.{Command}
use Rattle.mesh_shared.proofs.AnsweredRuns.{answer_meshed, answer_served}
use Rattle.mesh_shared.proofs.JoinedThreads.{none_of_both}
use Rattle.mesh_shared.proofs.threads.fn.serve_all.scope.Goals as goal

pub returns : goal.returns
returns g c =
    let scripts : List (List Command) = map (λ (script : Bor (List Command)). script.now) c.captures.scripts.now in
    let both = none_of_both c.start_meshers-unmeshed.result c.start_workers-unserved.result in
    let answer = c.answer_of.ensures in record {
      served = answer_served _ scripts _ c.or-refused.result c.join_all-joined.result c.answer_of.result answer.unjoined answer.joined c.join_all-joined.ensures.served
          (λ none. c.start_workers-unserved.ensures.working (both (sym c.or-refused.ensures ∙ none)).1);
      meshed = answer_meshed _ _ _ c.or-refused.result c.join_all-joined.result c.answer_of.result answer.unjoined answer.joined c.join_all-joined.ensures.meshed
          (λ none. c.start_meshers-unmeshed.ensures.meshing (both (sym c.or-refused.ensures ∙ none)).0);
    }
