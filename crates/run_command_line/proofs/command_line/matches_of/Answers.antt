use Rattle.std.proofs.Common.{◌∙◌, ap, inl, map}
use Rattle.std.proofs.lemmas.Result.{IfErr-weaker, IfOk-weaker}
use Rattle.clap.specs.Words.{App, is_simple, is_simple_and_free}
use Rattle.run_command_line.proofs.CommandLines.{asked_of_matches, has_matches, is_told, conditions_of_matches, explains_of_matches, said_by, taken_of}
use Rattle.run_command_line.proofs.command_line.matches_of.Goals as goal

pub returns : goal.returns
returns g c =
    let words = map g.S.AsStr.text c.args.words.now in
    let app_is = c.requires in
    let parse = c.try_get_matches_from_mut in
    record {
      asked = IfOk-weaker parse.result _ _ (λ matches ok. asked_of_matches words _ _ app_is (ok.2 (ap (λ (a : App). is_simple a) app_is ∙ has_matches)).1) parse.ensures.ok;
      conditions = IfOk-weaker parse.result _ _ (λ matches ok. conditions_of_matches words _ _ app_is (ok.2 (ap (λ (a : App). is_simple a) app_is ∙ has_matches)).1) parse.ensures.ok;
      explains = IfOk-weaker parse.result _ _ (λ matches ok. explains_of_matches words _ _ app_is (ok.2 (ap (λ (a : App). is_simple a) app_is ∙ has_matches)).1) parse.ensures.ok;
      kinds = said_by words _ parse.result app_is (parse.ensures.kinds (ap (λ (a : App). is_simple_and_free a) app_is ∙ is_told));
      passes = IfErr-weaker parse.result _ _ (λ error h taken. inl (h (taken_of words _ app_is taken))) parse.ensures.passes;
    }
