use Rattle.std.proofs.Common.{◌≡◌, sym, ◌∙◌, rules, tests}
use Rattle.std.specs.List.{list_all}
use Rattle.std.proofs.lemmas.Iterator.{YieldsList-from_slice}
use Rattle.std.proofs.lemmas.Iterator.Search.{all_from_yields_List}
use Rattle.model_jobs.specs.JobFiles.{is_printable}
use Rattle.text_fields.proofs.LineSteps.{bytes_taken}
use Rattle.text_fields.proofs.lines.check_bytes.Goals as goal

pub returns : goal.returns
returns c =
    let tested : c.all.result ≡ list_all is_printable c.args.line.now =
    all_from_yields_List is_printable _ _ c.all.result c.all.ensures.ran (YieldsList-from_slice c.args.line.now cc) (λ x b q k. search (rules, tests)) in
    sym (bytes_taken c.args.most c.args.line.now c.if-line-most.false (sym tested ∙ c.if-not-all.false))
