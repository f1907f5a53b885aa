use Rattle.std.proofs.Common.{◌≡◌, ◌+◌, Some, sym, ◌∙◌, ap, take, rules, tests}
use Rattle.std.specs.List.{position}
use Rattle.std.proofs.lemmas.Iterator.{YieldsList-from_slice}
use Rattle.std.proofs.lemmas.Iterator.Search.{position_from_yields_List}
use Rattle.std.proofs.lemmas.List.{take_rest}
use Rattle.text_fields.specs.Lines.{texts}
use Rattle.history_reading.specs.HistoryFiles.{is_arrow}
use Rattle.history_reading.proofs.Arrows.{arrow_at, no_arrow}
use Rattle.history_reading.proofs.entries.arrow_split.Goals as goal

pub returns-in_err-place-clause-none : goal.returns-in_err-place-clause-none
returns-in_err-place-clause-none c = λ _.
    let found : c.position.result ≡ position (λ field. is_arrow field.now) c.args.fields.now =
    position_from_yields_List (λ field. is_arrow field.now) _ _ c.position.result c.position.ensures.ran (YieldsList-from_slice c.args.fields.now cc) (λ x b q k. search (rules, tests)) in
    no_arrow c.args.fields.now (sym found ∙ c.in_err-place.was)

pub returns-clause-some : goal.returns-clause-some
returns-clause-some c =
    let found : c.position.result ≡ position (λ field. is_arrow field.now) c.args.fields.now =
    position_from_yields_List (λ field. is_arrow field.now) _ _ c.position.result c.position.ensures.ran (YieldsList-from_slice c.args.fields.now cc) (λ x b q k. search (rules, tests)) in
    arrow_at c.args.fields.now c.in_ok-place.place (sym found ∙ c.in_ok-place.was)
    ∙ ap (λ rest. Some (texts (take c.in_ok-place.place c.args.fields.now), texts rest)) (sym (take_rest c.args.fields.now (c.in_ok-place.place + 1)))
