use Rattle.std.proofs.Common.{◌≡◌, ◌+◌, ◌∷◌, nat_eq, sym, ◌∙◌, ap, take, rules, tests}
use Rattle.std.proofs.lemmas.List.{take_rest}
use Rattle.std.specs.List.{slice_split}
use Rattle.std.proofs.lemmas.Iterator.{YieldsList-from_slice}
use Rattle.std.proofs.lemmas.Iterator.Search.{position_from_yields_List}
use Rattle.text_fields.proofs.Splits.{place_in, split_at_place, split_unplaced}
use Rattle.text_fields.proofs.lines.cut.Goals as goal

pub returns-in_err-place-clause-none : goal.returns-in_err-place-clause-none
returns-in_err-place-clause-none c = λ _.
    let found : c.position.result ≡ place_in c.args.at c.args.bytes.now =
    position_from_yields_List (λ b. nat_eq b c.args.at) _ _ c.position.result c.position.ensures.ran (YieldsList-from_slice c.args.bytes.now cc) (λ x b q k. search (rules, tests)) in
    split_unplaced c.args.at c.args.bytes.now (sym found ∙ c.in_err-place.was)

pub returns-clause-some : goal.returns-clause-some
returns-clause-some c =
    let found : c.position.result ≡ place_in c.args.at c.args.bytes.now =
    position_from_yields_List (λ b. nat_eq b c.args.at) _ _ c.position.result c.position.ensures.ran (YieldsList-from_slice c.args.bytes.now cc) (λ x b q k. search (rules, tests)) in
    split_at_place c.args.at c.args.bytes.now c.in_ok-place.place (sym found ∙ c.in_ok-place.was)
    ∙ ap (λ rest. take c.in_ok-place.place c.args.bytes.now ∷ slice_split (λ b. nat_eq b c.args.at) rest) (sym (take_rest c.args.bytes.now (c.in_ok-place.place + 1)))
