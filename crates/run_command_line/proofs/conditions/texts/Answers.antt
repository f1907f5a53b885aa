use Rattle.std.proofs.Common.{◌≤◌, ◌∙◌, List, Some, ap, length, map, rules}
use Rattle.std.proofs.lemmas.Bool.{le-leb}
use Rattle.std.proofs.lemmas.List.{length-map}
use Rattle.std.specs.Borrow.{Bor}
use Rattle.clap.specs.Words.{Text, found_of}
use Rattle.run_command_line.proofs.ToldRead.{none_given, not_few, some_given, too_many_given}
use Rattle.run_command_line.proofs.conditions.texts.Goals as goal

pub returns-in_default : goal.returns-in_default
returns-in_default c =
    ap (λ (ts : List (Bor Text)). Some (map (λ t. t.now) ts)) c.none.ensures.texts ∙ none_given (found_of c.args.matches.now) c.args.name.now c.in_default.ensures

pub returns-then-texts-gt-MOST_TEXTS : goal.returns-then-texts-gt-MOST_TEXTS
returns-then-texts-gt-MOST_TEXTS c =
    let texts = map (λ (t : Bor Text). t.now) c.in-Some.texts.now in
    too_many_given (found_of c.args.matches.now) c.args.name.now texts c.in-Some.ensures
    (rw (length-map c.in-Some.texts.now (λ (t : Bor Text). t.now)) (not_few (length c.in-Some.texts.now) c.if-texts-gt-MOST_TEXTS.true))

pub returns : goal.returns
returns c =
    let texts = map (λ (t : Bor Text). t.now) c.in-Some.texts.now in
    let few : length c.in-Some.texts.now ≤ 10 = search rules in
    ap Some c.texts_among.ensures ∙ some_given (found_of c.args.matches.now) c.args.name.now texts c.in-Some.ensures
    (rw (length-map c.in-Some.texts.now (λ (t : Bor Text). t.now)) (le-leb (length c.in-Some.texts.now) 10 few))
