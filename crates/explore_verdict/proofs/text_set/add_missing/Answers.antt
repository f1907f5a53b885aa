use Rattle.std.proofs.Common.{◌≡◌, ◌∙◌, ◌++◌, ◌∷◌, [], List, ℕ, ap, sym}
use Rattle.explore_verdict.specs.TextSets.{with_text, without}
use Rattle.explore_verdict.proofs.TextSets.{missing_known, missing_new}
use Rattle.explore_verdict.proofs.text_set.add_missing.Goals as goal

pub returns-in_ok-push-clause-missing : goal.returns-in_ok-push-clause-missing
returns-in_ok-push-clause-missing c = λ before.
    let others = c.args.set.now in let seen = c.args.seen.now in let missing = c.args.missing.now.items in let text = c.args.text.now in
    let taken : c.add.new.self ≡ with_text seen text = c.in_ok-add.ensures ∙ ap (with_text seen) c.in_ok-copied.ensures in
    c.in_ok-push.ensures.items
    ∙ ap (λ (x : List ℕ). missing ++ x ∷ []) c.in_ok-copied-2.ensures
    ∙ missing_new others seen missing text (sym c.if-has.ensures) (sym c.if-not-has.ensures) before
    ∙ sym (ap (without others) taken)

pub returns-else-not-has-clause-missing : goal.returns-else-not-has-clause-missing
returns-else-not-has-clause-missing c = λ before.
    let others = c.args.set.now in let seen = c.args.seen.now in let missing = c.args.missing.now.items in let text = c.args.text.now in
    let taken : c.add.new.self ≡ with_text seen text = c.in_ok-add.ensures ∙ ap (with_text seen) c.in_ok-copied.ensures in
    missing_known others seen missing text (sym c.if-has.ensures) (sym c.if-not-has.ensures) before ∙ sym (ap (without others) taken)
