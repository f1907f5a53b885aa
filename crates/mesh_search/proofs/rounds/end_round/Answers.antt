use Rattle.std.proofs.Common.{◌≡◌, ℕ, ◌-◌, ◌%◌, ◌++◌, List, Bool, length, ap, sym, ◌∙◌, arith}
use Rattle.model_search.specs.Search.{Candidate, View, pairs_of_round, rotated, unpaired}
use Rattle.mesh_search.specs.Views.{chosen, unmeshed}
use Rattle.mesh_search.proofs.PairedTries.{all_stay}
use Rattle.mesh_search.proofs.Unmeshed.{answers_long, left_stays, right_stays, unmeshed_even, unmeshed_few}
use Rattle.mesh_search.proofs.rounds.end_round.Goals as goal

pub add_pairs-requires-clause-answers : goal.add_pairs-requires-clause-answers
add_pairs-requires-clause-answers c = rw (c.as_slice.ensures.value, c.as_slice-2.ensures.value) c.requires.answers

pub add_pairs-requires-clause-left : goal.add_pairs-requires-clause-left
add_pairs-requires-clause-left c =
    let long = answers_long c.args.round c.args.view.now c.args.left.now.items c.args.right.now.items c.args.answers.now c.requires.answers c.requires.even in
    let same = ap length c.as_slice.ensures.value in omega (arith, long, same)

pub add_pairs-requires-clause-right : goal.add_pairs-requires-clause-right
add_pairs-requires-clause-right c =
    let long = answers_long c.args.round c.args.view.now c.args.left.now.items c.args.right.now.items c.args.answers.now c.requires.answers c.requires.even in
    let same = ap length c.as_slice-2.ensures.value in omega (arith, long, c.requires.even, same)

pub left_over-requires : goal.left_over-requires
left_over-requires c =
    answers_long _ c.args.view.now _ _ _ c.requires.answers c.requires.even ∙ sym (ap length c.as_slice-then-len-before.ensures.value)

pub right_over-requires-clause-answers : goal.right_over-requires-clause-answers
right_over-requires-clause-answers c =
    answers_long _ c.args.view.now _ _ _ c.requires.answers c.requires.even ∙ c.requires.even ∙ sym (ap length c.as_slice-then-len-before-2.ensures.value)

left_is : (c : goal.After-drop-right) → c.in_ok-left.field-0.items ≡ unmeshed c.args.answers.now c.args.left.now.items
left_is c = c.in_ok-left.ensures ∙ ap (λ (xs : List ℕ). unmeshed c.args.answers.now xs) c.as_slice-then-len-before.ensures.value

right_is : (c : goal.After-drop-right) → c.in_ok-right.field-0.items
    ≡ unmeshed (rotated (length c.args.right.now.items - c.args.round % length c.args.right.now.items) c.args.answers.now) c.args.right.now.items
right_is c =
    c.in_ok-right.ensures ∙ ap (λ (xs : List ℕ). unmeshed (rotated (length xs - c.args.round % length xs) c.args.answers.now) xs) c.as_slice-then-len-before-2.ensures.value

pub returns-in_ok-right-clause-pairs : goal.returns-in_ok-right-clause-pairs
returns-in_ok-right-clause-pairs c = rw (c.as_slice.ensures.value, c.as_slice-2.ensures.value) at c.in_ok-add_pairs.ensures

pub returns-in_ok-right-clause-left : goal.returns-in_ok-right-clause-left
returns-in_ok-right-clause-left c =
    ap (λ (xs : List ℕ). chosen c.args.view.now xs) (left_is c) ∙ left_stays _ c.args.view.now _ _ _ c.requires.answers c.requires.even c.requires.once

pub returns-in_ok-right-clause-right : goal.returns-in_ok-right-clause-right
returns-in_ok-right-clause-right c =
    ap (λ (xs : List ℕ). chosen c.args.view.now xs) (right_is c) ∙ right_stays _ c.args.view.now _ _ _ c.requires.answers c.requires.even c.requires.once

pub returns-in_ok-right-clause-even : goal.returns-in_ok-right-clause-even
returns-in_ok-right-clause-even c =
    let xs : List ℕ = c.args.left.now.items in
    let ys : List ℕ = c.args.right.now.items in
    let bs : List Bool = c.args.answers.now in
    let long = answers_long c.args.round c.args.view.now xs ys bs c.requires.answers c.requires.even in
    ap length (left_is c) ∙ unmeshed_even (length ys - c.args.round % length ys) bs xs ys long (long ∙ c.requires.even) ∙ sym (ap length (right_is c))

pub returns-in_ok-right-clause-bound : goal.returns-in_ok-right-clause-bound
returns-in_ok-right-clause-bound c = let same = ap length (left_is c) in omega (arith, unmeshed_few c.args.answers.now c.args.left.now.items, same)

-- where no pair is new all candidates stay
stay : (c : goal.Else-len-before) (xs : List Candidate)
    → xs ≡ unpaired (pairs_of_round c.args.round (chosen c.args.view.now c.args.left.now.items) (chosen c.args.view.now c.args.right.now.items)) xs
stay c xs =
    let view : View = c.args.view.now in
    let more : c.add_pairs.new.pairs
    ≡ c.args.pairs.now ++ pairs_of_round c.args.round (chosen view c.args.left.now.items) (chosen view c.args.right.now.items)
    = c.in_ok-add_pairs.ensures
    ∙ ap (λ (ls : List ℕ). c.args.pairs.now ++ pairs_of_round c.args.round (chosen view ls) (chosen view c.as_slice-2.result.now)) c.as_slice.ensures.value
    ∙ ap (λ (rs : List ℕ). c.args.pairs.now ++ pairs_of_round c.args.round (chosen view c.args.left.now.items) (chosen view rs)) c.as_slice-2.ensures.value in
    all_stay (pairs_of_round c.args.round (chosen view c.args.left.now.items) (chosen view c.args.right.now.items)) c.args.pairs.now c.add_pairs.new.pairs xs more
    (omega (arith, c.len-before.ensures, c.len.ensures, c.if-len-before.false))

pub returns-else-len-before-clause-left : goal.returns-else-len-before-clause-left
returns-else-len-before-clause-left c = stay c (chosen c.args.view.now c.args.left.now.items)

pub returns-else-len-before-clause-right : goal.returns-else-len-before-clause-right
returns-else-len-before-clause-right c = stay c (chosen c.args.view.now c.args.right.now.items)
