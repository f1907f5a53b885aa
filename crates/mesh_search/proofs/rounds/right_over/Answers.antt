use Rattle.std.proofs.Common.{◌≡◌, ℕ, ◌-◌, ◌%◌, ◌<◌, ◌++◌, List, Bool, length, take, drop, ap, sym, ◌∙◌, arith}
use Rattle.std.proofs.Math.Nat.{mod-lt}
use Rattle.std.proofs.lemmas.List.{length-take, length-drop, take_all, take-append-drop}
use Rattle.model_search.specs.Search.{rotated}
use Rattle.mesh_search.specs.Views.{unmeshed}
use Rattle.mesh_search.proofs.Unmeshed.{unmeshed-append}
use Rattle.mesh_search.proofs.rounds.right_over.Goals as goal

taken_long : (n s : ℕ) (bs : List Bool) → length bs ≡ n → n - s ≡ length (take (n - s) bs)
taken_long n s bs long = omega (arith, length-take (n - s) bs)

pub slice_bounds-keep_unmeshed-end-4 : goal.slice_bounds-keep_unmeshed-end-4
slice_bounds-keep_unmeshed-end-4 c = taken_long (length c.args.right.now) _ c.args.answers.now c.requires.answers

pub returns : goal.returns
returns c =
    let xs : List ℕ = c.args.right.now in
    let bs : List Bool = c.args.answers.now in
    let n : ℕ = length xs in
    let s : ℕ = c.args.round % n in
    let below : s < n = mod-lt c.args.round (omega (arith, c.requires.some)) in
    let behind = length-drop (n - s) bs in
    let before = length-take s xs in
    let b : take (n - s) (drop s xs) ≡ drop s xs = take_all (n - s) (drop s xs) (omega (arith, length-drop s xs)) in
    let first : c.keep_unmeshed.new.kept.items ≡ unmeshed (drop (n - s) bs) (take s xs)
    = c.in_ok-keep_unmeshed.ensures ∙ ap (λ (ys : List ℕ). ys ++ unmeshed (take (length bs - (n - s)) (drop (n - s) bs)) (take s xs)) c.in_ok-kept.ensures.items
    ∙ ap (λ (cs : List Bool). unmeshed cs (take s xs)) (take_all (length bs - (n - s)) (drop (n - s) bs) (omega (arith, behind))) in
    c.in_ok-keep_unmeshed-2.ensures ∙ ap (λ (ys : List ℕ). ys ++ unmeshed (take (n - s) bs) (take (n - s) (drop s xs))) first
    ∙ ap (λ (ys : List ℕ). unmeshed (drop (n - s) bs) (take s xs) ++ unmeshed (take (n - s) bs) ys) b
    ∙ sym (unmeshed-append (drop (n - s) bs) (take (n - s) bs) (take s xs) (drop s xs) (omega (arith, behind, before, c.requires.answers, below)))
    ∙ ap (λ (ys : List ℕ). unmeshed (rotated (n - s) bs) ys) (take-append-drop s xs)
