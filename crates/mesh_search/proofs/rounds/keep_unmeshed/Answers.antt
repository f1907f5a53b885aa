use Rattle.std.proofs.Common.{◌≡◌, ℕ, ◌+◌, ◌<◌, ◌++◌, ◌∷◌, [], List, Bool, false, true, cond, length, drop, slice_index, slice_index_or, ap, refl, sym, ◌∙◌, arith}
use Rattle.std.proofs.lemmas.List.{append_assoc}
use Rattle.mesh_search.specs.Views.{unmeshed}
use Rattle.mesh_search.proofs.Unmeshed.{unmeshed_more}
use Rattle.mesh_search.proofs.rounds.keep_unmeshed.Goals.{then-not-answers-j+in_ok-push, else-not-answers-j}
use Rattle.mesh_search.proofs.rounds.keep_unmeshed.Goals as goal

pub loop-j-preserved : goal.loop-j-preserved
loop-j-preserved c =
    let j : ℕ = c.loop-j.j in
    let test = c.loop-j-test.true in
    let long = c.requires in
    let before : List ℕ = c.loop-j.kept.items in
    let later : List ℕ = unmeshed (drop (j + 1) c.args.answers.now) (drop (j + 1) c.args.places.now) in
    let more = unmeshed_more c.args.answers.now c.args.places.now j (omega arith) (omega arith) in
    elim c.if-not-answers-j.branch [
      | then-not-answers-j+in_ok-push w ↦
          let x : ℕ = slice_index c.args.places.now j in
          ap (λ (ys : List ℕ). ys ++ later) (rw w.kept-is w.in_ok-push.ensures.items) ∙ append_assoc before (x ∷ []) later
          ∙ ap (λ (ys : List ℕ). before ++ ys) (sym (more ∙ ap (λ (b : Bool). cond b later (x ∷ later)) w.if-not-answers-j.true)) ∙ c.loop-j.invariant
      | else-not-answers-j w ↦
          let goes : slice_index_or c.args.answers.now j false ≡ true = w.if-not-answers-j.false in
          ap (λ (ys : List ℕ). ys ++ later) (rw w.kept-is refl)
          ∙ ap (λ (ys : List ℕ). before ++ ys) (sym (more ∙ ap (λ (b : Bool). cond b later (slice_index c.args.places.now j ∷ later)) goes)) ∙ c.loop-j.invariant
    ]
