use Rattle.std.proofs.Common.{◌≡◌, ◌%◌, ◌+◌, ℕ, List, [], ◌∷◌, ◌++◌, Vec, Global, ap, ◌∙◌, arith}
use Rattle.std.proofs.lemmas.List.{append_assoc}
use Rattle.model_search.specs.Search.{View}
use Rattle.mesh_search.specs.declared.view.ClassView.{ClassView}
use Rattle.mesh_shared.specs.MesherRuns.{own_from}
use Rattle.mesh_shared.proofs.mesher.own_of.Goals as goal
use Rattle.mesh_shared.proofs.mesher.own_of.Goals.{then-place-meshers+in_ok-push, else-place-meshers}

-- a view that is a mesher's own is taken, and another one is left
view_taken : (meshers number place : ℕ) (own more left rest all : List View) (view : View) → place % meshers ≡ number → left ≡ view ∷ rest → more ≡ own ++ view ∷ []
    → own ++ own_from meshers number place left ≡ all → more ++ own_from meshers number (place + 1) rest ≡ all
view_taken meshers number place own more left rest all view mine is taken so_far = grind (arith, append_assoc own (view ∷ []))

view_left : (meshers number place : ℕ) (own more left rest all : List View) (view : View) → (place % meshers ≡ number → ⊥) → left ≡ view ∷ rest → more ≡ own
    → own ++ own_from meshers number place left ≡ all → more ++ own_from meshers number (place + 1) rest ≡ all
view_left meshers number place own more left rest all view others is same so_far = grind arith

pub loop-view-preserved : goal.loop-view-preserved
loop-view-preserved c =
    let steps = c.in-Some.ensures.steps in
    let was = c.loop-view.invariant in (
      elim c.if-place-meshers.branch [
        | then-place-meshers+in_ok-push w ↦ view_taken c.args.meshers c.args.number c.loop-view.place c.loop-view.own.items _ _ _ _ c.in-Some.view w.if-place-meshers.true steps.0
            (ap (λ (v : Vec ClassView Global). v.items) w.own-is ∙ w.in_ok-push.ensures.items) was.0
        | else-place-meshers w ↦ view_left c.args.meshers c.args.number c.loop-view.place c.loop-view.own.items _ _ _ _ c.in-Some.view w.if-place-meshers.false steps.0
            (ap (λ (v : Vec ClassView Global). v.items) w.own-is) was.0
      ],
      (let many = was.1 in let fewer = steps.1 in omega (arith, many, fewer)),
    )
