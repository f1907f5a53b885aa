use Rattle.std.proofs.Common.{List, Result, Ok, Err, IfOk, ap, ◌∙◌}
use Rattle.model_search.specs.Search.{View}
use Rattle.mesh_mutator.specs.Book.{table_of_book}
use Rattle.mesh_shared.specs.MesherRuns.{own_views}
use Rattle.mesh_shared.proofs.mesher.Mesher.own_views.Goals as goal

if_ok : {A E : Type 0} (P Q : A → Type 0) (r : Result A E) → ((a : A) → P a → Q a) → IfOk r P → IfOk r Q
if_ok P Q (Ok a) f h = f a h
if_ok P Q (Err e) f h = h

pub returns : goal.returns
returns g c =
    if_ok _ _ c.own_of.result
    (λ own is. record {
      table = table_of_book c.deref.result.now;
      is_own = is ∙ ap (λ (l : List View). own_views c.args.self.now.plan.now.meshers c.args.self.now.number l) c.in_ok-views.ensures;
    }) c.own_of.ensures
