use Rattle.std.proofs.Common.{◌≡◌, ℕ, Result, ◌+◌, ◌<◌, ◌≤◌, ◌++◌, ◌∷◌, [], List, length, get_or, ap, sym, subst, ◌∙◌, arith}
use Rattle.std.proofs.Math.ListN.{get_or-append}
use Rattle.std.proofs.lemmas.List.{get_or_push}
use Rattle.std.specs.declared.alloc.AllocError.{AllocError}
use Rattle.std.specs.declared.thread.PromisedHandle.{PromisedHandle}
use Rattle.mesh_search.specs.declared.parallel.Part.{Part}
use Rattle.mesh_search.specs.declared.parallel.RightIn.{RightIn}
use Rattle.mesh_search.proofs.parallel.start_searchers.Goals as goal
use borrow.Author.Count.{below_more}

-- what holds of each of n elements, and of the one that is pushed
each_more : {X : Type 0} (P : X → Type 0) (xs ys : List X) (x : X) (n : ℕ) → length xs ≡ n → ys ≡ xs ++ x ∷ [] → ((i : ℕ) (d : X) → i < n → P (get_or xs i d))
    → P x → (i : ℕ) (d : X) → i < n + 1 → P (get_or ys i d)
each_more {X} P xs ys x n many is each here i d below =
    let pushed = below_more (λ (k : ℕ). P (get_or (xs ++ x ∷ []) k d)) n
    (λ k h. subst P (sym (get_or-append xs (x ∷ []) d k (omega arith))) (each k d h))
    (subst P (sym (get_or_push xs x d n many)) here) i below in
    subst (λ (zs : List X). P (get_or zs i d)) (sym is) pushed

pub loop-k-preserved : goal.loop-k-preserved
loop-k-preserved g c = (
  c.push_reserved.ensures.len ∙ ap (λ (n : ℕ). n + 1) c.loop-k.invariant.0,
  subst (λ (n : ℕ). c.args.cut.workers ≤ n) (sym c.push_reserved.ensures.capacity) c.loop-k.invariant.1,
  each_more (λ (h : PromisedHandle (Result Part AllocError) RightIn). h.promise ≡ c.args.within) c.loop-k.handles.items _ c.in-Ok.handle c.loop-k.k
      (sym c.loop-k.handles.ok.0 ∙ c.loop-k.invariant.0) c.push_reserved.ensures.items c.loop-k.invariant.2 c.in-Ok.ensures.ok,
)
