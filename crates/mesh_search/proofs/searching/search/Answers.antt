use Rattle.std.proofs.Common.{◌≡◌, ℕ, ◌+◌, ◌<◌, ◌≤◌, ◌++◌, ◌∷◌, [], List, length, map, take, get_or, ap, sym, subst, ◌∙◌}
use Rattle.std.proofs.lemmas.List.{take_more, map_push}
use Rattle.model_search.specs.Search.{search}
use Rattle.mesh_search.proofs.searching.search.Goals as goal

-- the results of one element more
map_more : {X Y : Type 0} (f : X → Y) (xs : List X) (ys zs : List Y) (k : ℕ) (x : X) (y : Y) → k < length xs → x ≡ get_or xs k x → y ≡ f x
    → ys ≡ map f (take k xs) → zs ≡ ys ++ y ∷ [] → zs ≡ map f (take (k + 1) xs)
map_more f xs ys zs k x y below at result before pushed =
    let more = take_more xs k x below in
    let mapped = map_push f (take k xs) (get_or xs k x) in
    cc

pub loop-k-preserved : goal.loop-k-preserved
loop-k-preserved g c = (
  map_more (λ view. search view c.args.words.now c.args.t) c.args.views.now c.loop-k.all.items _ c.loop-k.k c.index-views-k.result _
      c.loop-k-test.true c.index-views-k.is c.in_ok-found.ensures c.loop-k.invariant.0 c.push_reserved.ensures.items,
  c.push_reserved.ensures.len ∙ ap (λ (n : ℕ). n + 1) c.loop-k.invariant.1,
  subst (λ (n : ℕ). length c.args.views.now ≤ n) (sym c.push_reserved.ensures.capacity) c.loop-k.invariant.2,
)
