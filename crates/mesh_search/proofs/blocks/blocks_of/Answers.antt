use Rattle.std.proofs.Common.{◌≡◌, ℕ, ◌++◌, ◌∷◌, [], List, Vec, Global, take, drop, ap, sym, ◌∙◌, arith}
use Rattle.std.specs.List.{flat_map}
use Rattle.std.specs.Vec.{vec_items}
use Rattle.std.proofs.Math.Seq.{take-add}
use Rattle.std.proofs.lemmas.List.{append-nil, take_all}
use Rattle.std.proofs.lemmas.List.Concat.{flat_map-append}
use Rattle.mesh_search.proofs.blocks.blocks_of.Goals as goal

pub loop-from-preserved : goal.loop-from-preserved
loop-from-preserved c =
    let list : List ℕ = c.args.list.now in
    let from : ℕ = c.loop-from.from in
    let size : ℕ = c.min-size.result in
    let block : Vec ℕ Global = c.in_ok-to_vec.field-0 in
    let copied = c.in_ok-to_vec.ensures.items_if_clones_equal (λ x y h. h) in
    let is : block.items ≡ take size (drop from list) = copied ∙ ap (λ (n : ℕ). take n (drop from list)) (omega arith) in
    let least = c.min-size.ensures in
    let test = c.loop-from-test.true in
    let before = c.loop-from.invariant in (
      ap (λ (blocks : List (Vec ℕ Global)). flat_map vec_items blocks) c.in_ok-push.ensures.items
          ∙ flat_map-append vec_items c.loop-from.blocks.items (block ∷ [])
          ∙ ap (λ (xs : List ℕ). xs ++ flat_map vec_items (block ∷ [])) before.0
          ∙ ap (λ (xs : List ℕ). take from list ++ xs) (append-nil block.items ∙ is) ∙ sym (take-add from size list),
      omega arith,
    )

pub returns : goal.returns
returns c = c.loop-from.invariant.0 ∙ take_all c.loop-from.from c.args.list.now c.loop-from-test.false
