use Rattle.std.proofs.Common.{◌≡◌, ℕ, ◌<◌, List, Vec, Global, length, get_or, ap, sym, subst, ◌∙◌, arith}
use Rattle.std.specs.List.{flat_map, remove}
use Rattle.std.specs.Vec.{vec_items}
use Rattle.mesh_search.proofs.BlockPlaces.{block_element, block_without, place_in_all}
use Rattle.mesh_search.proofs.Shuffled.{index_any}
use Rattle.mesh_search.proofs.blocks.take_out.Goals as goal

pub returns : goal.returns
returns c =
    let xs : List (Vec ℕ Global) = c.args.blocks.now.items in
    let k : ℕ = c.block_at-k.result.0 in
    let i : ℕ = c.block_at-k.result.1 in
    let block : Vec ℕ Global = c.index_mut.result.now in
    let all : c.as_slice.result.now ≡ xs = c.as_slice.ensures.value in
    let h : k < length xs = subst (λ (ys : List (Vec ℕ Global)). k < length ys) all c.block_at-k.ensures.block in
    let g : i < length (vec_items (get_or xs k block))
    = subst (λ (ys : List (Vec ℕ Global)). i < length (vec_items (get_or ys k block))) all (c.block_at-k.ensures.within block) in
    let at : place_in_all vec_items xs k i ≡ c.args.place = subst (λ (ys : List (Vec ℕ Global)). place_in_all vec_items ys k i ≡ c.args.place) all c.block_at-k.ensures.place in
    let is : vec_items block ≡ vec_items (get_or xs k block) = ap (λ (v : Vec ℕ Global). vec_items v) c.index_mut.ensures.value in
    let inside : i < length (vec_items block) = (let same = ap (λ (ys : List ℕ). length ys) is in omega (arith, same, g)) in record {
      element =
          c.remove.ensures.value ∙ index_any (vec_items block) i c.remove.result 0 inside ∙ ap (λ (ys : List ℕ). get_or ys i 0) is
          ∙ sym (block_element vec_items xs k i block h g) ∙ ap (λ (p : ℕ). get_or (flat_map vec_items xs) p 0) at;
      rest =
          block_without vec_items xs k i block c.remove.new.self h g (c.remove.ensures.items ∙ ap (λ (ys : List ℕ). remove ys i) is)
          ∙ ap (λ (p : ℕ). remove (flat_map vec_items xs) p) at;
    }
