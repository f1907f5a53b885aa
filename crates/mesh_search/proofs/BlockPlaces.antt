-- A list in blocks.
use Rattle.std.proofs.Common.{◌≡◌, ℕ, zero, suc, ◌+◌, ◌-◌, ◌<◌, List, [], ◌∷◌, ◌++◌, length, take, set, get_or, ap, refl, sym, ◌∙◌, arith, zero-add, length-append}
use Rattle.std.specs.List.{flat_map, remove}
use Rattle.std.proofs.Math.ListN.{get_or-append}
use Rattle.std.proofs.lemmas.List.{get_or-append_right}
use Rattle.std.proofs.lemmas.List.Edits.{remove-append_left, remove-append_right}

-- the place of an element of block k in all of them
abbrev pub place_in_all : {X : Type 0} → (X → List ℕ) → List X → ℕ → ℕ → ℕ
place_in_all f xs k i = length (flat_map f (take k xs)) + i

-- an element of a block, among all
pub block_element : {X : Type 0} (f : X → List ℕ) (xs : List X) (k i : ℕ) (d : X) → k < length xs → i < length (f (get_or xs k d))
    → get_or (flat_map f xs) (place_in_all f xs k i) 0 ≡ get_or (f (get_or xs k d)) i 0
block_element f [] k i d h g = absurd (omega (arith, h))
block_element f (x ∷ xs) zero i d h g =
    ap (λ (p : ℕ). get_or (f x ++ flat_map f xs) p 0) (zero-add i) ∙ get_or-append (f x) (flat_map f xs) 0 i g
block_element f (x ∷ xs) (suc k) i d h g =
    let n : ℕ = length (f x) in
    let p : ℕ = place_in_all f xs k i in
    let at : place_in_all f (x ∷ xs) (suc k) i ≡ n + p = omega (arith, length-append (f x) (flat_map f (take k xs))) in
    ap (λ (q : ℕ). get_or (f x ++ flat_map f xs) q 0) at ∙ get_or-append_right (f x) (flat_map f xs) n (n + p) 0 refl (omega arith)
    ∙ ap (λ (q : ℕ). get_or (flat_map f xs) q 0) (omega arith) ∙ block_element f xs k i d (omega (arith, h)) g

-- a block without an element leaves all without it
pub block_without : {X : Type 0} (f : X → List ℕ) (xs : List X) (k i : ℕ) (d y : X) → k < length xs → i < length (f (get_or xs k d))
    → f y ≡ remove (f (get_or xs k d)) i → flat_map f (set xs k y) ≡ remove (flat_map f xs) (place_in_all f xs k i)
block_without f [] k i d y h g e = absurd (omega (arith, h))
block_without f (x ∷ xs) zero i d y h g e =
    ap (λ (zs : List ℕ). zs ++ flat_map f xs) e ∙ sym (remove-append_left (f x) (flat_map f xs) i g)
    ∙ ap (λ (p : ℕ). remove (f x ++ flat_map f xs) p) (sym (zero-add i))
block_without f (x ∷ xs) (suc k) i d y h g e =
    let n : ℕ = length (f x) in
    let p : ℕ = place_in_all f xs k i in
    let back : (n + p) - n ≡ p = omega arith in
    ap (λ (zs : List ℕ). f x ++ zs) (block_without f xs k i d y (omega (arith, h)) g e)
    ∙ ap (λ (q : ℕ). f x ++ remove (flat_map f xs) q) (sym back) ∙ sym (remove-append_right (f x) (flat_map f xs) n (n + p) refl (omega arith))
    ∙ ap (λ (q : ℕ). remove (f x ++ flat_map f xs) q) (sym (omega (arith, length-append (f x) (flat_map f (take k xs)))))
