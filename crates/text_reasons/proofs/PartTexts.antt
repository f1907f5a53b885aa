-- Texts of some things that are written one behind another.
use Rattle.std.proofs.Common.{◌≡◌, ℕ, ◌+◌, ◌<◌, List, [], ◌∷◌, ◌++◌, length, take, get_or, sym, ap, ◌∙◌, append-nil, append_assoc}
use Rattle.std.specs.List.{flat_map}
use Rattle.std.proofs.lemmas.List.{take_more}
use Rattle.std.proofs.lemmas.List.Concat.{flat_map-append}

-- one more of some things is written
pub wrote_one : {A : Type 0} (write : A → List ℕ) (xs : List A) (d : A) (i : ℕ) (before now after : List ℕ) → i < length xs
    → now ≡ before ++ flat_map write (take i xs) → after ≡ now ++ write (get_or xs i d) → after ≡ before ++ flat_map write (take (i + 1) xs)
wrote_one write xs d i before now after h p q =
    let one : List ℕ = write (get_or xs i d) in
    let joined : flat_map write (take i xs) ++ one ≡ flat_map write (take (i + 1) xs)
    = ap (λ (text : List ℕ). flat_map write (take i xs) ++ text) (sym (append-nil one)) ∙ sym (flat_map-append write (take i xs) (get_or xs i d ∷ [])) ∙ ap (λ some. flat_map write some) (sym (take_more xs i d h)) in
    q ∙ ap (λ (text : List ℕ). text ++ one) p ∙ append_assoc before (flat_map write (take i xs)) one ∙ ap (λ (text : List ℕ). before ++ text) joined
