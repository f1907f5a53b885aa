-- Four words as the lanes of a vector.
use Rattle.std.proofs.Common.{◌≡◌, ℕ, List, [], ◌∷◌, length, refl, arith, bit_and, bit_or}
use Rattle.std.specs.Simd.Lanes.{fold_l, zip2}
use Rattle.mesh_bits.proofs.TwoSets.{shared_bits}

-- the bits that two lists of four words share, put together lane by lane
pub lanes_are : (words others : List ℕ) → length words ≡ 4 → length others ≡ 4 → fold_l bit_or 0 (zip2 bit_and words others) ≡ shared_bits words others
lanes_are [] others h g = absurd (omega (arith, h))
lanes_are (a ∷ []) others h g = absurd (omega (arith, h))
lanes_are (a ∷ b ∷ []) others h g = absurd (omega (arith, h))
lanes_are (a ∷ b ∷ c ∷ []) others h g = absurd (omega (arith, h))
lanes_are (a ∷ b ∷ c ∷ d ∷ e ∷ words) others h g = absurd (omega (arith, h))
lanes_are (a ∷ b ∷ c ∷ d ∷ []) [] h g = absurd (omega (arith, g))
lanes_are (a ∷ b ∷ c ∷ d ∷ []) (e ∷ []) h g = absurd (omega (arith, g))
lanes_are (a ∷ b ∷ c ∷ d ∷ []) (e ∷ f ∷ []) h g = absurd (omega (arith, g))
lanes_are (a ∷ b ∷ c ∷ d ∷ []) (e ∷ f ∷ i ∷ []) h g = absurd (omega (arith, g))
lanes_are (a ∷ b ∷ c ∷ d ∷ []) (e ∷ f ∷ i ∷ j ∷ k ∷ others) h g = absurd (omega (arith, g))
lanes_are (a ∷ b ∷ c ∷ d ∷ []) (e ∷ f ∷ i ∷ j ∷ []) h g = refl
