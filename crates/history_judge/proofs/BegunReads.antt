-- A byte that was looked at is read.
use Rattle.std.proofs.Common.{◌≡◌, ◌⊎◌, ℕ, zero, suc, ◌≤◌, List, [], ◌∷◌, ◌++◌, append-nil, length, length-append, refl, ap, sym, ◌∙◌, arith, inl, inr, Option, Some, None, slice_get}
use Rattle.std.specs.Prelude.{Bool, T, eqb, false, slice_set, take, true}
use Rattle.std.specs.Cmp.Lexicographic.{pointwise}
use Rattle.std.proofs.Math.Dec.{eqb_refl}
use Rattle.std.specs.List.{remove}
use Rattle.std.specs.Io.KnownBytes.{Consumes, IsAtEnd, Keeps, prepend_known}
use Rattle.history_judge.specs.Beginnings.{StartsOtherwise}

front_is : (begun rest : List ℕ) (byte : ℕ) → Some byte ≡ slice_get begun 0 → rest ≡ remove begun 0 → begun ≡ byte ∷ rest
front_is [] rest byte is left = cc is
front_is (x ∷ xs) rest byte is left = let same : x ≡ byte = cc is in ap (λ (y : ℕ). y ∷ xs) same ∙ ap (λ (ys : List ℕ). byte ∷ ys) (sym left)

one_byte : (buf : List ℕ) (byte : ℕ) → (buf ≡ [] → ⊥) → take 1 (slice_set buf 0 byte) ≡ byte ∷ []
one_byte [] byte some = absurd (some refl)
one_byte (x ∷ xs) byte some = refl

pub byte_consumed : (begun rest buf : List ℕ) (byte : ℕ) (left : Option (List ℕ)) → Some byte ≡ slice_get begun 0 → rest ≡ remove begun 0 → (buf ≡ [] → ⊥)
    → Consumes (prepend_known begun left) (prepend_known rest left) (take 1 (slice_set buf 0 byte))
byte_consumed begun rest buf byte None is left some = tt
byte_consumed begun rest buf byte (Some more) is left some =
    ap (λ (xs : List ℕ). xs ++ more) (front_is begun rest byte is left) ∙ ap (λ (xs : List ℕ). xs ++ (rest ++ more)) (sym (one_byte buf byte some))

-- of two texts that are the same, as much of the front is the same
same_front : (a b x y : List ℕ) → length a ≡ length b → a ++ x ≡ b ++ y → a ≡ b
same_front [] [] x y long is = refl
same_front [] (v ∷ b) x y long is = absurd (omega (arith, long))
same_front (u ∷ a) [] x y long is = absurd (omega (arith, long))
same_front (u ∷ a) (v ∷ b) x y long is =
    let head : u ≡ v = (cc is) in
    let tail : a ++ x ≡ b ++ y = (cc is) in
    let fronts = same_front a b x y (omega (arith, long)) tail in ap (λ (w : ℕ). w ∷ a) head ∙ ap (λ (ws : List ℕ). v ∷ ws) fronts

nothing_behind : (begun bytes rest : List ℕ) → length begun ≤ length bytes → begun ≡ bytes ++ rest → begun ≡ bytes
nothing_behind begun bytes [] short is = is ∙ append-nil bytes
nothing_behind begun bytes (x ∷ rest) short is =
    let long = ap (λ (xs : List ℕ). length xs) is ∙ length-append bytes (x ∷ rest) in absurd (omega (arith, short, long))

-- a text whose first ten bytes are others, or that is shorter
pub starts_otherwise : (begun bytes : List ℕ) (left known : Option (List ℕ)) → Keeps known (prepend_known begun left) → (10 ≤ length begun) ⊎ IsAtEnd left
    → length begun ≤ 10 → length bytes ≡ 10 → (begun ≡ bytes → ⊥) → StartsOtherwise bytes known
starts_otherwise begun bytes left None kept all few ten differ = tt
starts_otherwise begun bytes None (Some text) kept all few ten differ = absurd kept
starts_otherwise begun bytes (Some xs) (Some text) kept (inl full) few ten differ =
    λ rest is. differ (same_front begun bytes xs rest (omega (arith, full, few, ten)) (kept ∙ is))
starts_otherwise begun bytes (Some xs) (Some text) kept (inr end) few ten differ =
    λ rest is. differ (nothing_behind begun bytes rest (omega (arith, few, ten))
    (sym (append-nil begun) ∙ ap (λ (back : List ℕ). begun ++ back) (sym end) ∙ kept ∙ is))

equal_itself : (x : ℕ) → eqb x x ≡ true
equal_itself x = true_is (eqb x x) (eqb_refl x)
  where
    true_is : (b : Bool) → T b → b ≡ true
    true_is true holds = refl
    true_is false holds = absurd holds

-- bytes are the same as themselves
pub bytes_themselves : (xs : List ℕ) → pointwise eqb xs xs ≡ true
bytes_themselves [] = refl
bytes_themselves (x ∷ xs) = rw (equal_itself x) (bytes_themselves xs)

-- nothing was read, and what was kept stays
pub nothing_read : (begun buf : List ℕ) (count : ℕ) (first old new : Option (List ℕ)) → Keeps first (prepend_known begun old) → Consumes old new (take count buf) → count ≡ 0
    → Keeps first (prepend_known begun new)
nothing_read begun buf (suc n) first old new kept taken none = absurd (omega (arith, none))
nothing_read begun buf zero None old new kept taken none = tt
nothing_read begun buf zero (Some text) None new kept taken none = absurd kept
nothing_read begun buf zero (Some text) (Some xs) None kept taken none = absurd taken
nothing_read begun buf zero (Some text) (Some xs) (Some ys) kept taken none = ap (λ (back : List ℕ). begun ++ back) (sym taken) ∙ kept
