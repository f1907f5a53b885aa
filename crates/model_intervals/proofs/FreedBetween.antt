-- A list sorted by keys: if, for each two objects whose ranges meet, the first one's `free` has a key between theirs,
-- then each object is freed in time.
use Rattle.std.proofs.Common.{◌≡◌, ℕ, ◌+◌, ◌<◌, ◌≤◌, true, false, List, [], ◌∷◌, arith, sym, ◌∙◌, inl, inr, Some}
use Rattle.model_intervals.specs.KeyedOrders.{Keyed, calls_of}
use Rattle.model_intervals.specs.Objects.{Object as NewObject, Meet}
use Rattle.model_intervals.proofs.MiddleForm.{AllGoInTime, GoesInTime, frees, made_by}
use Rattle.model_intervals.proofs.Lists.{Every, Has, Pairs, every_weaker, has_every, has_out, pairs_weaker, tells}
use Rattle.model_intervals.proofs.Merged.{Rises}

-- the call frees the cell's object, and its key is between two keys
abbrev pub IsBetween : ℕ → ℕ → ℕ → Keyed → Type 0
IsBetween cell low high f = (frees cell f.call ≡ true) × (low < f.key) × (f.key < high)

-- if the objects of the two calls meet, the first one is freed between the two
abbrev pub IsParted : List Keyed → Keyed → Keyed → Type 0
IsParted keyed p q = (x y : NewObject) → made_by p.call ≡ Some x → made_by q.call ≡ Some y → Meet x y → Has (IsBetween x.cell p.key q.key) keyed

-- if the call makes an object that meets the range, the cell's object is freed before it
abbrev ComesLate : ℕ → ℕ → ℕ → ℕ → List Keyed → Keyed → Type 0
ComesLate cell address len low rest q =
    (y : NewObject) → made_by q.call ≡ Some y → address < y.address + y.len → y.address < address + len → Has (IsBetween cell low q.key) rest

not_here : (cell low high : ℕ) (q : Keyed) (rest : List Keyed) → frees cell q.call ≡ false → Has (IsBetween cell low high) (q ∷ rest) → Has (IsBetween cell low high) rest
not_here cell low high q rest other (inl here) = absurd (let clash : true ≡ false = sym here.0 ∙ other in cc clash)
not_here cell low high q rest other (inr later) = later

not_low : (cell low high : ℕ) (q : Keyed) (rest : List Keyed) → q.key ≤ low → Has (IsBetween cell low high) (q ∷ rest) → Has (IsBetween cell low high) rest
not_low cell low high q rest under (inl here) = absurd (let above = here.1 in omega (arith, above, under))
not_low cell low high q rest under (inr later) = later

not_later : (cell low : ℕ) (q : Keyed) (rest : List Keyed) → Every (Rises q) rest → Has (IsBetween cell low q.key) rest → ⊥
not_later cell low q rest rise has = has_out (λ f. ⊥) ⊥ rest (λ f h. h)
    (has_every (IsBetween cell low q.key) (Rises q) (λ f. ⊥) rest (λ f between le. let below = between.2 in omega (arith, below, le)) has rise)

goes : (cell address len low : ℕ) (rest : List Keyed) → Pairs Rises rest → Every (ComesLate cell address len low rest) rest → GoesInTime cell address len (calls_of rest)
goes cell address len low [] rise late = tt
goes cell address len low (q ∷ rest) rise late = elim (tells (frees cell q.call)) [
  | inl freed ↦ inl freed
  | inr other ↦ inr (
    λ y makes from to. not_later cell low q rest rise.0 (not_here cell low q.key q rest other (late.0 y makes from to)),
    goes cell address len low rest rise.1 (every_weaker (ComesLate cell address len low (q ∷ rest)) (ComesLate cell address len low rest) rest
        (λ b h y makes from to. not_here cell low b.key q rest other (h y makes from to)) late.1),
  )
]

pub all_go : (keyed : List Keyed) → Pairs Rises keyed → Pairs (IsParted keyed) keyed → AllGoInTime (calls_of keyed)
all_go [] rise parted = tt
all_go (p ∷ rest) rise parted = (
  λ x makes. goes x.cell x.address x.len p.key rest rise.1 (every_weaker (IsParted (p ∷ rest) p) (ComesLate x.cell x.address x.len p.key rest) rest
      (λ q h y makes_y from to. not_low x.cell p.key q.key p rest (omega arith) (h x y makes makes_y (from, to))) parted.0),
  all_go rest rise.1 (pairs_weaker (Rises p) (IsParted (p ∷ rest)) (IsParted rest) rest
      (λ a b h from_a from_b x y makes_x makes_y meet. not_low x.cell a.key b.key p rest from_a (h x y makes_x makes_y meet)) parted.1 rise.0),
)
