-- Calls whose points have the places and moments of an order.
use Rattle.std.proofs.Common.{◌≡◌, ℕ, ◌+◌, ◌<◌, ◌≤◌, max, List, [], ◌∷◌, ap, arith, get_or, ◌∙◌}
use Rattle.std.proofs.lemmas.Option.{get_or_from_slice_get}
use Rattle.model_intervals.specs.Intervals.{Call}
use Rattle.model_intervals.proofs.Lists.{Every, Pairs, every_weaker}
use Rattle.history_overlaps.specs.Points.{ArePlacedFrom}
use Rattle.history_overlaps.specs.declared.points.Point.{Point}

-- the point with a number
abbrev pub point_at : List Point → ℕ → Point
point_at points number = get_or points number (record { moment = 0; place = 0 })

-- the second number has a greater place, and no smaller moment
abbrev pub IsLater : List Point → ℕ → ℕ → Type 0
IsLater points m n = ((point_at points m).place < (point_at points n).place) × ((point_at points m).moment ≤ (point_at points n).moment)

-- the numbers have at least this moment and this place
placed_from : (calls : List Call) (points : List Point) (low place : ℕ) (order : List ℕ) → ArePlacedFrom calls points low place order
    → Every (λ n. (place ≤ (point_at points n).place) × (low ≤ (point_at points n).moment)) order
placed_from calls points low place [] placed = tt
placed_from calls points low place (number ∷ order) placed =
    let is = get_or_from_slice_get points number placed.1 (record { moment = 0; place = 0 }) placed.3 in
    let at_place : (point_at points number).place ≡ place = ap (λ (p : Point). p.place) is ∙ placed.5 in
    let at_moment : (point_at points number).moment ≡ max low placed.0.begin = ap (λ (p : Point). p.moment) is ∙ placed.4 in (
      (omega (arith, at_place), omega (arith, at_moment)),
      every_weaker (λ n. (place + 1 ≤ (point_at points n).place) × (max low placed.0.begin ≤ (point_at points n).moment))
          (λ n. (place ≤ (point_at points n).place) × (low ≤ (point_at points n).moment)) order
          (λ n both. let p = both.0 in let m = both.1 in (omega (arith, p), omega (arith, m)))
          (placed_from calls points (max low placed.0.begin) (place + 1) order placed.6),
    )

-- each number is later than those before it
pub placed_later : (calls : List Call) (points : List Point) (low place : ℕ) (order : List ℕ) → ArePlacedFrom calls points low place order → Pairs (IsLater points) order
placed_later calls points low place [] placed = tt
placed_later calls points low place (number ∷ order) placed =
    let is = get_or_from_slice_get points number placed.1 (record { moment = 0; place = 0 }) placed.3 in
    let at_place : (point_at points number).place ≡ place = ap (λ (p : Point). p.place) is ∙ placed.5 in
    let at_moment : (point_at points number).moment ≡ max low placed.0.begin = ap (λ (p : Point). p.moment) is ∙ placed.4 in (
      every_weaker (λ n. (place + 1 ≤ (point_at points n).place) × (max low placed.0.begin ≤ (point_at points n).moment)) (IsLater points number) order
          (λ n both. let p = both.0 in let m = both.1 in (omega (arith, at_place, p), omega (arith, at_moment, m)))
          (placed_from calls points (max low placed.0.begin) (place + 1) order placed.6),
      placed_later calls points (max low placed.0.begin) (place + 1) order placed.6,
    )
