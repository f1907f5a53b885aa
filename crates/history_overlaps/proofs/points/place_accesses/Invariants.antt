use Rattle.std.proofs.Common.{◌≡◌, ℕ, length, map, slice_get, take}
use Rattle.history_object.specs.Orders.{IsIn}
use Rattle.history_reading.specs.CallWords.{plain_call}
use Rattle.history_overlaps.specs.Points.{ArePlacedFrom}
use Rattle.history_overlaps.proofs.Placing.{low_behind}
use Rattle.history_overlaps.proofs.points.place_accesses.Given as goal

abbrev pub invariant-loop-place : goal.invariant-loop-place
invariant-loop-place l = (length l.points.items ≡ length l.initial.points.items)
    × (l.moment ≡ low_behind (map plain_call l.calls) 0 (take l.place l.order))
    × ArePlacedFrom (map plain_call l.calls) l.points.items 0 0 (take l.place l.order)
    × ((i : ℕ) → (IsIn i (take l.place l.order) → ⊥) → slice_get l.points.items i ≡ slice_get l.initial.points.items i)
