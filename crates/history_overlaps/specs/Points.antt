-- The points of calls: for each call a moment, and a place among the accesses to its object. This project's own choice.
use Rattle.std.specs.Prelude.{◌≡◌, ℕ, ◌+◌, max, true, List, [], ◌∷◌, Some, length, slice_get}
use Rattle.std.specs.List.{Contains}
use Rattle.model_intervals.specs.Intervals.{Call}
use Rattle.model_intervals.specs.KeyedOrders.{AreKeyed, Keyed, calls_of}
use Rattle.model_intervals.specs.Objects.{ExplainsAccesses, IsMadeAt, Object, is_access, object_made}
use Rattle.model_intervals.specs.OverlappingCalls.{IsAt, IsFree, IsNew, cell_at}
use Rattle.model_words.specs.declared.commands.Command.{Command}
use Rattle.model_words.specs.declared.commands.Command.TheVariants.{New}
use Rattle.history_object.specs.Orders.{IsIn}
use Rattle.history_overlaps.specs.Orders.{at_places}
use Rattle.history_overlaps.specs.OwnOrders.{IsOwnOrder, made_of, numbers_of}
use Rattle.history_overlaps.specs.declared.points.Point.{Point}

-- the order lists numbers of calls. Their points have the places from `place` on, and as moments the greatest begin so
-- far, which is `low` before the first
abbrev pub ArePlacedFrom : List Call → List Point → ℕ → ℕ → List ℕ → Type 0
ArePlacedFrom calls points low place [] = Unit {0}
ArePlacedFrom calls points low place (number ∷ order) =
    (call : Call) × (point : Point) × IsAt calls number call × (slice_get points number ≡ Some point) × (point.moment ≡ max low call.begin) × (point.place ≡ place)
    × ArePlacedFrom calls points (max low call.begin) (place + 1) order

-- the points follow orders of the accesses: for each cell, the numbers of the accesses to its object. The point of a
-- `new` has its end as moment, and that of a `free` its begin
pub record ArePoints (calls : List Call) (points : List Point) (orders : ℕ → List ℕ) : Type 0 where
  pub many : length points ≡ length calls
  pub news : (number : ℕ) (call : Call) (point : Point) → IsAt calls number call → slice_get points number ≡ Some point → IsNew call.entry.command
      → point.moment ≡ call.end
  pub frees : (number : ℕ) (call : Call) (point : Point) → IsAt calls number call → slice_get points number ≡ Some point → IsFree call.entry.command
      → point.moment ≡ call.begin
  pub own : (cell number : ℕ) → Contains (orders cell) number
      → (call : Call) × IsAt calls number call × (is_access call.entry.command ≡ true) × (cell_at call ≡ cell)
  pub all : (number : ℕ) (call : Call) → IsAt calls number call → is_access call.entry.command ≡ true → Contains (orders (cell_at call)) number
  pub placed : (cell : ℕ) → ArePlacedFrom calls points 0 0 (orders cell)

-- the calls are sorted by the keys of any orders that the points follow
abbrev pub AreSortedByPoints : List Call → List Point → List Call → Type 0
AreSortedByPoints calls points sorted = (orders : ℕ → List ℕ) → ArePoints calls points orders
    → (keyed : List Keyed) × (calls_of keyed ≡ sorted) × AreKeyed calls (λ cell. at_places calls (orders cell)) keyed

-- the calls have points by orders that explain the accesses to each object
abbrev pub HavePoints : List Call → List Point → Type 0
HavePoints calls points = (orders : ℕ → List ℕ) × ArePoints calls points orders
    × ((i : ℕ) (call : Call) (x : Object) → IsMadeAt calls i call x → ExplainsAccesses calls x.cell x.len x.address (at_places calls (orders x.cell)))

-- the moment of a call's effect, without regard to the other calls: the end of a `new`, and the begin of any other call
abbrev pub own_moment : Command → ℕ → ℕ → ℕ
own_moment (New cell len word) begin end = end
own_moment command begin end = begin

-- the accesses to an object have points by an order that explains them
abbrev pub IsPlacedObject : List Call → List Point → Object → Type 0
IsPlacedObject calls points x = (order : List ℕ) × IsOwnOrder calls (made_of x) order × ArePlacedFrom calls points 0 0 order

-- after a call was examined: if it made an object, the accesses to the object have points by an order that explains
-- them. No other point has changed
pub record HasPlaced (calls : List Call) (old new : List Point) (call : Call) : Type 0 where
  pub placed : (x : Object) → object_made call.entry.command call.entry.reply ≡ Some x → IsPlacedObject calls new x
  pub others : (i : ℕ) → ((x : Object) → object_made call.entry.command call.entry.reply ≡ Some x → IsIn i (numbers_of x.cell calls) → ⊥)
      → slice_get new i ≡ slice_get old i

-- the call made an object, and no order explains the accesses to it
abbrev pub HasNoOrder : List Call → Call → Type 0
HasNoOrder calls call = (x : Object) × (object_made call.entry.command call.entry.reply ≡ Some x)
    × ((order : List Call) → ExplainsAccesses calls x.cell x.len x.address order → ⊥)

-- each call has its point without regard to the other calls
abbrev pub AreOwnPoints : List Call → List Point → Type 0
AreOwnPoints [] [] = Unit {0}
AreOwnPoints (call ∷ calls) (point ∷ points) = (point.moment ≡ own_moment call.entry.command call.begin call.end) × AreOwnPoints calls points
AreOwnPoints calls points = ⊥
