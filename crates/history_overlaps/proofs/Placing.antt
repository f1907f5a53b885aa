-- Points that are set one after another, in an order of calls.
use Rattle.std.proofs.Common.{◌≡◌, ◌≢◌, ℕ, zero, suc, ◌+◌, ◌<◌, max, inl, inr, List, [], ◌∷◌, ◌++◌, Option, Some, None, arith, get_or, length, length-set, map, option_map, refl, set, slice_get, sym, take, ap, subst, ◌∙◌}
use Rattle.std.specs.List.{AllPairs}
use Rattle.std.proofs.lemmas.List.{length-take-le, take_more}
use Rattle.std.proofs.lemmas.Option.{slice_get-map, slice_get_read}
use Rattle.history_object.specs.Orders.{IsIn}
use Rattle.model_intervals.specs.Intervals.{Call}
use Rattle.model_intervals.specs.OverlappingCalls.{IsAt}
use Rattle.history_reading.specs.CallWords.{plain_call}
use Rattle.history_reading.specs.declared.words.TimedCall.{TimedCall}
use Rattle.history_overlaps.specs.Points.{ArePlacedFrom}
use Rattle.history_overlaps.specs.declared.points.Point.{Point}

-- the begin of a call, or 0 if there is none
abbrev pub begin_in : Option Call → ℕ
begin_in None = 0
begin_in (Some call) = call.begin

-- the greatest begin of these calls, and of what was before
abbrev pub low_behind : List Call → ℕ → List ℕ → ℕ
low_behind calls low [] = low
low_behind calls low (n ∷ order) = low_behind calls (max low (begin_in (slice_get calls n))) order

-- one more call
pub low_more : (calls : List Call) (low : ℕ) (order : List ℕ) (n : ℕ) (call : Call) → IsAt calls n call
    → low_behind calls low (order ++ n ∷ []) ≡ max (low_behind calls low order) call.begin
low_more calls low [] n call at = ap (λ o. max low (begin_in o)) at
low_more calls low (m ∷ order) n call at = low_more calls (max low (begin_in (slice_get calls m))) order n call at

-- one more point
pub placed_more : (calls : List Call) (points : List Point) (low place : ℕ) (order : List ℕ) (n : ℕ) (call : Call) (point : Point)
    → ArePlacedFrom calls points low place order → IsAt calls n call → slice_get points n ≡ Some point
    → point.moment ≡ max (low_behind calls low order) call.begin → point.place ≡ place + length order
    → ArePlacedFrom calls points low place (order ++ n ∷ [])
placed_more calls points low place [] n call point placed at there moment is =
    (call, point, at, there, moment, (let e = is in omega (arith, e)), tt)
placed_more calls points low place (m ∷ order) n call point placed at there moment is =
    let first : begin_in (slice_get calls m) ≡ placed.0.begin = ap begin_in placed.2 in
    let moment' = subst (λ (b : ℕ). point.moment ≡ max (low_behind calls (max low b) order) call.begin) first moment in (
      placed.0,
      placed.1,
      placed.2,
      placed.3,
      placed.4,
      placed.5,
      placed_more calls points (max low placed.0.begin) (place + 1) order n call point placed.6 at there moment' (let e = is in omega (arith, e)),
    )

-- other points don't matter
pub placed_same : (calls : List Call) (points points' : List Point) (low place : ℕ) (order : List ℕ) → ((i : ℕ) → IsIn i order → slice_get points' i ≡ slice_get points i)
    → ArePlacedFrom calls points low place order → ArePlacedFrom calls points' low place order
placed_same calls points points' low place [] same placed = tt
placed_same calls points points' low place (n ∷ order) same placed = (
  placed.0,
  placed.1,
  placed.2,
  same n (inl refl) ∙ placed.3,
  placed.4,
  placed.5,
  placed_same calls points points' (max low placed.0.begin) (place + 1) order (λ i at. same i (inr at)) placed.6,
)

-- a number among the first ones
pub in_more : (order : List ℕ) (n i : ℕ) → IsIn i order → IsIn i (order ++ n ∷ [])
in_more [] n i at = absurd at
in_more (m ∷ order) n i (inl same) = inl same
in_more (m ∷ order) n i (inr later) = inr (in_more order n i later)

pub in_last : (order : List ℕ) (n : ℕ) → IsIn n (order ++ n ∷ [])
in_last [] n = inl refl
in_last (m ∷ order) n = inr (in_last order n)

-- no number of an order is among those before it
not_before : (order : List ℕ) (i : ℕ) → AllPairs (λ front back. front ≢ back) order → i < length order → IsIn (get_or order i 0) (take i order) → ⊥
not_before [] i once lt at = omega (arith, lt)
not_before (m ∷ order) zero once lt at = at
not_before (m ∷ order) (suc i) once lt (inl same) = once 0 (suc i) 0 (omega arith) lt same
not_before (m ∷ order) (suc i) once lt (inr later) =
    not_before order i (λ j k d before within. once (suc j) (suc k) d (omega (arith, before)) (omega (arith, within))) (omega (arith, lt)) later

-- an item of a list that is set
set_here : {X : Type 0} (xs : List X) (i : ℕ) (x : X) → i < length xs → slice_get (set xs i x) i ≡ Some x
set_here [] i x lt = absurd (omega (arith, lt))
set_here (y ∷ xs) zero x lt = refl
set_here (y ∷ xs) (suc i) x lt = set_here xs i x (omega (arith, lt))

set_other : {X : Type 0} (xs : List X) (i k : ℕ) (x : X) → k ≢ i → slice_get (set xs i x) k ≡ slice_get xs k
set_other [] i k x apart = refl
set_other (y ∷ xs) zero zero x apart = absurd (apart refl)
set_other (y ∷ xs) zero (suc k) x apart = refl
set_other (y ∷ xs) (suc i) zero x apart = refl
set_other (y ∷ xs) (suc i) (suc k) x apart = set_other xs i k x (λ e. apart (ap suc e))

-- the points after the first calls of an order were placed: `moment` is the greatest begin so far
abbrev pub HasBeenPlaced : List TimedCall → List Point → List Point → List ℕ → ℕ → ℕ → Type 0
HasBeenPlaced calls old points order count moment = (length points ≡ length old)
    × (moment ≡ low_behind (map plain_call calls) 0 (take count order))
    × ArePlacedFrom (map plain_call calls) points 0 0 (take count order)
    × ((i : ℕ) → (IsIn i (take count order) → ⊥) → slice_get points i ≡ slice_get old i)

-- one more is placed
pub placed_on : (calls : List TimedCall) (old points : List Point) (order : List ℕ) (count moment : ℕ) (call : TimedCall) (moment' : ℕ) → count < length order
    → get_or order count 0 < length calls → AllPairs (λ front back. front ≢ back) order → length points ≡ length calls
    → call ≡ get_or calls (get_or order count 0) call → moment' ≡ max call.begin moment → HasBeenPlaced calls old points order count moment
    → HasBeenPlaced calls old (set points (get_or order count 0) (record { moment = moment'; place = count })) order (count + 1) moment'
placed_on calls old points order count moment call moment' lt within once many is greater before =
    let n = get_or order count 0 in
    let point : Point = record { moment = moment'; place = count } in
    let more : take (count + 1) order ≡ take count order ++ n ∷ [] = take_more order count 0 lt in
    let at : IsAt (map plain_call calls) n (plain_call call) =
    slice_get-map plain_call calls n ∙ ap (λ o. option_map plain_call o) (slice_get_read calls (length calls) n call refl within is) in
    let low : moment' ≡ max (low_behind (map plain_call calls) 0 (take count order)) call.begin =
    greater ∙ (let e : max call.begin moment ≡ max moment call.begin = omega arith in e) ∙ ap (λ (m : ℕ). max m call.begin) before.1 in
    let long : length (take count order) ≡ count = length-take-le count order (omega (arith, lt)) in (
      length-set points n point ∙ before.0,
      low ∙ sym (low_more (map plain_call calls) 0 (take count order) n (plain_call call) at)
          ∙ ap (λ (some : List ℕ). low_behind (map plain_call calls) 0 some) (sym more),
      subst (λ (some : List ℕ). ArePlacedFrom (map plain_call calls) (set points n point) 0 0 some) (sym more)
          (placed_more (map plain_call calls) (set points n point) 0 0 (take count order) n (plain_call call) point
          (placed_same (map plain_call calls) points (set points n point) 0 0 (take count order)
          (λ i here. set_other points n i point (λ e. not_before order count once lt (subst (λ (k : ℕ). IsIn k (take count order)) e here))) before.2)
          at (set_here points n point (omega (arith, many, within))) low (let e = long in omega (arith, e))),
      λ i out. set_other points n i point (λ e. out (subst (λ (some : List ℕ). IsIn i some) (sym more)
          (subst (λ (k : ℕ). IsIn k (take count order ++ n ∷ [])) (sym e) (in_last (take count order) n))))
          ∙ before.3 i (λ here. out (subst (λ (some : List ℕ). IsIn i some) (sym more) (in_more (take count order) n i here))),
    )
