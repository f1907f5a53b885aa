-- The keys of an object's accesses in their order. They never fall, and each lies within its call.
-- The i-th key is 3 * B + 1, where B is the greatest begin of the first i accesses.
use Rattle.std.proofs.Common.{◌≡◌, ℕ, ◌+◌, ◌*◌, ◌<◌, ◌≤◌, max, List, [], ◌∷◌, arith, refl, ap}
use Rattle.model_intervals.specs.Intervals.{Call}
use Rattle.model_intervals.specs.KeyedOrders.{Keyed, calls_of, keyed_from}
use Rattle.model_intervals.proofs.Lists.{Every, Pairs, every_both, every_weaker}
use Rattle.model_intervals.proofs.Merged.{Rises}

-- a third of the key is between the call's begin and end
abbrev pub IsWithin : Keyed → Type 0
IsWithin p = (3 * p.call.begin ≤ p.key) × (p.key ≤ 3 * p.call.end + 2)

pub keyed_calls : (low : ℕ) (order : List Call) → calls_of (keyed_from low order) ≡ order
keyed_calls low [] = refl
keyed_calls low (call ∷ order) = ap (λ (rest : List Call). call ∷ rest) (keyed_calls (max low call.begin) order)

-- a fact of each call is a fact of each keyed call
pub keyed_every : (P : Call → Type 0) (low : ℕ) (order : List Call) → Every P order → Every (λ p. P p.call) (keyed_from low order)
keyed_every P low [] h = tt
keyed_every P low (call ∷ order) h = (h.0, keyed_every P (max low call.begin) order h.1)

least : (low : ℕ) (order : List Call) → Every (λ p. 3 * low + 1 ≤ p.key) (keyed_from low order)
least low [] = tt
least low (call ∷ order) = (
  omega arith,
  every_weaker (λ p. 3 * max low call.begin + 1 ≤ p.key) (λ p. 3 * low + 1 ≤ p.key) (keyed_from (max low call.begin) order) (λ p h. omega (arith, h)) (least (max low call.begin) order),
)

pub keyed_rise : (low : ℕ) (order : List Call) → Pairs Rises (keyed_from low order)
keyed_rise low [] = tt
keyed_rise low (call ∷ order) = (least (max low call.begin) order, keyed_rise (max low call.begin) order)

pub keyed_within : (low : ℕ) (order : List Call) → Every (λ call. low ≤ call.end) order → Every (λ call. call.begin ≤ call.end) order
    → Pairs (λ front back. back.end < front.begin → ⊥) order → Every IsWithin (keyed_from low order)
keyed_within low [] above take_time respects = tt
keyed_within low (call ∷ order) above take_time respects =
    let first : max low call.begin ≤ call.end = omega (arith, above.0, take_time.0) in (
      (omega arith, omega (arith, first)),
      keyed_within (max low call.begin) order
          (every_both (λ (c : Call). low ≤ c.end) (λ c. c.end < call.begin → ⊥) (λ c. max low call.begin ≤ c.end) order (λ c h k. omega (arith, h, k)) above.1 respects.0)
          take_time.1 respects.1,
    )
