-- The calls of a list with their places.
use Rattle.std.proofs.Common.{◌≡◌, ℕ, suc, ◌+◌, inl, inr, Bool, true, false, ◌&&◌, nat_eq, List, [], ◌∷◌, map, arith, refl, sym, ◌∙◌, ap}
use Rattle.std.specs.List.{filter}
use Rattle.model_intervals.specs.Completions.{picked}
use Rattle.model_intervals.specs.Intervals.{Call}
use Rattle.model_intervals.specs.Objects.{accesses_of, is_access}
use Rattle.model_intervals.specs.OverlappingCalls.{IsAt, cell_at}
use Rattle.model_intervals.proofs.Filtered.{filter_map}
use Rattle.model_intervals.proofs.Lists.{Every, tells}

-- a call and its place
pub record Placed : Type 0 where
  pub place : ℕ
  pub call : Call

abbrev pub call_of : Placed → Call
call_of placed = placed.call

-- the calls with their places; the first call of the list has the place `place`
abbrev pub placed_from : ℕ → List Call → List Placed
placed_from place [] = []
placed_from place (call ∷ calls) = record { place = place; call = call } ∷ placed_from (suc place) calls

-- what holds of each call at its place
pub every_placed : (P : Placed → Type 0) (place : ℕ) (calls : List Call)
    → ((i at : ℕ) (call : Call) → at ≡ place + i → IsAt calls i call → P (record { place = at; call = call })) → Every P (placed_from place calls)
every_placed P place [] each = tt
every_placed P place (call ∷ calls) each =
    (each 0 place call (omega arith) refl, every_placed P (suc place) calls (λ i at c same is. each (suc i) at c (omega (arith, same)) is))

pub calls_are : (place : ℕ) (calls : List Call) → map call_of (placed_from place calls) ≡ calls
calls_are place [] = refl
calls_are place (call ∷ calls) = ap (λ l. call ∷ l) (calls_are (suc place) calls)

picked_are : (takes taken : ℕ → Bool) (place : ℕ) (calls : List Call) → ((i : ℕ) → taken i ≡ takes (place + i))
    → map call_of (filter (λ (p : Placed). takes p.place) (placed_from place calls)) ≡ picked taken calls
picked_are takes taken place [] same = refl
picked_are takes taken place (call ∷ calls) same =
    let later = picked_are takes (λ j. taken (suc j)) (suc place) calls (λ i. same (suc i) ∙ ap (λ (n : ℕ). takes n) (omega arith)) in
    let here : taken 0 ≡ takes place = same 0 ∙ ap (λ (n : ℕ). takes n) (omega arith) in
    elim (tells (taken 0)) [
      | inl on ↦ (let on' : takes place ≡ true = sym here ∙ on in rw (on, on') (ap (λ l. call ∷ l) later))
      | inr off ↦ (let off' : takes place ≡ false = sym here ∙ off in rw (off, off') later)
    ]

-- two filters, one behind the other
filters_turn : {X : Type 0} (p q : X → Bool) (xs : List X) → filter p (filter q xs) ≡ filter q (filter p xs)
filters_turn p q [] = refl
filters_turn p q (x ∷ xs) = elim (tells (p x)) [
  | inl pass ↦ elim (tells (q x)) [
    | inl too ↦ rw (pass, too, pass) (ap (λ l. x ∷ l) (filters_turn p q xs))
    | inr fail ↦ rw (pass, fail) (filters_turn p q xs)
  ]
  | inr fail ↦ elim (tells (q x)) [ inl pass ↦ rw (fail, pass, fail) (filters_turn p q xs) | inr too ↦ rw (fail, too) (filters_turn p q xs) ]
]

-- ---- accesses to the object of a cell

-- whether a call is an access to the object of the cell
abbrev pub accesses : ℕ → Call → Bool
accesses cell call = is_access call.entry.command && nat_eq (cell_at call) cell

-- the accesses with their places
abbrev pub placed_accesses : ℕ → List Call → List Placed
placed_accesses cell calls = filter (λ (p : Placed). accesses cell p.call) (placed_from 0 calls)

pub accesses_are : (cell : ℕ) (calls : List Call) → map call_of (placed_accesses cell calls) ≡ accesses_of cell calls
accesses_are cell calls = sym (filter_map call_of (accesses cell) (placed_from 0 calls)) ∙ ap (λ (l : List Call). filter (accesses cell) l) (calls_are 0 calls)

-- those that are taken are the accesses of the picked calls
pub taken_accesses_are : (taken : ℕ → Bool) (cell : ℕ) (calls : List Call)
    → map call_of (filter (λ (p : Placed). taken p.place) (placed_accesses cell calls)) ≡ accesses_of cell (picked taken calls)
taken_accesses_are taken cell calls =
    ap (λ (l : List Placed). map call_of l) (filters_turn (λ (p : Placed). taken p.place) (λ (p : Placed). accesses cell p.call) (placed_from 0 calls))
    ∙ sym (filter_map call_of (accesses cell) (filter (λ (p : Placed). taken p.place) (placed_from 0 calls)))
    ∙ ap (λ (l : List Call). filter (accesses cell) l) (picked_are taken taken 0 calls (λ i. ap (λ (n : ℕ). taken n) (omega arith)))
