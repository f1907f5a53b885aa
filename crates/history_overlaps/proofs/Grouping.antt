-- The accesses to each object, call by call.
use Rattle.std.proofs.Common.{◌≡◌, ◌≢◌, ℕ, ◌+◌, ◌<◌, ◌≤◌, inl, inr, true, false, nat_eq, List, [], ◌∷◌, ◌++◌, Option, get_or, length, map, refl, sym, take, ap, ◌∙◌}
use Rattle.std.specs.Global.{Vec}
use Rattle.std.proofs.lemmas.Bool.{eq-eqb}
use Rattle.std.proofs.lemmas.Bool.Decides.{eqb_tells}
use Rattle.std.proofs.lemmas.List.{length-map, length-take-le, map-append, map_push, take_more}
use Rattle.model_intervals.specs.Intervals.{Call}
use Rattle.history_reading.specs.CallWords.{plain_call}
use Rattle.history_reading.specs.declared.words.TimedCall.{TimedCall}
use Rattle.model_intervals.specs.Objects.{is_access}
use Rattle.model_intervals.specs.OverlappingCalls.{cell_at}
use Rattle.history_overlaps.specs.Accesses.{PlacedCall, is_access_of, placed_from}
use Rattle.history_overlaps.proofs.Follows.{placed_one, placed_other}
use Rattle.history_overlaps.specs.OwnOrders.{AreGrouped, IsAdded, listed, numbers_of}

-- one more call that accesses the object of the cell
numbers_one : (cell : ℕ) (calls : List Call) (call : Call) → is_access_of cell call ≡ true → numbers_of cell (calls ++ call ∷ []) ≡ numbers_of cell calls ++ length calls ∷ []
numbers_one cell calls call access =
    ap (λ (placed : List PlacedCall). map (λ (p : PlacedCall). p.place) placed) (placed_one cell calls call access)
    ∙ map-append (λ (p : PlacedCall). p.place) (placed_from 0 cell calls) (record { place = length calls; call = call } ∷ [])

-- one more call that doesn't
numbers_other : (cell : ℕ) (calls : List Call) (call : Call) → is_access_of cell call ≡ false → numbers_of cell (calls ++ call ∷ []) ≡ numbers_of cell calls
numbers_other cell calls call other = ap (λ (placed : List PlacedCall). map (λ (p : PlacedCall). p.place) placed) (placed_other cell calls call other)

-- a call that is no access adds nothing
pub grouped_same : (calls : List Call) (call : Call) (accesses : ℕ → Option (Vec ℕ)) → is_access call.entry.command ≡ false → AreGrouped calls accesses
    → AreGrouped (calls ++ call ∷ []) accesses
grouped_same calls call accesses none grouped cell =
    let other : is_access_of cell call ≡ false = rw none refl in grouped cell ∙ sym (numbers_other cell calls call other)

-- an access adds its number
pub grouped_more : (calls : List Call) (call : Call) (old new : ℕ → Option (Vec ℕ)) (cell : ℕ) → is_access call.entry.command ≡ true → cell_at call ≡ cell
    → AreGrouped calls old → IsAdded old new cell (length calls) → AreGrouped (calls ++ call ∷ []) new
grouped_more calls call old new cell access names grouped added q = elim (eqb_tells q cell) [
  | inl same ↦
      let own : is_access_of q call ≡ true = rw (access, eq-eqb (cell_at call) q (names ∙ sym same.1)) refl in
      ap (λ (c : ℕ). listed (new c)) same.1 ∙ added.0 ∙ ap (λ (numbers : List ℕ). numbers ++ length calls ∷ []) (ap (λ (c : ℕ). listed (old c)) (sym same.1) ∙ grouped q)
      ∙ sym (numbers_one q calls call own)
  | inr apart ↦
      let other : is_access_of q call ≡ false = rw (access, unequal (cell_at call) q (λ e. apart.1 (sym e ∙ names))) refl in
      ap listed (added.1 q apart.1) ∙ grouped q ∙ sym (numbers_other q calls call other)
]
  where
    unequal : (a b : ℕ) → a ≢ b → nat_eq a b ≡ false
    unequal a b apart = elim (eqb_tells a b) [ inl same ↦ absurd (apart same.1) | inr is ↦ is.0 ]

-- the first calls and one more
pub calls_more : (calls : List TimedCall) (n : ℕ) (call : TimedCall) → n < length calls → call ≡ get_or calls n call
    → map plain_call (take (n + 1) calls) ≡ map plain_call (take n calls) ++ plain_call call ∷ []
calls_more calls n call lt is =
    ap (λ (some : List TimedCall). map plain_call some) (take_more calls n call lt) ∙ map_push plain_call (take n calls) (get_or calls n call)
    ∙ ap (λ (one : TimedCall). map plain_call (take n calls) ++ plain_call one ∷ []) (sym is)

-- as many of them
pub calls_so_many : (calls : List TimedCall) (n : ℕ) → n ≤ length calls → length (map plain_call (take n calls)) ≡ n
calls_so_many calls n le = length-map (take n calls) plain_call ∙ length-take-le n calls le
