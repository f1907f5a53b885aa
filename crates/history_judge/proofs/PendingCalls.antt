-- Calls of which some were pending when the recording stopped, and calls of which none was.
use Rattle.std.proofs.Common.{◌≡◌, ◌⊎◌, ℕ, suc, ◌<◌, ◌||◌, inl, inr, Bool, true, false, nat_eq, List, [], ◌∷◌, arith, ap, map, refl, subst, sym}
use Rattle.std.specs.List.{All, list_any}
use Rattle.std.proofs.lemmas.Bool.Decides.{eqb_tells}
use Rattle.std.proofs.lemmas.List.Elements.{All-cons, All-head, All-nil, All-tail}
use Rattle.model_intervals.specs.Completions.{never}
use Rattle.model_intervals.specs.Intervals.{Call, Explains, IsLinearizable}
use Rattle.model_intervals.specs.OverlappingCalls.{IsAt, IsHistory}
use Rattle.model_intervals.proofs.InTime.{all_in_time_are_linearizable}
use Rattle.history_reading.specs.CallReadings.{CallReading}
use Rattle.history_reading.specs.CallWords.{IsReadCall, plain_call}
use Rattle.history_reading.specs.declared.words.TimedCall.{TimedCall}
use Rattle.history_overlaps.specs.OrderTexts.{ordered_text}
use Rattle.history_overlaps.specs.Orders.{calls_in_order}
use Rattle.history_judge.specs.OrderedHistories.{AreCallsOf, IsOrderedHistory, IsWithoutOrder}

either : (a b : Bool) → (a || b) ≡ true → (a ≡ true) ⊎ (b ≡ true)
either true b is = inl refl
either false b is = inr is

neither : (a b : Bool) → (a || b) ≡ false → (a ≡ false) × (b ≡ false)
neither true b is = cc is
neither false b is = (refl, is)

-- whether a call is pending
abbrev pends : TimedCall → Bool
pends call = nat_eq call.end never

-- one of these calls is pending
pending_among : (calls : List TimedCall) → list_any pends calls ≡ true → (place : ℕ) × (call : Call) × IsAt (map plain_call calls) place call × (call.end ≡ never)
pending_among [] is = cc is
pending_among (c ∷ calls) is = elim (either (pends c) (list_any pends calls) is) [
  | inl here ↦ elim (eqb_tells c.end never) [
    | inl same ↦ (0, plain_call c, refl, same.1)
    | inr apart ↦ absurd (let not = apart.0 in cc (here, not))
  ]
  | inr later ↦ let rest = pending_among calls later in (suc rest.0, rest.1, rest.2, rest.3)
]

-- each of these calls ended in time
all_in_time : (calls : List TimedCall) → All IsReadCall calls → list_any pends calls ≡ false → All (λ call. call.end < never) (map plain_call calls)
all_in_time [] read none = All-nil (λ (call : Call). call.end < never)
all_in_time (c ∷ calls) read none =
    let both = neither (pends c) (list_any pends calls) none in
    let last = (All-head IsReadCall c calls read).ends in
    let early : c.end < never = elim (eqb_tells c.end never) [
      | inl same ↦ absurd (let yes = same.0 in let not = both.0 in cc (yes, not))
      | inr apart ↦ grind (arith, apart.1, last)
    ] in
    All-cons (λ (call : Call). call.end < never) (plain_call c) (map plain_call calls) early (all_in_time calls (All-tail IsReadCall c calls read) both.1)

-- a text one of whose calls is pending
pub pending_text : (text : List ℕ) (calls : List TimedCall) → AreCallsOf text calls → list_any pends calls ≡ true → IsWithoutOrder text
pending_text text calls are is =
    let found = pending_among calls is in let same = sym (ap (λ (r : CallReading). r.calls) are.reading) in
    inl (found.0, found.1, subst (λ (cs : List Call). IsAt cs found.0 found.1) same found.2, found.3)

-- a text of whose calls none is pending and which no order explains
pub unexplained_text : (text : List ℕ) (calls : List TimedCall) → AreCallsOf text calls → list_any pends calls ≡ false
    → (IsHistory (map plain_call calls) → IsLinearizable (map plain_call calls) → ⊥) → IsWithoutOrder text
unexplained_text text calls are none unexplained = inr (λ entries is.
    let same : is.calls ≡ map plain_call calls = (let one = ap (λ (r : CallReading). r.calls) is.reading in let two = ap (λ (r : CallReading). r.calls) are.reading in cc (one, two)) in
    let in_time = subst (λ (cs : List Call). All (λ call. call.end < never) cs) (sym same) (all_in_time calls are.are_read none) in
    unexplained (subst IsHistory same is.history)
    (subst IsLinearizable same ((all_in_time_are_linearizable is.calls in_time).0 is.completed)))

-- the calls of a text, of which none is pending, in an order that explains them
pub ordered : (text history : List ℕ) (calls : List TimedCall) (order : List ℕ) → AreCallsOf text calls → list_any pends calls ≡ false
    → Explains (map plain_call calls) (calls_in_order calls order) → history ≡ ordered_text (calls_in_order calls order) → IsOrderedHistory text history
ordered text history calls order are none explains is = record {
  calls = map plain_call calls;
  reading = are.reading;
  in_time = all_in_time calls are.are_read none;
  order = calls_in_order calls order;
  explains = explains;
  is = is;
}
