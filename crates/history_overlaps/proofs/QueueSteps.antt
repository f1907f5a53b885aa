-- Calls begin and end: what waits for its end.
use Rattle.std.proofs.Common.{◌≡◌, ◌≢◌, ℕ, ◌<◌, ◌≤◌, ◌⊎◌, inl, inr, List, [], ◌∷◌, ◌++◌, length, arith, sym, subst, ◌∙◌, Option, Some, None}
use Rattle.std.proofs.lemmas.Bool.Decides.{eqb_tells}
use Rattle.std.proofs.lemmas.List.{length-append}
use Rattle.model_intervals.specs.Intervals.{Call}
use Rattle.model_intervals.specs.OverlappingCalls.{IsAt}
use Rattle.history_overlaps.specs.Queues.{HasEnded, IsWaiting, MayBegin, Queue, Suits, WaitsAt, key_of}
use Rattle.history_overlaps.specs.declared.pending.Pending.{Pending}
use Rattle.history_overlaps.proofs.CallPlaces.{at_front, at_below, at_end, at_one, at_same}

-- a call has one place in the order of ends
pub one_key : (a b : Call) (i j : ℕ) → i < 4294967296 → j < 4294967296 → key_of a i ≡ key_of b j → i ≡ j
one_key a b i j small small' same = omega (arith, small, small', same)

pub less_or_same : (m n : ℕ) → m ≤ n → (m < n) ⊎ (m ≡ n)
less_or_same m n le = grind arith

pub ended_below : (calls : List Call) (waits : ℕ → Option Pending) (i : ℕ) → HasEnded calls waits i → i < length calls
ended_below calls waits i over = at_below calls i over.0 over.1

-- a call has ended, or waits
pub ended_is : (calls : List Call) (waits : ℕ → Option Pending) (i : ℕ) (a : Call) → HasEnded calls waits i → IsAt calls i a → waits (key_of a i) ≡ None
ended_is calls waits i a over is = subst (λ (b : Call). waits (key_of b i) ≡ None) (at_same calls i over.0 a over.1 is) over.2

-- a call begins
module _ (calls : List Call) (call : Call) (waits waits' : ℕ → Option Pending) (pending : Pending) (h : Queue calls waits) (may : MayBegin calls waits call)
    (now : waits' (key_of call (length calls)) ≡ Some pending) (others : (q : ℕ) → q ≢ key_of call (length calls) → waits' q ≡ waits q) where
  key_apart : (i : ℕ) (a : Call) → IsAt calls i a → key_of a i ≢ key_of call (length calls)
  key_apart i a is same = let below = at_below calls i a is in let few = may.few in omega (arith, below, few, same)

  -- the same calls have ended
  pub ended_before : (i : ℕ) → HasEnded (calls ++ call ∷ []) waits' i → HasEnded calls waits i
  ended_before i over = elim (at_one calls call i over.0 over.1) [
    | inl old ↦ (over.0, old, sym (others (key_of over.0 i) (key_apart i over.0 old)) ∙ over.2)
    | inr new ↦ absurd (
        let at = subst (λ (a : Call). waits' (key_of a (length calls)) ≡ Some pending) new.1 now in
        let at' = subst (λ (q : ℕ). waits' (key_of over.0 q) ≡ Some pending) (sym new.0) at in
        let none = over.2 in cc (at', none))
  ]

  pub ended_still : (i : ℕ) → HasEnded calls waits i → HasEnded (calls ++ call ∷ []) waits' i
  ended_still i over = (over.0, at_front calls (call ∷ []) i over.0 over.1, others (key_of over.0 i) (key_apart i over.0 over.1) ∙ over.2)

  -- the same of those waited, and the new one waits
  pub waited_before : (i : ℕ) (a : Call) → IsAt calls i a → IsWaiting waits' a i → IsWaiting waits a i
  waited_before i a is w = (w.0, sym (others (key_of a i) (key_apart i a is)) ∙ w.1)

  pub waits_still : (i : ℕ) (a : Call) → IsAt calls i a → IsWaiting waits a i → IsWaiting waits' a i
  waits_still i a is w = (w.0, others (key_of a i) (key_apart i a is) ∙ w.1)

  pub queue_begins : Suits call (length calls) pending → Queue (calls ++ call ∷ []) waits'
  queue_begins suits = record {
    keyed = λ key p is. elim (eqb_tells key (key_of call (length calls))) [
      | inl same ↦
          let this : pending ≡ p = (let at = subst (λ (q : ℕ). waits' q ≡ Some pending) (sym same.1) now in cc (at, is)) in
          record { place = length calls; call = call; there = at_end calls call; is_key = same.1; suits = subst (λ (r : Pending). Suits call (length calls) r) this suits }
      | inr apart ↦ let w = h.keyed key p (sym (others key apart.1) ∙ is) in
          record { place = w.place; call = w.call; there = at_front calls (call ∷ []) w.place w.call w.there; is_key = w.is_key; suits = w.suits }
    ];
    reach = λ i j a b at_i at_j w. elim (at_one calls call i a at_i) [
      | inl old_i ↦ elim (at_one calls call j b at_j) [
        | inl old_j ↦ h.reach i j a b old_i old_j (waited_before i a old_i w)
        | inr new_j ↦ subst (λ (d : Call). d.begin ≤ a.end) new_j.1 (may.within i a old_i (waited_before i a old_i w))
      ]
      | inr new_i ↦ subst (λ (d : Call). b.begin ≤ d.end) new_i.1 (elim (at_one calls call j b at_j) [
        | inl old_j ↦ let first = may.last j b old_j in let takes = may.takes_time in omega (arith, first, takes)
        | inr new_j ↦ subst (λ (d : Call). d.begin ≤ call.end) new_j.1 may.takes_time
      ])
    ];
    order = λ i j a b over at_i at_j w.
        let before = ended_before i over in
        let old_i = subst (λ (d : Call). IsAt calls i d) (at_same (calls ++ call ∷ []) i before.0 a (at_front calls (call ∷ []) i before.0 before.1) at_i) before.1 in
        elim (at_one calls call j b at_j) [
          | inl old_j ↦ h.order i j a b before old_i old_j (waited_before j b old_j w)
          | inr new_j ↦ subst (λ (d : Call). key_of a i < key_of d j) new_j.1
              (let early = may.behind i a before old_i in let takes = may.takes_time in
              let below = at_below calls i a old_i in let few = may.few in omega (arith, early, takes, below, few))
        ];
    few = let few = may.few in let long = length-append calls (call ∷ []) in omega (arith, few, long);
  }

pub small_place : (calls : List Call) (waits : ℕ → Option Pending) → Queue calls waits → (i : ℕ) (a : Call) → IsAt calls i a → i < 4294967296
small_place calls waits h i a is = let below = at_below calls i a is in let few = h.few in omega (arith, below, few)

-- the first call in the order of ends ends
module _ (calls : List Call) (waits waits' : ℕ → Option Pending) (key : ℕ) (pending : Pending) (h : Queue calls waits) (at : waits key ≡ Some pending)
    (gone : waits' key ≡ None) (others : (q : ℕ) → q ≢ key → waits' q ≡ waits q) where
  -- the call that ends
  abbrev pub ending : WaitsAt calls key pending
  ending = h.keyed key pending at

  small : (i : ℕ) (a : Call) → IsAt calls i a → i < 4294967296
  small = small_place calls waits h

  pub it_waited : HasEnded calls waits ending.place → ⊥
  it_waited over = let none = ended_is calls waits ending.place ending.call over ending.there in
      let none' = subst (λ (q : ℕ). waits q ≡ None) (sym ending.is_key) none in cc (none', at)

  pub ended_or_this : (i : ℕ) → HasEnded calls waits' i → HasEnded calls waits i ⊎ (i ≡ ending.place)
  ended_or_this i over = elim (eqb_tells (key_of over.0 i) key) [
    | inl same ↦ inr (one_key over.0 ending.call i ending.place (small i over.0 over.1) (small ending.place ending.call ending.there) (same.1 ∙ ending.is_key))
    | inr apart ↦ inl (over.0, over.1, sym (others (key_of over.0 i) apart.1) ∙ over.2)
  ]

  pub ended_on : (i : ℕ) → HasEnded calls waits i → HasEnded calls waits' i
  ended_on i over = elim (eqb_tells (key_of over.0 i) key) [
    | inl same ↦ absurd (let none = subst (λ (q : ℕ). waits q ≡ None) same.1 over.2 in cc (none, at))
    | inr apart ↦ (over.0, over.1, others (key_of over.0 i) apart.1 ∙ over.2)
  ]

  pub it_ended : HasEnded calls waits' ending.place
  it_ended = (ending.call, ending.there, subst (λ (q : ℕ). waits' q ≡ None) ending.is_key gone)

  pub waited_too : (q : ℕ) (r : Pending) → waits' q ≡ Some r → (q ≢ key) × (waits q ≡ Some r)
  waited_too q r is = elim (eqb_tells q key) [
    | inl same ↦ absurd (let none = subst (λ (k : ℕ). waits' k ≡ None) (sym same.1) gone in cc (none, is))
    | inr apart ↦ (apart.1, sym (others q apart.1) ∙ is)
  ]

  pub queue_ends : ((q : ℕ) (r : Pending) → waits q ≡ Some r → key ≤ q) → Queue calls waits'
  queue_ends least = record {
    keyed = λ q r is. h.keyed q r (waited_too q r is).1;
    reach = λ i j a b at_i at_j w. h.reach i j a b at_i at_j (w.0, (waited_too (key_of a i) w.0 w.1).1);
    order = λ i j a b over at_i at_j w. let too = waited_too (key_of b j) w.0 w.1 in elim (ended_or_this i over) [
      | inl old ↦ h.order i j a b old at_i at_j (w.0, too.1)
      | inr this ↦
          let same = at_same calls ending.place ending.call a ending.there (subst (λ (q : ℕ). IsAt calls q a) this at_i) in
          let is = ending.is_key in let late = behind (key_of b j) (least (key_of b j) w.0 too.1) too.0 in
          subst (λ (d : Call). key_of d i < key_of b j) same (omega (arith, is, this, late))
    ];
    few = h.few;
  }
    where
      behind : (q : ℕ) → key ≤ q → q ≢ key → key < q
      behind q le apart = elim (less_or_same key q le) [ inl early ↦ early | inr same ↦ absurd (apart (sym same)) ]
