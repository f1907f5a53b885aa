-- A call ends: the order of ends.
use Rattle.std.proofs.Common.{◌≡◌, ◌≢◌, ℕ, ◌<◌, ◌≤◌, ◌⊎◌, inl, inr, List, arith, refl, sym, subst, Option, Some, None}
use Rattle.model_intervals.specs.Completions.{EndsBefore, EndsBy}
use Rattle.model_intervals.specs.Intervals.{Call}
use Rattle.model_intervals.specs.OverlappingCalls.{IsAt}
use Rattle.history_overlaps.specs.Queues.{HasEnded, IsWaiting, Queue, WaitsAt, key_of}
use Rattle.history_overlaps.specs.Timelines.{StopsWaiting}
use Rattle.history_overlaps.specs.declared.pending.Pending.{Pending}
use Rattle.history_overlaps.proofs.CallPlaces.{at_same}
use Rattle.history_overlaps.proofs.QueueSteps.{ended_or_this, ending, less_or_same, small_place, waited_too}

-- ---- keys

-- the order of keys is the order of ends
by_key : (a b : Call) (i j : ℕ) → i < 4294967296 → j < 4294967296 → key_of a i ≤ key_of b j → (a.end < b.end) ⊎ ((a.end ≡ b.end) × (i ≤ j))
by_key a b i j small small' le = elim (less_or_same a.end b.end (omega (arith, small, small', le))) [
  | inl less ↦ inl less
  | inr same ↦ inr (same, omega (arith, same, le))
]

before_key : (a b : Call) (i j : ℕ) → i < 4294967296 → j < 4294967296 → key_of a i < key_of b j → (a.end < b.end) ⊎ ((a.end ≡ b.end) × (i < j))
before_key a b i j small small' less = elim (less_or_same a.end b.end (omega (arith, small, small', less))) [
  | inl early ↦ inl early
  | inr same ↦ inr (same, omega (arith, same, less))
]

key_by : (a b : Call) (i j : ℕ) → i < 4294967296 → (a.end < b.end) ⊎ ((a.end ≡ b.end) × (i ≤ j)) → key_of a i ≤ key_of b j
key_by a b i j small order = elim order [
  | inl less ↦ omega (arith, less, small)
  | inr same ↦ (let e = same.0 in let le = same.1 in omega (arith, e, le))
]

key_before : (a b : Call) (i j : ℕ) → i < 4294967296 → (a.end < b.end) ⊎ ((a.end ≡ b.end) × (i < j)) → key_of a i < key_of b j
key_before a b i j small order = elim order [
  | inl less ↦ omega (arith, less, small)
  | inr same ↦ (let e = same.0 in let lt = same.1 in omega (arith, e, lt))
]

-- ---- the first call in the order of ends ends

module _ (calls : List Call) (waits waits' : ℕ → Option Pending) (key : ℕ) (pending : Pending) (stop : StopsWaiting waits waits' key pending) (queue : Queue calls waits) where
  -- the call that ends
  abbrev pub last : WaitsAt calls key pending
  last = ending calls waits waits' key pending queue stop.was stop.gone stop.others

  small : (i : ℕ) (a : Call) → IsAt calls i a → i < 4294967296
  small = small_place calls waits queue

  pub it_waits : IsWaiting waits last.call last.place
  it_waits = (pending, subst (λ (q : ℕ). waits q ≡ Some pending) last.is_key stop.was)

  -- what waits for its end after it is behind it
  behind : (q : ℕ) (p : Pending) → waits' q ≡ Some p → key < q
  behind q p is =
      let too = waited_too calls waits waits' key pending queue stop.was stop.gone stop.others q p is in
      less q (stop.least q p too.1) too.0
    where
      less : (q : ℕ) → key ≤ q → q ≢ key → key < q
      less q le apart = elim (less_or_same key q le) [ inl early ↦ early | inr same ↦ absurd (apart (sym same)) ]

  -- the calls up to it have ended after its end
  pub ended_up_to : (i : ℕ) → EndsBy calls last.place i → HasEnded calls waits' i
  ended_up_to i (a, b, at_a, at_b, by) = found (waits' (key_of a i)) refl
    where
      found : (o : Option Pending) → waits' (key_of a i) ≡ o → HasEnded calls waits' i
      found None none = (a, at_a, none)
      found (Some p) some = absurd (
          let one = at_same calls last.place b last.call at_b last.there in
          let up = subst (λ (d : Call). key_of a i ≤ key_of d last.place) one (key_by a b i last.place (small i a at_a) by) in
          let is = last.is_key in let late = behind (key_of a i) p some in omega (arith, up, is, late))

  -- the calls before it have ended before its end
  pub ended_earlier : (i : ℕ) → EndsBefore calls last.place i → HasEnded calls waits i
  ended_earlier i (a, b, at_a, at_b, before) = found (waits (key_of a i)) refl
    where
      found : (o : Option Pending) → waits (key_of a i) ≡ o → HasEnded calls waits i
      found None none = (a, at_a, none)
      found (Some p) some = absurd (
          let one = at_same calls last.place b last.call at_b last.there in
          let up = subst (λ (d : Call). key_of a i < key_of d last.place) one (key_before a b i last.place (small i a at_a) before) in
          let is = last.is_key in let late = stop.least (key_of a i) p some in omega (arith, up, is, late))

  -- and no others have
  pub up_to_ended : (i : ℕ) → HasEnded calls waits' i → EndsBy calls last.place i
  up_to_ended i over = elim (ended_or_this calls waits waits' key pending queue stop.was stop.gone stop.others i over) [
    | inl old ↦ (
      over.0,
      last.call,
      over.1,
      last.there,
      by_key over.0 last.call i last.place (small i over.0 over.1) (small last.place last.call last.there)
          (let less = queue.order i last.place over.0 last.call old over.1 last.there it_waits in omega (arith, less)),
    )
    | inr here ↦ (last.call, last.call, subst (λ (n : ℕ). IsAt calls n last.call) (sym here) last.there, last.there, inr (refl, omega (arith, here)))
  ]

  -- nor before its end any but those before it
  pub before_ended : (i : ℕ) → HasEnded calls waits i → EndsBefore calls last.place i
  before_ended i over = (
    over.0,
    last.call,
    over.1,
    last.there,
    before_key over.0 last.call i last.place (small i over.0 over.1) (small last.place last.call last.there)
        (queue.order i last.place over.0 last.call over over.1 last.there it_waits),
  )
