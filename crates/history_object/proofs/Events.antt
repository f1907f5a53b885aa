-- One event more, behind others: what has begun and ended, and the places of calls.
use Rattle.std.proofs.Common.{◌≡◌, ◌⊎◌, inl, inr, ℕ, suc, ◌≤◌, List, [], ◌∷◌, ◌++◌, Option, Some, None, slice_get, slice_set, subst, refl, sym, arith}
use Rattle.history_object.specs.Orders.{CallBegins, CallEnds, EndsBefore, HasEnded, NumberedEvent, begun_behind}
use Rattle.history_object.specs.Placed.{ArePlaced, HavePassed}
use Rattle.history_object.specs.Standings.{Begins, Ends, Event, HasPassed, Standing}
use Rattle.history_object.proofs.Lists.{get_front}
use Rattle.history_object.specs.Following.{taken_behind}

-- how many have begun
pub begun_begin : (begun : ℕ) (events : List NumberedEvent) → begun_behind begun (events ++ CallBegins ∷ []) ≡ suc (begun_behind begun events)
begun_begin begun [] = refl
begun_begin begun (CallBegins ∷ events) = begun_begin (suc begun) events
begun_begin begun (CallEnds i ∷ events) = begun_begin begun events

pub begun_end : (begun k : ℕ) (events : List NumberedEvent) → begun_behind begun (events ++ CallEnds k ∷ []) ≡ begun_behind begun events
begun_end begun k [] = refl
begun_end begun k (CallBegins ∷ events) = begun_end (suc begun) k events
begun_end begun k (CallEnds i ∷ events) = begun_end begun k events

begun_no_fewer : (begun : ℕ) (events : List NumberedEvent) → begun ≤ begun_behind begun events
begun_no_fewer begun [] = omega arith
begun_no_fewer begun (CallBegins ∷ events) = let more = begun_no_fewer (suc begun) events in omega (arith, more)
begun_no_fewer begun (CallEnds i ∷ events) = begun_no_fewer begun events

-- which have ended
pub ended_stays : (events more : List NumberedEvent) (i : ℕ) → HasEnded events i → HasEnded (events ++ more) i
ended_stays [] more i never = absurd never
ended_stays (CallBegins ∷ events) more i has = ended_stays events more i has
ended_stays (CallEnds k ∷ events) more i has = elim has [ inl same ↦ inl same | inr later ↦ inr (ended_stays events more i later) ]

pub ended_last : (events : List NumberedEvent) (k i : ℕ) → k ≡ i → HasEnded (events ++ CallEnds k ∷ []) i
ended_last [] k i same = inl same
ended_last (CallBegins ∷ events) k i same = ended_last events k i same
ended_last (CallEnds m ∷ events) k i same = inr (ended_last events k i same)

pub ended_before_begin : (events : List NumberedEvent) (i : ℕ) → HasEnded (events ++ CallBegins ∷ []) i → HasEnded events i
ended_before_begin [] i never = never
ended_before_begin (CallBegins ∷ events) i has = ended_before_begin events i has
ended_before_begin (CallEnds k ∷ events) i has = elim has [ inl same ↦ inl same | inr later ↦ inr (ended_before_begin events i later) ]

pub ended_before_end : (events : List NumberedEvent) (k i : ℕ) → HasEnded (events ++ CallEnds k ∷ []) i → (k ≡ i) ⊎ HasEnded events i
ended_before_end [] k i has = elim has [ inl same ↦ inl same | inr never ↦ absurd never ]
ended_before_end (CallBegins ∷ events) k i has = ended_before_end events k i has
ended_before_end (CallEnds m ∷ events) k i has = elim has [
  | inl same ↦ inr (inl same)
  | inr later ↦ elim (ended_before_end events k i later) [ inl last ↦ inl last | inr was ↦ inr (inr was) ]
]

-- which have ended before others began
pub before_stays : (begun : ℕ) (events more : List NumberedEvent) (i j : ℕ) → EndsBefore begun events i j → EndsBefore begun (events ++ more) i j
before_stays begun [] more i j never = absurd never
before_stays begun (CallBegins ∷ events) more i j ends = before_stays (suc begun) events more i j ends
before_stays begun (CallEnds k ∷ events) more i j ends = elim ends [ inl now ↦ inl now | inr later ↦ inr (before_stays begun events more i j later) ]

pub before_begin : (begun : ℕ) (events : List NumberedEvent) (i j : ℕ) → EndsBefore begun (events ++ CallBegins ∷ []) i j → EndsBefore begun events i j
before_begin begun [] i j never = never
before_begin begun (CallBegins ∷ events) i j ends = before_begin (suc begun) events i j ends
before_begin begun (CallEnds k ∷ events) i j ends = elim ends [ inl now ↦ inl now | inr later ↦ inr (before_begin begun events i j later) ]

pub before_end : (begun k : ℕ) (events : List NumberedEvent) (i j : ℕ) → EndsBefore begun (events ++ CallEnds k ∷ []) i j
    → ((k ≡ i) × (begun_behind begun events ≤ j)) ⊎ EndsBefore begun events i j
before_end begun k [] i j ends = elim ends [ inl now ↦ inl now | inr never ↦ absurd never ]
before_end begun k (CallBegins ∷ events) i j ends = before_end (suc begun) k events i j ends
before_end begun k (CallEnds m ∷ events) i j ends = elim ends [
  | inl now ↦ inr (inl now)
  | inr later ↦ elim (before_end begun k events i j later) [ inl last ↦ inl last | inr was ↦ inr (inr was) ]
]

pub before_is_ended : (begun : ℕ) (events : List NumberedEvent) (i j : ℕ) → EndsBefore begun events i j → HasEnded events i
before_is_ended begun [] i j never = never
before_is_ended begun (CallBegins ∷ events) i j ends = before_is_ended (suc begun) events i j ends
before_is_ended begun (CallEnds k ∷ events) i j ends = elim ends [ inl now ↦ inl now.0 | inr later ↦ inr (before_is_ended begun events i j later) ]

pub ended_is_before : (begun : ℕ) (events : List NumberedEvent) (i j : ℕ) → HasEnded events i → begun_behind begun events ≤ j → EndsBefore begun events i j
ended_is_before begun [] i j never le = never
ended_is_before begun (CallBegins ∷ events) i j has le = ended_is_before (suc begun) events i j has le
ended_is_before begun (CallEnds k ∷ events) i j has le = elim has [
  | inl same ↦ (let fewer = begun_no_fewer begun events in inl (same, omega (arith, fewer, le)))
  | inr later ↦ inr (ended_is_before begun events i j later le)
]

-- the places of calls
pub placed_more : {C : Type 0} → (calls more : List C) (begun : ℕ) (taken : List (Option ℕ)) (events : List NumberedEvent) (placed : List (Event C))
    → ArePlaced calls begun taken events placed → ArePlaced (calls ++ more) begun taken events placed
placed_more calls more begun taken [] [] are = tt
placed_more calls more begun taken [] (p ∷ placed) are = absurd are
placed_more calls more begun taken (CallBegins ∷ events) [] are = absurd are
placed_more calls more begun taken (CallBegins ∷ events) (Begins q c ∷ placed) are =
    (are.0, get_front calls more begun c are.1, placed_more calls more (suc begun) (slice_set taken q (Some begun)) events placed are.2)
placed_more calls more begun taken (CallBegins ∷ events) (Ends q ∷ placed) are = absurd are
placed_more calls more begun taken (CallEnds i ∷ events) [] are = absurd are
placed_more calls more begun taken (CallEnds i ∷ events) (Begins q c ∷ placed) are = absurd are
placed_more calls more begun taken (CallEnds i ∷ events) (Ends q ∷ placed) are = (are.0, placed_more calls more begun (slice_set taken q None) events placed are.1)

pub placed_begin : {C : Type 0} → (calls : List C) (begun : ℕ) (taken : List (Option ℕ)) (events : List NumberedEvent) (placed : List (Event C)) (p : ℕ) (call : C)
    → ArePlaced calls begun taken events placed → slice_get (taken_behind begun taken placed) p ≡ Some None → slice_get calls (begun_behind begun events) ≡ Some call
    → ArePlaced calls begun taken (events ++ CallBegins ∷ []) (placed ++ Begins p call ∷ [])
placed_begin calls begun taken [] [] p call are free is = (free, is, tt)
placed_begin calls begun taken [] (q ∷ placed) p call are free is = absurd are
placed_begin calls begun taken (CallBegins ∷ events) [] p call are free is = absurd are
placed_begin calls begun taken (CallBegins ∷ events) (Begins q c ∷ placed) p call are free is =
    (are.0, are.1, placed_begin calls (suc begun) (slice_set taken q (Some begun)) events placed p call are.2 free is)
placed_begin calls begun taken (CallBegins ∷ events) (Ends q ∷ placed) p call are free is = absurd are
placed_begin calls begun taken (CallEnds i ∷ events) [] p call are free is = absurd are
placed_begin calls begun taken (CallEnds i ∷ events) (Begins q c ∷ placed) p call are free is = absurd are
placed_begin calls begun taken (CallEnds i ∷ events) (Ends q ∷ placed) p call are free is =
    (are.0, placed_begin calls begun (slice_set taken q None) events placed p call are.1 free is)

pub placed_end : {C : Type 0} → (calls : List C) (begun : ℕ) (taken : List (Option ℕ)) (events : List NumberedEvent) (placed : List (Event C)) (p k : ℕ)
    → ArePlaced calls begun taken events placed → slice_get (taken_behind begun taken placed) p ≡ Some (Some k)
    → ArePlaced calls begun taken (events ++ CallEnds k ∷ []) (placed ++ Ends p ∷ [])
placed_end calls begun taken [] [] p k are here = (here, tt)
placed_end calls begun taken [] (q ∷ placed) p k are here = absurd are
placed_end calls begun taken (CallBegins ∷ events) [] p k are here = absurd are
placed_end calls begun taken (CallBegins ∷ events) (Begins q c ∷ placed) p k are here =
    (are.0, are.1, placed_end calls (suc begun) (slice_set taken q (Some begun)) events placed p k are.2 here)
placed_end calls begun taken (CallBegins ∷ events) (Ends q ∷ placed) p k are here = absurd are
placed_end calls begun taken (CallEnds i ∷ events) [] p k are here = absurd are
placed_end calls begun taken (CallEnds i ∷ events) (Begins q c ∷ placed) p k are here = absurd are
placed_end calls begun taken (CallEnds i ∷ events) (Ends q ∷ placed) p k are here =
    (are.0, placed_end calls begun (slice_set taken q None) events placed p k are.1 here)

-- which call has each place
pub taken_begin : {C : Type 0} → (calls : List C) (begun : ℕ) (taken : List (Option ℕ)) (events : List NumberedEvent) (placed : List (Event C)) (p : ℕ) (call : C)
    → ArePlaced calls begun taken events placed
    → taken_behind begun taken (placed ++ Begins p call ∷ []) ≡ slice_set (taken_behind begun taken placed) p (Some (begun_behind begun events))
taken_begin calls begun taken [] [] p call are = refl
taken_begin calls begun taken [] (q ∷ placed) p call are = absurd are
taken_begin calls begun taken (CallBegins ∷ events) [] p call are = absurd are
taken_begin calls begun taken (CallBegins ∷ events) (Begins q c ∷ placed) p call are =
    taken_begin calls (suc begun) (slice_set taken q (Some begun)) events placed p call are.2
taken_begin calls begun taken (CallBegins ∷ events) (Ends q ∷ placed) p call are = absurd are
taken_begin calls begun taken (CallEnds i ∷ events) [] p call are = absurd are
taken_begin calls begun taken (CallEnds i ∷ events) (Begins q c ∷ placed) p call are = absurd are
taken_begin calls begun taken (CallEnds i ∷ events) (Ends q ∷ placed) p call are = taken_begin calls begun (slice_set taken q None) events placed p call are.1

pub taken_end : {C : Type 0} → (begun : ℕ) (taken : List (Option ℕ)) (placed : List (Event C)) (p : ℕ)
    → taken_behind begun taken (placed ++ Ends p ∷ []) ≡ slice_set (taken_behind begun taken placed) p None
taken_end begun taken [] p = refl
taken_end begun taken (Begins q c ∷ placed) p = taken_end (suc begun) (slice_set taken q (Some begun)) placed p
taken_end begun taken (Ends q ∷ placed) p = taken_end begun (slice_set taken q None) placed p

-- the events that have passed
pub passed_more : {S C : Type 0} → (effect : S → C → Option S) (placed : List (Event C)) (event : Event C) (first standing standing' : Standing S C)
    → HavePassed effect placed first standing → HasPassed effect event standing standing' → HavePassed effect (placed ++ event ∷ []) first standing'
passed_more effect [] event first standing standing' have has = (standing', subst (λ s. HasPassed effect event s standing') (sym have) has, refl)
passed_more effect (e ∷ placed) event first standing standing' have has =
    (have.0, have.1, passed_more effect placed event have.0 standing standing' have.2 has)
