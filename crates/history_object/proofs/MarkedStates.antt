-- States with the marks of calls by their numbers, of which those of pending calls alone are needed.
use Rattle.std.proofs.Common.{◌≡◌, ◌↔◌, ℕ, suc, Bool, true, false, nat_eq, List, [], ◌∷◌, Option, Some, None, if◌then◌else◌}
use Rattle.history_object.specs.Carried.{IsCarriedTo, after_all, carry}
use Rattle.history_object.specs.Orders.{CallBegins, CallEnds, Explains, IsIn, NumberedEvent, RespectsTime}

-- the one configuration is left of the other behind these events, where so many calls had begun
abbrev pub IsLeft : {C : Type 0} → (C → ℕ → Option C) → (C → ℕ → Bool) → ℕ → List NumberedEvent → C → C → Type 0
IsLeft after had calls [] from c = from ≡ c
IsLeft after had calls (CallBegins ∷ events) from c = IsLeft after had (suc calls) events from c
IsLeft {C} after had calls (CallEnds i ∷ events) from c = (next : C) × IsCarriedTo after had calls i from next × IsLeft after had calls events next c

-- a state, and which calls had their effect
pub record MarkedState (S : Type 0) : Type 0 where
  pub state : S
  pub done : ℕ → Bool

-- with one call more
abbrev pub marked : (ℕ → Bool) → ℕ → ℕ → Bool
marked done n i = if nat_eq n i then true else done i

-- whether a call had its effect
abbrev pub has_done : {S : Type 0} → MarkedState S → ℕ → Bool
has_done c n = c.done n

-- the state that an effect leads to, if any, with its call marked
abbrev pub with_state : {S : Type 0} → (ℕ → Bool) → Option S → Option (MarkedState S)
with_state done None = None
with_state done (Some s) = Some (record { state = s; done = done })

-- what the effect of a call that had none yet makes of a configuration
abbrev pub effect_on : {S : Type 0} → (S → ℕ → Option S) → MarkedState S → ℕ → Option (MarkedState S)
effect_on effect c n = if c.done n then None else with_state (marked c.done n) (effect c.state n)

-- a state where no call had its effect
abbrev pub begun_with : {S : Type 0} → S → MarkedState S
begun_with s = record { state = s; done = λ n. false }

-- an effect marks its call and no other
abbrev pub IsMarked : {C : Type 0} → (C → ℕ → Option C) → (C → ℕ → Bool) → Type 0
IsMarked {C} after had = (c d : C) (n i : ℕ) → after c n ≡ Some d → had d i ≡ marked (had c) n i

-- effects in an order that respects time can be
abbrev pub HasOrderInTime : {C : Type 0} → (C → ℕ → Option C) → List NumberedEvent → C → Type 0
HasOrderInTime {C} after events from = (order : List ℕ) × RespectsTime 0 events order × ((last : C) × (after_all after order from ≡ Some last))

-- where effects mark their calls: some configuration is left of one where no call had its effect, just where effects in
-- an order that respects time can be
abbrev pub GrownIsInTime : {C : Type 0} → (C → ℕ → Option C) → (C → ℕ → Bool) → Type 0
GrownIsInTime {C} after had = IsMarked after had → (events : List NumberedEvent) (from : C) → ((i : ℕ) → had from i ≡ false)
    → ((c : C) × IsLeft after had 0 events from c) ↔ HasOrderInTime after events from

-- some configuration is left just where some order of effects explains the history
abbrev pub ConfigurationsTell : {S : Type 0} → (S → ℕ → Option S) → Type 0
ConfigurationsTell {S} effect = (start : S) (events : List NumberedEvent)
    → ((c : MarkedState S) × IsLeft (effect_on effect) has_done 0 events (begun_with start) c)
    ↔ ((order : List ℕ) × Explains effect start events order)

-- those without the call
abbrev pub without : ℕ → List ℕ → List ℕ
without i [] = []
without i (n ∷ pending) = if nat_eq n i then without i pending else n ∷ without i pending

-- each call is pending
abbrev pub ArePending : List ℕ → List ℕ → Type 0
ArePending pending [] = Unit {0}
ArePending pending (n ∷ ns) = IsIn n pending × ArePending pending ns

-- each call that ends is pending then
abbrev pub EndsArePending : ℕ → List ℕ → List NumberedEvent → Type 0
EndsArePending calls pending [] = Unit {0}
EndsArePending calls pending (CallBegins ∷ events) = EndsArePending (suc calls) (calls ∷ pending) events
EndsArePending calls pending (CallEnds i ∷ events) = IsIn i pending × EndsArePending calls (without i pending) events

-- effects of pending calls, up to that of the call that ends, make the one of the other
abbrev pub IsCarriedByPending : {C : Type 0} → (C → ℕ → Option C) → (C → ℕ → Bool) → List ℕ → ℕ → C → C → Type 0
IsCarriedByPending after had pending ending from c =
    (path : List ℕ) × ArePending pending path × (after_all (carry after had ending) path from ≡ Some c) × (had c ending ≡ true)

-- the one configuration is left of the other behind these events, where at the end of a call its mark is dropped
abbrev pub IsLeftDropped : {C : Type 0} → (C → ℕ → Option C) → (C → ℕ → Bool) → (C → ℕ → C) → ℕ → List ℕ → List NumberedEvent → C → C → Type 0
IsLeftDropped after had forget calls pending [] from c = from ≡ c
IsLeftDropped after had forget calls pending (CallBegins ∷ events) from c = IsLeftDropped after had forget (suc calls) (calls ∷ pending) events from c
IsLeftDropped {C} after had forget calls pending (CallEnds i ∷ events) from c =
    (next : C) × IsCarriedByPending after had pending i from next × IsLeftDropped after had forget calls (without i pending) events (forget next i) c

-- without the mark of a call
abbrev pub without_mark : (ℕ → Bool) → ℕ → ℕ → Bool
without_mark done n i = if nat_eq n i then false else done i

-- a configuration without the mark of a call
abbrev pub forgot : {S : Type 0} → MarkedState S → ℕ → MarkedState S
forgot c n = record { state = c.state; done = without_mark c.done n }

-- where each call that ends is pending: some configuration is left just where some order of effects explains the
-- history, also where marks are dropped
abbrev pub DroppedMarksTell : {S : Type 0} → (S → ℕ → Option S) → Type 0
DroppedMarksTell {S} effect = (start : S) (events : List NumberedEvent) → EndsArePending 0 [] events
    → ((c : MarkedState S) × IsLeftDropped (effect_on effect) has_done forgot 0 [] events (begun_with start) c)
    ↔ ((order : List ℕ) × Explains effect start events order)
