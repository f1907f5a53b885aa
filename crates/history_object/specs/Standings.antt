-- The state of a judge: events by the places of calls, and which configurations can pass them.
use Rattle.std.specs.Prelude.{◌≡◌, ◌↔◌, ℕ, Bool, true, false, List, [], ◌∷◌, Option, Some, None, length, replicate, slice_get, slice_index_or, slice_set, if◌then◌else◌}
use Rattle.history_object.specs.declared.configuration.Configuration.{Configuration}
use Rattle.history_object.specs.Carried.{IsCarriedTo, IsKept}

-- an event: a call begins and takes a place, or the call at a place ends
pub data Event (C : Type 0) : Type 0 where
  Begins : ℕ → C → Event C
  Ends : ℕ → Event C

-- the call at a place, if there is such a place and it has a call
abbrev pub found_call : {C : Type 0} → Option (Option C) → Option C
found_call None = None
found_call (Some call) = call

-- the call that is pending at a place, if one is
abbrev pub call_at : {C : Type 0} → List (Option C) → ℕ → Option C
call_at pending place = found_call (slice_get pending place)

-- whether the call at a place had its effect. A configuration is a state, and for each place whether the call there had
-- its effect
abbrev pub had_effect : {S : Type 0} → Configuration S → ℕ → Bool
had_effect c place = slice_index_or c.done place false

-- the state after the effect of a call, if there is a call and it can have its effect
abbrev pub effect_of : {S C : Type 0} → (S → C → Option S) → S → Option C → Option S
effect_of effect state None = None
effect_of effect state (Some call) = effect state call

-- the configuration of a state and these marks, if there is a state
abbrev pub with_marks : {S : Type 0} → List Bool → Option S → Option (Configuration S)
with_marks done None = None
with_marks done (Some s) = Some (record { state = s; done = done })

-- the configuration after the effect of the call at a place. It is none if the call had its effect already, if no call
-- is pending there, or if the call would not answer as recorded
abbrev pub effect_at : {S C : Type 0} → (S → C → Option S) → List (Option C) → Configuration S → ℕ → Option (Configuration S)
effect_at effect pending c place =
    if had_effect c place then None else with_marks (slice_set c.done place true) (effect_of effect c.state (call_at pending place))

-- a configuration without the mark of a place
abbrev pub forgot_at : {S : Type 0} → Configuration S → ℕ → Configuration S
forgot_at c place = record { state = c.state; done = slice_set c.done place false }

-- a place is free
abbrev pub IsFree : {C : Type 0} → List (Option C) → ℕ → Type 0
IsFree pending place = slice_get pending place ≡ Some None

-- the configuration can pass these events. A begin adds a pending call at a free place. At an end, effects of pending
-- calls, up to that of the call that ends, must lead to a configuration in which this call had its effect. This
-- configuration, without the call's mark, must pass the remaining events
abbrev pub CanPass : {S C : Type 0} → (S → C → Option S) → List (Option C) → Configuration S → List (Event C) → Type 0
CanPass effect pending c [] = Unit {0}
CanPass effect pending c (Begins place call ∷ events) = IsFree pending place × CanPass effect (slice_set pending place (Some call)) c events
CanPass {S} effect pending c (Ends place ∷ events) =
    (next : Configuration S) × IsCarriedTo (effect_at effect pending) had_effect (length pending) place c next
    × CanPass effect (slice_set pending place None) (forgot_at next place) events

-- the state of a judge: the pending calls by their places, and the configurations that are left
pub record Standing (S C : Type 0) : Type 0 where
  pub pending : List (Option C)
  pub kept : List (Configuration S)

-- some configuration that is left can pass these events
abbrev pub CanGoOn : {S C : Type 0} → (S → C → Option S) → Standing S C → List (Event C) → Type 0
CanGoOn {S} effect standing events = (c : Configuration S) × IsKept standing.kept c × CanPass effect standing.pending c events

-- an event has passed: for any later events, the old state can go on with the event and the later ones if and only if
-- the new state can go on with the later ones
abbrev pub HasPassed : {S C : Type 0} → (S → C → Option S) → Event C → Standing S C → Standing S C → Type 0
HasPassed {S} {C} effect event standing standing' = (events : List (Event C)) → CanGoOn effect standing (event ∷ events) ↔ CanGoOn effect standing' events

-- no call is pending
abbrev pub none_pending : {C : Type 0} → List (Option C)
none_pending = replicate 64 None

-- the configuration of a state in which no place is marked
abbrev pub unmarked : {S : Type 0} → S → Configuration S
unmarked start = record { state = start; done = replicate 64 false }

-- the first state of a judge: no call is pending, and the object is in this state
abbrev pub first_standing : {S C : Type 0} → S → Standing S C
first_standing start = record { pending = none_pending; kept = unmarked start ∷ [] }

-- a call is pending at a place
abbrev pub IsPending : {C : Type 0} → List (Option C) → ℕ → Type 0
IsPending {C} pending place = (call : C) × (slice_get pending place ≡ Some (Some call))
