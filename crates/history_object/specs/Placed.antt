-- The events of a history by places, and what a judge of them reports about the orders that explain the history.
use Rattle.std.specs.Prelude.{◌≡◌, ◌↔◌, ℕ, suc, List, [], ◌∷◌, Option, Some, None, replicate, slice_get, slice_set}
use Rattle.history_object.specs.Orders.{Explains, NumberedEvent, CallBegins, CallEnds}
use Rattle.history_object.specs.Standings.{CanGoOn, Event, Begins, Ends, HasPassed, Standing, effect_of, first_standing}

-- the events by places are the events by numbers, for these calls. `begun` calls have begun before, and `taken` has for
-- each place the number of its call, or none. A call takes a free place, and has it until the call's end
abbrev pub ArePlaced : {C : Type 0} → List C → ℕ → List (Option ℕ) → List NumberedEvent → List (Event C) → Type 0
ArePlaced calls begun taken [] [] = Unit {0}
ArePlaced calls begun taken (CallBegins ∷ events) (Begins place call ∷ placed) =
    (slice_get taken place ≡ Some None) × (slice_get calls begun ≡ Some call) × ArePlaced calls (suc begun) (slice_set taken place (Some begun)) events placed
ArePlaced calls begun taken (CallEnds i ∷ events) (Ends place ∷ placed) =
    (slice_get taken place ≡ Some (Some i)) × ArePlaced calls begun (slice_set taken place None) events placed
ArePlaced calls begun taken events placed = ⊥

-- no place is taken
abbrev pub none_taken : List (Option ℕ)
none_taken = replicate 64 None

-- the state after the effect of the call with this number, if the call can have its effect
abbrev pub numbered_effect : {S C : Type 0} → (S → C → Option S) → List C → S → ℕ → Option S
numbered_effect effect calls state n = effect_of effect state (slice_get calls n)

-- a judge can go on with the events of a history by places if and only if some order of effects explains the history
abbrev pub JudgeTells : {S C : Type 0} → (S → C → Option S) → Type 0
JudgeTells {S} {C} effect = (start : S) (calls : List C) (events : List NumberedEvent) (placed : List (Event C)) → ArePlaced calls 0 none_taken events placed
    → CanGoOn effect (first_standing start) placed ↔ ((order : List ℕ) × Explains (numbered_effect effect calls) start events order)

-- these events have passed, one after another
abbrev pub HavePassed : {S C : Type 0} → (S → C → Option S) → List (Event C) → Standing S C → Standing S C → Type 0
HavePassed effect [] standing standing' = standing ≡ standing'
HavePassed {S} {C} effect (event ∷ events) standing standing' =
    (next : Standing S C) × HasPassed effect event standing next × HavePassed effect events next standing'

-- a judge that has taken the events of a history has a configuration left if and only if some order of effects explains
-- the history
abbrev pub JudgeExplains : {S C : Type 0} → (S → C → Option S) → Type 0
JudgeExplains {S} {C} effect = (start : S) (calls : List C) (events : List NumberedEvent) (placed : List (Event C)) (standing : Standing S C)
    → ArePlaced calls 0 none_taken events placed → HavePassed effect placed (first_standing start) standing
    → CanGoOn effect standing [] ↔ ((order : List ℕ) × Explains (numbered_effect effect calls) start events order)
