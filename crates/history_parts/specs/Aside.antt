-- Stores that are set aside: what makes their effects independent of pending calls and of one another.
use Rattle.std.specs.Prelude.{◌≡◌, ◌↔◌, ℕ, List, [], ◌∷◌, Option, Some}
use Rattle.history_object.specs.declared.configuration.Configuration.{Configuration}
use Rattle.history_object.specs.Carried.{IsKept}
use Rattle.history_object.specs.Parts.{MaySwap}
use Rattle.history_object.specs.Standings.{call_at}

-- the call can have its effect in the state
abbrev pub IsPossible : {S C : Type 0} → (S → C → Option S) → S → C → Type 0
IsPossible {S} effect state call = (next : S) × (effect state call ≡ Some next)

-- no effect changes whether the call can have its effect
abbrev pub IsSteady : {S C : Type 0} → (S → C → Option S) → C → Type 0
IsSteady {S} {C} effect call = (s t : S) (other : C) → effect s other ≡ Some t → IsPossible effect s call ↔ IsPossible effect t call

-- no effect changes whether a call of these lists can have its effect
abbrev pub AllSteady : {S C : Type 0} → (S → C → Option S) → List (List C) → Type 0
AllSteady {S} {C} effect lists = (calls : List C) (call : C) → IsKept lists calls → IsKept calls call → IsSteady effect call

-- each call of these lists can have its effect in each of the configurations
abbrev pub AllPossible : {S C : Type 0} → (S → C → Option S) → List (Configuration S) → List (List C) → Type 0
AllPossible {S} {C} effect kept lists = (c : Configuration S) (calls : List C) (call : C) → IsKept kept c → IsKept lists calls → IsKept calls call
    → IsPossible effect c.state call

-- the effects of the two calls may be in either order
abbrev pub AreApart : {S C : Type 0} → (S → C → Option S) → C → C → Type 0
AreApart effect a b = MaySwap effect a b × MaySwap effect b a

-- the effect of the call and that of each pending call may be in either order
abbrev pub IsApartFrom : {S C : Type 0} → (S → C → Option S) → List (Option C) → C → Type 0
IsApartFrom {S} {C} effect pending call = (place : ℕ) (other : C) → call_at pending place ≡ Some other → AreApart effect other call

-- the effects of any call of the one list and of any call of the other one may be in either order
abbrev pub ListsApart : {S C : Type 0} → (S → C → Option S) → List C → List C → Type 0
ListsApart {S} {C} effect calls more = (a b : C) → IsKept calls a → IsKept more b → AreApart effect a b

-- any two of the lists are apart
abbrev pub AllApart : {S C : Type 0} → (S → C → Option S) → List (List C) → Type 0
AllApart effect [] = Unit {0}
AllApart {S} {C} effect (calls ∷ lists) = ((more : List C) → IsKept lists more → ListsApart effect calls more) × AllApart effect lists
