-- The configurations to which stores lead. Each part of an object that is set aside is a list of stores, of which one
-- has its effect.
use Rattle.std.specs.Prelude.{◌≡◌, ◌↔◌, ℕ, ◌<◌, List, [], ◌∷◌, ◌++◌, Option, Some, None, length}
use Rattle.states_pool.specs.Pool.{HasEachOnce}
use Rattle.history_object.specs.declared.configuration.Configuration.{Configuration}
use Rattle.history_object.specs.Carried.{IsKept}
use Rattle.history_object.specs.Standings.{with_marks}

-- the value as a list, if there is one
abbrev pub listed : {X : Type 0} → Option X → List X
listed None = []
listed (Some x) = x ∷ []

-- the configurations after each of the calls alone
abbrev pub after_each : {S C : Type 0} → (S → C → Option S) → Configuration S → List C → List (Configuration S)
after_each effect c [] = []
after_each effect c (call ∷ calls) = listed (with_marks c.done (effect c.state call)) ++ after_each effect c calls

-- the configurations after one of the calls, from one of these configurations
abbrev pub product : {S C : Type 0} → (S → C → Option S) → List (Configuration S) → List C → List (Configuration S)
product effect [] calls = []
product effect (c ∷ kept) calls = after_each effect c calls ++ product effect kept calls

-- the configurations after one call of each list, from one of these configurations
abbrev pub products : {S C : Type 0} → (S → C → Option S) → List (Configuration S) → List (List C) → List (Configuration S)
products effect kept [] = kept
products effect kept (calls ∷ more) = products effect (product effect kept calls) more

-- configuration `d` is `c` after the effect of a call, with the same marks
abbrev pub IsStored : {S C : Type 0} → (S → C → Option S) → C → Configuration S → Configuration S → Type 0
IsStored effect call c d = (effect c.state call ≡ Some d.state) × (d.done ≡ c.done)

-- configuration `d` is `c` after one of the calls
abbrev pub IsAfterOne : {S C : Type 0} → (S → C → Option S) → List C → Configuration S → Configuration S → Type 0
IsAfterOne {S} {C} effect calls c d = (call : C) × IsKept calls call × IsStored effect call c d

-- configuration `d` is one of the kept ones after one of the calls
abbrev pub IsOfProduct : {S C : Type 0} → (S → C → Option S) → List (Configuration S) → List C → Configuration S → Type 0
IsOfProduct {S} {C} effect kept calls d = (c : Configuration S) × (call : C) × IsKept kept c × IsKept calls call × IsStored effect call c d

-- the two lists have the same configurations
abbrev pub AreSame : {X : Type 0} → List X → List X → Type 0
AreSame {X} xs ys = (x : X) → IsKept xs x ↔ IsKept ys x

-- the list has more than `most` different elements
abbrev pub HasMoreThan : {X : Type 0} → ℕ → List X → Type 0
HasMoreThan {X} most xs = (some : List X) × HasEachOnce some × (most < length some) × ((x : X) → IsKept some x → IsKept xs x)
