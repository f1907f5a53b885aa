-- What it means that one configuration can do what another can.
use Rattle.std.specs.Prelude.{◌≡◌, ◌⊎◌, ℕ, true, List, [], ◌∷◌, Option, Some, length}
use Rattle.history_object.specs.Reads.{OnlyReads}
use Rattle.history_object.specs.declared.configuration.Configuration.{Configuration}
use Rattle.history_object.specs.Carried.{IsReachable}
use Rattle.history_object.specs.Standings.{CanPass, Event, call_at, effect_at, had_effect}

-- a call that only reads is pending at the place
abbrev pub IsReader : {S C : Type 0} → (S → C → Option S) → List (Option C) → ℕ → Type 0
IsReader {S} {C} effect pending place = (call : C) × (call_at pending place ≡ Some call) × OnlyReads effect call

-- a call that only reads is pending at each place
abbrev pub AreReaders : {S C : Type 0} → (S → C → Option S) → List (Option C) → List ℕ → Type 0
AreReaders effect pending [] = Unit {0}
AreReaders effect pending (place ∷ places) = IsReader effect pending place × AreReaders effect pending places

-- configuration `d` covers `c`: it has the same state, and the same marks but for more marks of pending calls that only
-- read
pub record Covers {S C : Type 0} (effect : S → C → Option S) (pending : List (Option C)) (d c : Configuration S) : Type 0 where
  pub states : d.state ≡ c.state
  pub long : length d.done ≡ length c.done
  pub marks : (place : ℕ) → (had_effect d place ≡ had_effect c place) ⊎ ((had_effect d place ≡ true) × IsReader effect pending place)

-- configuration `d` serves for `c`: effects of pending calls lead from `d` to a configuration that covers `c`
abbrev pub Serves : {S C : Type 0} → (S → C → Option S) → List (Option C) → Configuration S → Configuration S → Type 0
Serves {S} effect pending d c = (e : Configuration S) × IsReachable (effect_at effect pending) (length pending) d e × Covers effect pending e c

-- a configuration that serves for another can pass all that the other can
abbrev pub ServingPasses : {S C : Type 0} → (S → C → Option S) → Type 0
ServingPasses {S} {C} effect = (pending : List (Option C)) (d c : Configuration S) (events : List (Event C))
    → Serves effect pending d c → CanPass effect pending c events → CanPass effect pending d events
