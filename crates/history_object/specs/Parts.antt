-- The pending calls that matter at the end of a call: its part, and the pending calls that read.
use Rattle.std.specs.Prelude.{◌≡◌, ℕ, zero, suc, Bool, true, false, List, Option, Some, None, length, slice_set, if◌then◌else◌}
use Rattle.history_object.specs.declared.configuration.Configuration.{Configuration}
use Rattle.history_object.specs.Carried.{HasMore, carry}
use Rattle.history_object.specs.Left.{AreMet, HasLeft}
use Rattle.history_object.specs.Standings.{call_at, effect_at, forgot_at, had_effect}

-- wherever call `a` and then call `b` can have their effects, `b` and then `a` can, with the same state in the end
abbrev pub MaySwap : {S C : Type 0} → (S → C → Option S) → C → C → Type 0
MaySwap {S} effect a b = (s t u : S) → effect s a ≡ Some t → effect t b ≡ Some u → (v : S) × (effect s b ≡ Some v) × (effect v a ≡ Some u)

-- calls that don't conflict may swap
abbrev pub OthersMaySwap : {S C : Type 0} → (S → C → Option S) → (C → C → Bool) → Type 0
OthersMaySwap {S} {C} effect conflict = (a b : C) → conflict a b ≡ false → MaySwap effect a b

-- each pending call that conflicts with the one at place `q` is inside
abbrev pub HasAllOf : {C : Type 0} → (C → C → Bool) → List (Option C) → ℕ → (ℕ → Bool) → Type 0
HasAllOf {C} conflict pending q inside = (p : ℕ) (a b : C) → inside p ≡ false → call_at pending p ≡ Some a → call_at pending q ≡ Some b → conflict a b ≡ false

-- no call that is pending outside of the part conflicts with one that is pending inside
abbrev pub IsPart : {C : Type 0} → (C → C → Bool) → List (Option C) → (ℕ → Bool) → Type 0
IsPart {C} conflict pending inside = (q : ℕ) → inside q ≡ true → HasAllOf conflict pending q inside

-- whether the call is there, and reads
abbrev pub reads_found : {S C : Type 0} → (S → C → Bool) → S → Option C → Bool
reads_found reads state None = false
reads_found reads state (Some call) = reads state call

-- a configuration with the mark of the call at a place, if this call reads
abbrev pub with_read : {S C : Type 0} → (S → C → Bool) → List (Option C) → Configuration S → ℕ → Configuration S
with_read reads pending c place = if had_effect c place then c
    else (if reads_found reads c.state (call_at pending place) then record { state = c.state; done = slice_set c.done place true } else c)

-- a configuration with the marks of all calls that read and are pending at places below a number
abbrev pub with_reads : {S C : Type 0} → (S → C → Bool) → List (Option C) → ℕ → Configuration S → Configuration S
with_reads reads pending zero c = c
with_reads reads pending (suc n) c = with_read reads pending (with_reads reads pending n c) n

-- a configuration, if there is one, with the marks of all pending calls that read
abbrev pub with_all_reads : {S C : Type 0} → (S → C → Bool) → List (Option C) → Option (Configuration S) → Option (Configuration S)
with_all_reads reads pending None = None
with_all_reads reads pending (Some c) = Some (with_reads reads pending (length pending) c)

-- the configuration after the effect of the call at a place, and then of all pending calls that read
abbrev pub eager_at : {S C : Type 0} → (S → C → Option S) → (S → C → Bool) → List (Option C) → Configuration S → ℕ → Option (Configuration S)
eager_at effect reads pending c place = with_all_reads reads pending (effect_at effect pending c place)

-- the configuration after the effect of a call inside the part, and then of all pending calls that read
abbrev pub part_at : {S C : Type 0} → (S → C → Option S) → (S → C → Bool) → List (Option C) → (ℕ → Bool) → Configuration S → ℕ → Option (Configuration S)
part_at effect reads pending inside c place = if inside place then eager_at effect reads pending c place else None

-- a part that has the call at this place
pub record IsPartOf {C : Type 0} (conflict : C → C → Bool) (pending : List (Option C)) (place : ℕ) (inside : ℕ → Bool) : Type 0 where
  pub own : inside place ≡ true
  pub apart : IsPart conflict pending inside

-- the result of the end of the call at a place: a part was carried on that has this call
abbrev pub IsLeft : {S C : Type 0} → (S → C → Option S) → (S → C → Bool) → (C → C → Bool) → List (Option C) → ℕ → List (Configuration S)
    → List (Configuration S) → Option (List (Configuration S)) → Type 0
IsLeft effect reads conflict pending place kept left met = (inside : ℕ → Bool) × IsPartOf conflict pending place inside
    × HasLeft (part_at effect reads pending inside) had_effect forgot_at (length pending) place kept left met

-- the configurations that are left at the end of the call at a place
abbrev pub AreLeft : {S C : Type 0} → (S → C → Option S) → (S → C → Bool) → (C → C → Bool) → List (Option C) → ℕ → List (Configuration S)
    → List (Configuration S) → Type 0
AreLeft {S} effect reads conflict pending place kept left = (met : Option (List (Configuration S))) × IsLeft effect reads conflict pending place kept left met

-- the configurations that are met at the end of the call at a place: the kept ones, and those to which effects in a
-- part lead that has this call
abbrev pub AreMetAtEnd : {S C : Type 0} → (S → C → Option S) → (S → C → Bool) → (C → C → Bool) → List (Option C) → ℕ → List (Configuration S)
    → List (Configuration S) → Type 0
AreMetAtEnd effect reads conflict pending place kept met = (inside : ℕ → Bool) × IsPartOf conflict pending place inside
    × AreMet (carry (part_at effect reads pending inside) had_effect place) (length pending) kept met

-- more than `most` configurations are met at the end of the call at a place
abbrev pub HasMoreMet : {S C : Type 0} → (S → C → Option S) → (S → C → Bool) → (C → C → Bool) → List (Option C) → ℕ → List (Configuration S) → ℕ → Type 0
HasMoreMet effect reads conflict pending place kept most = (inside : ℕ → Bool) × IsPartOf conflict pending place inside
    × HasMore (carry (part_at effect reads pending inside) had_effect place) (length pending) kept most
