-- The live objects, each at a place.
use Rattle.std.specs.Prelude.{◌≡◌, ℕ, ◌≤◌, if◌then◌else◌, nat_eq, List, [], ◌∷◌, Option, Some, None, length, slice_get}
use Rattle.savings_replay.specs.declared.objects.Object.{Object}
use Rattle.savings_replay.specs.declared.live.Place.{Place}
use Rattle.savings_replay.specs.declared.live.Place.TheVariants.{Full, Vacant}

-- what a contract sees of `LiveObjects`: the places, and the number above those of all objects so far
pub record LiveObjects : Type 0 where
  pub list : List Place
  pub next : ℕ

-- the object with this number, if it is at the place
abbrev pub object_with : ℕ → Place → Option Object
object_with number (Vacant before) = None
object_with number (Full n object) = if nat_eq n number then Some object else None

abbrev pub object_at : ℕ → Option Place → Option Object
object_at number None = None
object_at number (Some place) = object_with number place

-- the live object with this number, if it is at this place
abbrev pub at : ℕ → ℕ → List Place → Option Object
at place number list = object_at number (slice_get list place)

-- the first of two objects, if there is one
abbrev pub first_of : Option Object → Option Object → Option Object
first_of None other = other
first_of (Some object) other = Some object

-- the live object with this number, if there is one
abbrev pub found : ℕ → List Place → Option Object
found number [] = None
found number (place ∷ places) = first_of (object_with number place) (found number places)

-- a place has no object, or one whose number no object of the list has
abbrev pub IsNew : Place → List Place → Type 0
IsNew (Vacant before) places = Unit {0}
IsNew (Full n object) places = found n places ≡ None

-- no two objects have the same number
abbrev pub AreApart : List Place → Type 0
AreApart [] = Unit {0}
AreApart (place ∷ places) = IsNew place places × AreApart places

-- no two objects have the same number, all numbers are below `next`, and there are at most so many places
pub record IsSound (list : List Place) (next : ℕ) : Type 0 where
  pub apart : AreApart list
  pub below : (number : ℕ) → next ≤ number → found number list ≡ None
  pub few : length list ≤ next
