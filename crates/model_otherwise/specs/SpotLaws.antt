-- Which bytes the spots have after a store and after a copy.
use Rattle.std.specs.Prelude.{◌≡◌, ℕ, ◌+◌, ◌-◌, ◌<◌, ◌≤◌, ◌⊎◌, List, length, slice_index}
use Rattle.model_otherwise.specs.Spots.{byte_at, copied, stored, zeroed}
use Rattle.model_otherwise.specs.declared.spot.Spot.{Spot}

-- the place isn't among the `len` places from `start` on
abbrev pub IsOutside : ℕ → ℕ → ℕ → Type 0
IsOutside start len place = (place < start) ⊎ (start + len ≤ place)

-- a stored byte is found
abbrev pub StoredBytesAreFound : Type 0
StoredBytesAreFound = (spots : List Spot) (start : ℕ) (bytes : List ℕ) (place : ℕ) → start ≤ place → place < start + length bytes
    → byte_at (stored spots start bytes) place ≡ slice_index bytes (place - start)

-- a store changes no other byte
abbrev pub StoresChangeNoOther : Type 0
StoresChangeNoOther = (spots : List Spot) (start : ℕ) (bytes : List ℕ) (place : ℕ) → IsOutside start (length bytes) place
    → byte_at (stored spots start bytes) place ≡ byte_at spots place

-- bytes that become zero are zero
abbrev pub ZeroedBytesAreZero : Type 0
ZeroedBytesAreZero = (spots : List Spot) (start len place : ℕ) → start ≤ place → place < start + len → byte_at (zeroed spots start len) place ≡ 0

-- no other byte changes
abbrev pub ZeroesChangeNoOther : Type 0
ZeroesChangeNoOther = (spots : List Spot) (start len place : ℕ) → IsOutside start len place → byte_at (zeroed spots start len) place ≡ byte_at spots place

-- a copied byte is that of the place from which it is copied
abbrev pub CopiedBytesAreFound : Type 0
CopiedBytesAreFound = (spots : List Spot) (to from len place : ℕ) → to ≤ place → place < to + len
    → byte_at (copied spots to from len) place ≡ byte_at spots (from + (place - to))

-- a copy changes no other byte
abbrev pub CopiesChangeNoOther : Type 0
CopiesChangeNoOther = (spots : List Spot) (to from len place : ℕ) → IsOutside to len place → byte_at (copied spots to from len) place ≡ byte_at spots place
