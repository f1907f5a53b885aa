-- Configurations that are split into stores to a range and the configurations without them.
use Rattle.std.specs.Prelude.{◌≡◌, ◌≤◌, ◌+◌, ℕ, List, length}
use Rattle.arrayvec.specs.ArrayVec.{ArrayVec}
use Rattle.history_object.specs.declared.access.Access.{Access}
use Rattle.history_object.specs.declared.access.Access.TheVariants.{Store}
use Rattle.history_object.specs.declared.configuration.Configuration.{Configuration}
use Rattle.history_object.specs.Carried.{IsKept}
use Rattle.history_object.specs.ObjectBytes.{State, bytes_of, effect}
use Rattle.history_parts.specs.Aside.{IsPossible, IsSteady}
use Rattle.history_parts.specs.Products.{AreSame, IsStored, product}

-- a range of bytes is within the object, in each of these configurations
abbrev pub Fits : List (Configuration State) → ℕ → ℕ → Type 0
Fits kept off len = (c : Configuration State) → IsKept kept c → off + len ≤ length (bytes_of c.state)

-- the access is a store to a range
abbrev pub IsStoreTo : ℕ → ℕ → Access → Type 0
IsStoreTo off len access = (bytes : ArrayVec ℕ) × (access ≡ Store off bytes) × (length bytes.items ≡ len)

-- each access is a store to a range
abbrev pub AreStoresTo : ℕ → ℕ → List Access → Type 0
AreStoresTo off len accesses = (access : Access) → IsKept accesses access → IsStoreTo off len access

-- each configuration is one of the kept ones after the effect of an access
abbrev pub AreAfter : List (Configuration State) → List (Configuration State) → Type 0
AreAfter kept rest = (d : Configuration State) → IsKept rest d → (c : Configuration State) × (access : Access) × IsKept kept c × IsStored effect access c d

-- the kept configurations are exactly the rest after one of the stores
pub record IsSplit (kept rest : List (Configuration State)) (stores : List Access) : Type 0 where
  pub same : AreSame kept (product effect rest stores)
  pub after : AreAfter kept rest
  pub steady : (store : Access) → IsKept stores store → IsSteady effect store
  pub possible : (c : Configuration State) (store : Access) → IsKept rest c → IsKept stores store → IsPossible effect c.state store
  pub some : (store : Access) × IsKept stores store
