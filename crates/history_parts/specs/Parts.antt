-- The parts of an object that are set aside.
use Rattle.std.specs.Prelude.{◌≡◌, ℕ, Bool, false, List, Option, map}
use Rattle.history_object.specs.declared.access.Access.{Access}
use Rattle.history_object.specs.declared.configuration.Configuration.{Configuration}
use Rattle.history_object.specs.Carried.{IsKept}
use Rattle.history_object.specs.Following.{HasMoreAtEnd, IsRefutedOf, TimedStanding}
use Rattle.history_object.specs.ObjectBytes.{State, conflict, effect, reads}
use Rattle.history_object.specs.Standings.{Standing}
use Rattle.history_object.specs.declared.refutation.Refutation.{Refutation}
use Rattle.history_parts.specs.declared.part.Part.{Part}
use Rattle.history_parts.specs.Aside.{AllApart, AllPossible, AllSteady, AreApart, IsApartFrom, ListsApart}
use Rattle.history_parts.specs.Products.{AreSame, HasMoreThan, products}

-- the stores of each part
abbrev pub stores_of : List Part → List (List Access)
stores_of parts = map (λ (part : Part). part.stores.items) parts

-- the state of the judge of the whole object: each configuration that is left, after one store of each part
abbrev pub whole : TimedStanding State Access → List Part → TimedStanding State Access
whole judge parts = record {
  standing = record { pending = judge.standing.pending; kept = products effect judge.standing.kept (stores_of parts) };
  numbers = judge.numbers;
}

-- parts beside these configurations: their effects may be in any order, each has some store, and each store can have
-- its effect in each configuration, whatever other effects there are
pub record AreAside (kept : List (Configuration State)) (lists : List (List Access)) : Type 0 where
  pub apart : AllApart effect lists
  pub steady : AllSteady effect lists
  pub possible : AllPossible effect kept lists
  pub some : (stores : List Access) → IsKept lists stores → (store : Access) × IsKept stores store

-- no store of a part conflicts with a pending access
abbrev pub AreFree : List (Option Access) → List (List Access) → Type 0
AreFree pending lists = (stores : List Access) (store : Access) → IsKept lists stores → IsKept stores store → IsApartFrom effect pending store

-- no store conflicts with a store of one of these lists
abbrev pub AreBeside : List Access → List (List Access) → Type 0
AreBeside stores lists = (more : List Access) → IsKept lists more → ListsApart effect more stores

-- the judge of the whole object is the same, but for the order of its configurations, and for how often it has one
pub record IsSameWhole (old new : TimedStanding State Access) (parts parts' : List Part) : Type 0 where
  pub pending : new.standing.pending ≡ old.standing.pending
  pub numbers : new.numbers ≡ old.numbers
  pub kept : AreSame (products effect old.standing.kept (stores_of parts)) (products effect new.standing.kept (stores_of parts'))

-- an access conflicts with no store of these lists
abbrev pub IsApartFromAll : Access → List (List Access) → Type 0
IsApartFromAll access lists = (stores : List Access) (store : Access) → IsKept lists stores → IsKept stores store → AreApart effect access store

-- the parts are beside the configurations, and if no access has called one of them, no pending access conflicts with
-- their stores
pub record HasParts (standing : Standing State Access) (parts : List Part) (called : Bool) : Type 0 where
  pub aside : AreAside standing.kept (stores_of parts)
  pub free : called ≡ false → AreFree standing.pending (stores_of parts)

-- the refutation has the access that was pending under this number, and the configurations that were met at its end.
-- The judge's configurations are those that were kept then, after one store of each part; no pending access conflicts
-- with a store of a part
pub record IsRefutedBeside {O : Type 0} (old : TimedStanding State Access) (number : ℕ) (refutation : Refutation O State Access) : Type 0 where
  pub kept : List (Configuration State)
  pub lists : List (List Access)
  pub same : AreSame old.standing.kept (products effect kept lists)
  pub aside : AreAside kept lists
  pub free : AreFree old.standing.pending lists
  pub refuted : IsRefutedOf effect reads conflict (record { standing = record { pending = old.standing.pending; kept = kept }; numbers = old.numbers })
      number refutation

-- after some parts were joined, more than `most` configurations are kept beside the other parts
pub record HasMoreJoined (old : List (Configuration State)) (most : ℕ) : Type 0 where
  pub kept : List (Configuration State)
  pub lists : List (List Access)
  pub same : AreSame old (products effect kept lists)
  pub aside : AreAside kept lists
  pub many : HasMoreThan most kept

-- more than `most` configurations are met at the end of the access with this number, beside the parts with which no
-- pending access conflicts
pub record HasMoreBeside (old : TimedStanding State Access) (number most : ℕ) : Type 0 where
  pub kept : List (Configuration State)
  pub lists : List (List Access)
  pub same : AreSame old.standing.kept (products effect kept lists)
  pub aside : AreAside kept lists
  pub free : AreFree old.standing.pending lists
  pub many : HasMoreAtEnd effect reads conflict (record { standing = record { pending = old.standing.pending; kept = kept }; numbers = old.numbers }) number most
