-- The reference memory, called plain memory in the code: separate objects by serial, without spans, pages or meshing.
-- What a heap owes its users is this project's own choice.
use Rattle.std.specs.Prelude.{◌≡◌, ℕ, ◌+◌, Bool, true, false, ◌&&◌, if◌then◌else◌, nat_le, nat_lt, List, [], ◌∷◌, ◌++◌, Option, Some, None, length, replicate, slice_index_or, slice_set, take, drop}

-- a live object: its address and its bytes, at least one
pub record Object : Type 0 where
  pub address : ℕ
  pub bytes : List ℕ

-- the objects by serial, `None` for a freed object, and the serial in each root cell, `None` for an empty cell
pub record Memory : Type 0 where
  pub objects : List (Option Object)
  pub roots : List (Option ℕ)

-- the memory with no object, whose 256 cells are empty
abbrev pub empty_memory : Memory
empty_memory = record { objects = []; roots = replicate 256 None }

-- the serial of the next object
abbrev pub next_serial : Memory → ℕ
next_serial m = length m.objects

-- the live object of a serial, if there is one
abbrev pub object_of : Memory → ℕ → Option Object
object_of m serial = slice_index_or m.objects serial None

-- the serial that a cell holds, if there is one
abbrev pub root_of : Memory → ℕ → Option ℕ
root_of m cell = slice_index_or m.roots cell None

-- whether the address is in the object's range
abbrev pub has_address : Object → ℕ → Bool
has_address object address = nat_le object.address address && nat_lt address (object.address + length object.bytes)

-- the two objects have no address in common
abbrev pub are_apart : Object → Object → Type 0
are_apart x y = (address : ℕ) → has_address x address ≡ true → has_address y address ≡ false

-- the serial of the first live object in the list that has the address, if there is one; the list begins with the
-- object of `serial`
abbrev pub holder_from : ℕ → List (Option Object) → ℕ → Option ℕ
holder_from serial [] address = None
holder_from serial (None ∷ objects) address = holder_from (serial + 1) objects address
holder_from serial (Some object ∷ objects) address = if has_address object address then Some serial else holder_from (serial + 1) objects address

-- the serial of the first live object that has the address, if there is one
abbrev pub holder_of : Memory → ℕ → Option ℕ
holder_of m address = holder_from 0 m.objects address

-- the bytes with `new` written over them from an offset on
abbrev pub overwritten : List ℕ → ℕ → List ℕ → List ℕ
overwritten bytes off new = take off bytes ++ new ++ drop (off + length new) bytes

-- the memory with another object, or none, at a serial
abbrev pub with_object : Memory → ℕ → Option Object → Memory
with_object m serial object = record m { objects = slice_set m.objects serial object }

-- the memory with a new object of `len` zeros, which no cell names
abbrev pub with_new : Memory → ℕ → ℕ → Memory
with_new m len address = record m { objects = m.objects ++ Some (record { address = address; bytes = replicate len 0 }) ∷ [] }

-- the memory with another serial in a cell
abbrev pub with_root : Memory → ℕ → ℕ → Memory
with_root m cell serial = record m { roots = slice_set m.roots cell (Some serial) }
