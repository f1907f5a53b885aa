-- The bytes that a device returned and that weren't read yet.
use Rattle.std.specs.Prelude.{◌≡◌, ℕ, ◌≤◌, Bool, true, false, List, [], Option, length}
use Rattle.std.specs.Io.KnownBytes.{Consumes, IsAtEnd}

-- the range from `start` to `end` is within the buffer, and the buffer isn't empty
pub record AreWithin (buffer : List ℕ) (start end : ℕ) : Type 0 where
  pub room : 1 ≤ length buffer
  pub in_order : start ≤ end
  pub within : end ≤ length buffer

-- these bytes were read: at least one if `some` is true, and otherwise none, because the input is at its end
pub record HasBytes (bytes : List ℕ) (left left' : Option (List ℕ)) (some : Bool) : Type 0 where
  pub taken : Consumes left left' bytes
  pub is_some : some ≡ true → 1 ≤ length bytes
  pub is_none : some ≡ false → (bytes ≡ []) × IsAtEnd left'
