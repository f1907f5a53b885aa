-- What a copy in the reference memory reads and writes, and what it doesn't change.
use Rattle.std.specs.Prelude.{◌≡◌, ◌≢◌, ◌⊎◌, ℕ, ◌+◌, ◌<◌, ◌≤◌, Some, length, slice_index}
use Rattle.model_memory.specs.Memory.{Memory, Object, next_serial, object_of}
use Rattle.model_memory.specs.Plain.{Named, copied}

-- the object that is written is live, and both ranges are within their objects
pub record MayCopy (m : Memory) (to : Named) (to_off : ℕ) (from : Named) (from_off len : ℕ) : Type 0 where
  pub live : object_of m to.serial ≡ Some to.object
  pub fits : to_off + len ≤ length to.object.bytes
  pub has : from_off + len ≤ length from.object.bytes

-- the written range has the bytes that the source's range had before the copy, and nothing else has changed
pub record IsCopied (m n : Memory) (to : Named) (to_off : ℕ) (from : Named) (from_off len : ℕ) : Type 0 where
  pub object : Object
  pub live : object_of n to.serial ≡ Some object
  pub address : object.address ≡ to.object.address
  pub long : length object.bytes ≡ length to.object.bytes
  pub taken : (k : ℕ) → k < len → slice_index object.bytes (to_off + k) ≡ slice_index from.object.bytes (from_off + k)
  pub rest : (k : ℕ) → (k < to_off) ⊎ (to_off + len ≤ k) → slice_index object.bytes k ≡ slice_index to.object.bytes k
  pub others : (serial : ℕ) → serial ≢ to.serial → object_of n serial ≡ object_of m serial
  pub roots : n.roots ≡ m.roots
  pub next : next_serial n ≡ next_serial m

-- if a copy's destination is live and both ranges are within their objects, the copy writes the bytes that the source's
-- range had before, and changes nothing else. Source and destination may be one object
abbrev pub CopyTakesOldBytes : Type 0
CopyTakesOldBytes = (m : Memory) (to : Named) (to_off : ℕ) (from : Named) (from_off len : ℕ) → MayCopy m to to_off from from_off len
    → IsCopied m (copied m to to_off from from_off len) to to_off from from_off len
