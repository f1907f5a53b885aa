-- The bytes of an object, stored in chunks of 64 by number.
use Rattle.std.specs.Prelude.{◌≡◌, ◌≢◌, ℕ, ◌/◌, ◌%◌, List, Option, Some, None, map, replicate, slice_index, take}
use Rattle.std.specs.List.{range_with_len}
use Rattle.model_memory.specs.Memory.{overwritten}

-- the bytes of a chunk, or 64 zeros if it isn't stored
unfoldable pub chunk_bytes : Option (List ℕ) → List ℕ
chunk_bytes None = replicate 64 0
chunk_bytes (Some bytes) = bytes

-- the byte at an offset
unfoldable pub byte_in : (ℕ → Option (List ℕ)) → ℕ → ℕ
byte_in chunk k = slice_index (chunk_bytes (chunk (k / 64))) (k % 64)

-- the first `len` bytes
unfoldable pub bytes_in : (ℕ → Option (List ℕ)) → ℕ → List ℕ
bytes_in chunk len = map (byte_in chunk) (range_with_len 0 len)

-- `g` has these bytes for the chunk `number`, and what `f` has for each other chunk
abbrev pub IsSetAt : (ℕ → Option (List ℕ)) → (ℕ → Option (List ℕ)) → ℕ → List ℕ → Type 0
IsSetAt f g number bytes = (g number ≡ Some bytes) × ((q : ℕ) → q ≢ number → g q ≡ f q)

-- `new` is `old` with a prefix of the bytes stored from offset `start` on
abbrev pub IsPartlyStored : List ℕ → List ℕ → ℕ → List ℕ → Type 0
IsPartlyStored old new start bytes = (k : ℕ) × (new ≡ overwritten old start (take k bytes))
