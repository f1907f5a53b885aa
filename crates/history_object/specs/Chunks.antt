-- The bytes of an object, kept in chunks of 64. A list of chunks is in the order of their numbers, each number once.
use Rattle.std.specs.Prelude.{ℕ, suc, ◌+◌, ◌/◌, ◌%◌, List, [], ◌∷◌, ◌++◌, if◌then◌else◌, nat_eq, nat_lt, replicate, slice_index, slice_set, take}
use Rattle.history_object.specs.declared.chunk.Chunk.{Chunk}

-- the place of the first chunk whose number is at least this one
abbrev pub index_of : ℕ → List Chunk → ℕ
index_of number [] = 0
index_of number (chunk ∷ chunks) = if nat_lt chunk.number number then suc (index_of number chunks) else 0

-- the bytes of the chunk with this number, or none if there is no such chunk
abbrev pub kept_bytes : ℕ → List Chunk → List ℕ
kept_bytes number [] = []
kept_bytes number (chunk ∷ chunks) =
    if nat_lt chunk.number number then kept_bytes number chunks else (if nat_eq chunk.number number then chunk.bytes else [])

-- `n` zeros
unfoldable pub zeros : ℕ → List ℕ
zeros n = replicate n 0

-- the 64 bytes of a chunk: the kept bytes, followed by zeros
unfoldable pub chunk_bytes : ℕ → List Chunk → List ℕ
chunk_bytes number chunks = take 64 (kept_bytes number chunks ++ zeros 64)

-- the chunks with this chunk inserted in order. If there is a chunk of this number, it is replaced
abbrev pub with_chunk : ℕ → List ℕ → List Chunk → List Chunk
with_chunk number bytes [] = record { number = number; bytes = bytes } ∷ []
with_chunk number bytes (chunk ∷ chunks) =
    if nat_lt chunk.number number then chunk ∷ with_chunk number bytes chunks
    else (if nat_eq chunk.number number then record { number = number; bytes = bytes } ∷ chunks else record { number = number; bytes = bytes } ∷ chunk ∷ chunks)

-- the byte at an offset
unfoldable pub byte_at : List Chunk → ℕ → ℕ
byte_at chunks offset = slice_index (chunk_bytes (offset / 64) chunks) (offset % 64)

-- the chunks with another byte at an offset
unfoldable pub with_byte : List Chunk → ℕ → ℕ → List Chunk
with_byte chunks offset byte = with_chunk (offset / 64) (slice_set (chunk_bytes (offset / 64) chunks) (offset % 64) byte) chunks

-- the chunks with other bytes from an offset on
abbrev pub stored : List Chunk → ℕ → List ℕ → List Chunk
stored chunks offset [] = chunks
stored chunks offset (byte ∷ bytes) = stored (with_byte chunks offset byte) (offset + 1) bytes
