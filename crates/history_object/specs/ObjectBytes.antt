-- The bytes of an object: the effects of accesses on the bytes, and on the chunks that represent them.
use Rattle.std.specs.Prelude.{◌≡◌, ℕ, Bool, true, false, ◌+◌, not, ◌&&◌, if◌then◌else◌, List, [], Option, Some, None, length, map, nat_eq, nat_lt, option_map, slice_range}
use Rattle.std.specs.List.{range_with_len}
use Rattle.std.specs.Str.{bytes_eq}
use Rattle.model_memory.specs.Memory.{overwritten}
use Rattle.model_intervals.specs.Objects.{ends_past}
use Rattle.history_object.specs.declared.access.Access.{Access}
use Rattle.history_object.specs.declared.access.Access.TheVariants.{Store, Load, Nothing, Elsewhere}
use Rattle.history_object.specs.declared.chunk.Chunk.{Chunk}
use Rattle.history_object.specs.Chunks.{byte_at, stored}

-- the number of bytes of an object, and the chunks in which a byte was stored
pub record State : Type 0 where
  pub len : ℕ
  pub chunks : List Chunk

-- the state of an object of `len` zeros, without chunks
abbrev pub first_state : ℕ → State
first_state len = record { len = len; chunks = [] }

-- all bytes of an object
unfoldable pub bytes_of : State → List ℕ
bytes_of state = map (byte_at state.chunks) (range_with_len 0 state.len)

-- the bytes after an access, or None if the recorded answer isn't the one that these bytes give
abbrev pub accessed_by : Access → List ℕ → Option (List ℕ)
accessed_by (Store off new) bytes = if ends_past bytes off (length new.items) then None else Some (overwritten bytes off new.items)
accessed_by (Load off len answered) bytes =
    if nat_eq len (length answered.items) && (not (ends_past bytes off (length answered.items))
    && bytes_eq answered.items (slice_range bytes off (off + length answered.items))) then Some bytes else None
accessed_by Nothing bytes = Some bytes
accessed_by (Elsewhere address) bytes = None

-- whether the state answers a load of `len` bytes from an offset on with exactly these bytes
abbrev pub answers : State → ℕ → ℕ → List ℕ → Bool
answers state off len answered = nat_eq len (length answered) && (not (ends_past (bytes_of state) off (length answered))
    && bytes_eq answered (slice_range (bytes_of state) off (off + length answered)))

-- the state after an access, or None if the recorded answer isn't the one that this state gives
abbrev pub effect : State → Access → Option State
effect state (Store off new) =
    if ends_past (bytes_of state) off (length new.items) then None else Some (record { len = state.len; chunks = stored state.chunks off new.items })
effect state (Load off len answered) =
    if answers state off len answered.items then Some state else None
effect state Nothing = Some state
effect state (Elsewhere address) = None

-- an access changes the bytes of a state as `accessed_by` does
abbrev pub EffectIsAccess : Type 0
EffectIsAccess = (state : State) (access : Access) → option_map bytes_of (effect state access) ≡ accessed_by access (bytes_of state)

-- whether an access reads and changes no byte of a state, and its answer is the recorded one
abbrev pub reads : State → Access → Bool
reads state (Store off new) = false
reads state (Load off len answered) = answers state off len answered.items
reads state Nothing = true
reads state (Elsewhere address) = false

-- whether two ranges have a byte in common
abbrev pub meet : ℕ → ℕ → ℕ → ℕ → Bool
meet off len off' len' = nat_lt off (off' + len') && nat_lt off' (off + len)

-- whether two accesses conflict: their ranges have a byte in common, and one of them is a store
abbrev pub conflict : Access → Access → Bool
conflict (Store off new) (Store off' new') = meet off (length new.items) off' (length new'.items)
conflict (Store off new) (Load off' len answered) = meet off (length new.items) off' (length answered.items)
conflict (Load off len answered) (Store off' new) = meet off (length answered.items) off' (length new.items)
conflict access other = false
