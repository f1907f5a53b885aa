-- The bytes of an object by their offsets.
use Rattle.std.proofs.Common.{◌≡◌, ◌≢◌, ℕ, zero, suc, ◌+◌, ◌*◌, ◌-◌, ◌/◌, ◌%◌, ◌<◌, ◌≤◌, List, [], length, replicate, get_or, set, drop, slice_range, refl, sym, ap, ◌∙◌, arith, inl, inr}
use Rattle.std.proofs.lemmas.Bool.Decides.{eqb_tells}
use Rattle.std.proofs.lemmas.List.{ext_get_or, get_or-set_other, get_or-set_same, length-replicate, length-set, length-take, length-drop, get_or-take, get_or-drop}
use Rattle.std.proofs.lemmas.List.FromFn.{length-map-range_with_len, get_or-map-range_with_len}
use Rattle.history_object.specs.declared.chunk.Chunk.{Chunk}
use Rattle.history_object.specs.Chunks.{byte_at, chunk_bytes, with_byte, zeros}
use Rattle.history_object.specs.ObjectBytes.{State, bytes_of, first_state}
use Rattle.history_object.proofs.Kept.{chunk_elsewhere, chunk_here, chunk_of_none, sized}

-- an object has as many bytes as it is long
pub bytes_of-length : (state : State) → length (bytes_of state) ≡ state.len
unfolding bytes_of
bytes_of-length state = length-map-range_with_len (byte_at state.chunks) 0 state.len

-- the byte at an offset is that of its chunk
pub bytes_of-at : (state : State) (i : ℕ) → i < state.len → get_or (bytes_of state) i 0 ≡ byte_at state.chunks i
unfolding bytes_of
bytes_of-at state i below = get_or-map-range_with_len (byte_at state.chunks) 0 state.len i i 0 below (omega arith)

get_or-zeros : (n k : ℕ) → get_or (replicate n 0) k 0 ≡ zero
get_or-zeros zero k = refl
get_or-zeros (suc n) zero = refl
get_or-zeros (suc n) (suc k) = get_or-zeros n k

none_kept : (k : ℕ) → byte_at [] k ≡ 0
unfolding byte_at zeros
none_kept k = ap (λ (xs : List ℕ). get_or xs (k % 64) 0) (chunk_of_none (k / 64) [] refl) ∙ get_or-zeros 64 (k % 64)

-- where no chunk is kept, all is 0
pub bytes_of-first : (len : ℕ) → bytes_of (first_state len) ≡ replicate len 0
bytes_of-first len =
    ext_get_or 0 (bytes_of (first_state len)) (replicate len 0) (bytes_of-length (first_state len) ∙ sym (length-replicate len 0))
    (λ i below. let within : i < len = (let l = bytes_of-length (first_state len) in omega (arith, l, below)) in
    bytes_of-at (first_state len) i within ∙ none_kept i ∙ sym (get_or-zeros len i))

-- a byte by its chunk and its place there
byte_by_place : (chunks : List Chunk) (i number place : ℕ) → i / 64 ≡ number → i % 64 ≡ place → byte_at chunks i ≡ get_or (chunk_bytes number chunks) place 0
unfolding byte_at
byte_by_place chunks i number place is there = rw (is, there) refl

-- the byte that was stored
byte_here : (chunks : List Chunk) (k x : ℕ) → byte_at (with_byte chunks k x) k ≡ x
unfolding byte_at with_byte
byte_here chunks k x =
    let old = chunk_bytes (k / 64) chunks in
    let long = sized (k / 64) chunks in
    let within : k % 64 < length old = omega (arith, long) in
    ap (λ (xs : List ℕ). get_or xs (k % 64) 0) (chunk_here (k / 64) (set old (k % 64) x) chunks (length-set old (k % 64) x ∙ long))
    ∙ get_or-set_same old (k % 64) x 0 within

-- another byte
byte_elsewhere : (chunks : List Chunk) (k x i : ℕ) → i ≢ k → byte_at (with_byte chunks k x) i ≡ byte_at chunks i
unfolding byte_at with_byte
byte_elsewhere chunks k x i apart = elim (eqb_tells (i / 64) (k / 64)) [
  | inl is ↦
      (let old = chunk_bytes (k / 64) chunks in
      let same : i / 64 ≡ k / 64 = is.1 in
      let places : i % 64 ≢ k % 64 = (λ e. apart (omega (arith, e, same))) in
      ap (λ (n : ℕ). get_or (chunk_bytes n (with_byte chunks k x)) (i % 64) 0) same
      ∙ ap (λ (xs : List ℕ). get_or xs (i % 64) 0) (chunk_here (k / 64) (set old (k % 64) x) chunks (length-set old (k % 64) x ∙ sized (k / 64) chunks))
      ∙ get_or-set_other old (k % 64) (i % 64) x 0 places
      ∙ ap (λ (n : ℕ). get_or (chunk_bytes n chunks) (i % 64) 0) (sym same))
  | inr not ↦
      ap (λ (xs : List ℕ). get_or xs (i % 64) 0) (chunk_elsewhere (k / 64) (i / 64) (set (chunk_bytes (k / 64) chunks) (k % 64) x) chunks not.1)
]

-- one byte stored is one byte set
pub one_stored : (state : State) (k x : ℕ) → k < state.len
    → bytes_of (record { len = state.len; chunks = with_byte state.chunks k x }) ≡ set (bytes_of state) k x
one_stored state k x within = ext_get_or 0 (bytes_of next) (set (bytes_of state) k x) long (λ i below. at i (let l = bytes_of-length next in omega (arith, l, below)))
  where
    next : State
    next = record { len = state.len; chunks = with_byte state.chunks k x }

    long : length (bytes_of next) ≡ length (set (bytes_of state) k x)
    long = bytes_of-length next ∙ sym (bytes_of-length state) ∙ sym (length-set (bytes_of state) k x)

    at : (i : ℕ) → i < state.len → get_or (bytes_of next) i 0 ≡ get_or (set (bytes_of state) k x) i 0
    at i below = bytes_of-at next i below ∙ elim (eqb_tells i k) [
      | inl is ↦
          (let room : k < length (bytes_of state) = (let l = bytes_of-length state in omega (arith, l, within)) in
          ap (λ (n : ℕ). byte_at (with_byte state.chunks k x) n) is.1 ∙ byte_here state.chunks k x
          ∙ sym (get_or-set_same (bytes_of state) k x 0 room) ∙ ap (λ (n : ℕ). get_or (set (bytes_of state) k x) n 0) (sym is.1))
      | inr apart ↦
          byte_elsewhere state.chunks k x i apart.1 ∙ sym (bytes_of-at state i below) ∙ sym (get_or-set_other (bytes_of state) k i x 0 apart.1)
    ]

-- a run of bytes is one of the chunk that they lie in
pub run_in_chunk : (state : State) (number place len : ℕ) → place + len ≤ 64 → number * 64 + place + len ≤ state.len
    → slice_range (chunk_bytes number state.chunks) place (place + len) ≡ slice_range (bytes_of state) (number * 64 + place) (number * 64 + place + len)
run_in_chunk state number place len one fits = ext_get_or 0 part whole (long ∙ sym long')
    (λ k below. let within : k < len = omega (arith, below, long) in left k within ∙ sym (middle k within) ∙ sym (right k within))
  where
    start : ℕ
    start = number * 64 + place

    chunk : List ℕ
    chunk = chunk_bytes number state.chunks

    part : List ℕ
    part = slice_range chunk place (place + len)

    whole : List ℕ
    whole = slice_range (bytes_of state) start (start + len)

    long : length part ≡ len
    long = simp (length-take, length-drop) (let l = sized number state.chunks in omega (arith, l, one))

    long' : length whole ≡ len
    long' = simp (length-take, length-drop) (let l = bytes_of-length state in omega (arith, l, fits))

    left : (k : ℕ) → k < len → get_or part k 0 ≡ get_or chunk (place + k) 0
    left k within = get_or-take (place + len - place) (drop place chunk) k 0 (omega (arith, within)) ∙ get_or-drop place chunk k 0

    middle : (k : ℕ) → k < len → byte_at state.chunks (start + k) ≡ get_or chunk (place + k) 0
    middle k within = byte_by_place state.chunks (start + k) number (place + k) (omega (arith, within, one)) (omega (arith, within, one))

    right : (k : ℕ) → k < len → get_or whole k 0 ≡ byte_at state.chunks (start + k)
    right k within = get_or-take (start + len - start) (drop start (bytes_of state)) k 0 (omega (arith, within))
        ∙ get_or-drop start (bytes_of state) k 0 ∙ bytes_of-at state (start + k) (omega (arith, within, fits))
