-- What a store makes of the bytes of an object, and of the chunks that are kept.
use Rattle.std.proofs.Common.{◌≡◌, ℕ, ◌+◌, ◌*◌, ◌/◌, ◌%◌, ◌<◌, ◌≤◌, List, [], ◌∷◌, ◌++◌, length, set, take, drop, refl, sym, ap, ◌∙◌, arith}
use Rattle.std.proofs.lemmas.List.{length-set, take-append-drop}
use Rattle.model_memory.specs.Memory.{overwritten}
use Rattle.history_object.specs.declared.chunk.Chunk.{Chunk}
use Rattle.history_object.specs.Chunks.{chunk_bytes, stored, with_byte, with_chunk}
use Rattle.history_object.specs.ObjectBytes.{State, bytes_of}
use Rattle.history_object.proofs.Offsets.{bytes_of-length, one_stored}
use Rattle.history_object.proofs.Kept.{chunk_here, sized, with_chunk_twice}
use Rattle.history_object.proofs.Overwritten.{overwritten_more, overwritten_none, overwritten_one}

-- a store within the bytes overwrites them
pub stored_is_overwritten : (len : ℕ) (chunks : List Chunk) (k : ℕ) (new : List ℕ) → k + length new ≤ len
    → bytes_of (record { len = len; chunks = stored chunks k new }) ≡ overwritten (bytes_of (record { len = len; chunks = chunks })) k new
stored_is_overwritten len chunks k [] fits = sym (overwritten_none (bytes_of (record { len = len; chunks = chunks })) k)
stored_is_overwritten len chunks k (x ∷ new) fits =
    let state : State = record { len = len; chunks = chunks } in
    let room : k < length (bytes_of state) = (let l = bytes_of-length state in omega (arith, l, fits)) in
    stored_is_overwritten len (with_byte chunks k x) (k + 1) new (omega (arith, fits))
    ∙ ap (λ (xs : List ℕ). overwritten xs (k + 1) new) (one_stored state k x (omega (arith, fits)))
    ∙ overwritten_more (bytes_of state) k x new room

-- a byte by its chunk and its place there
byte_in_chunk : (chunks : List Chunk) (number place x : ℕ) → place < 64
    → with_byte chunks (number * 64 + place) x ≡ with_chunk number (set (chunk_bytes number chunks) place x) chunks
unfolding with_byte
byte_in_chunk chunks number place x within =
    let is : (number * 64 + place) / 64 ≡ number = omega arith in
    let there : (number * 64 + place) % 64 ≡ place = omega arith in
    rw (is, there) refl

-- a store of bytes that lie in one chunk
pub stored_in_chunk : (chunks : List Chunk) (number place : ℕ) (new : List ℕ) → place + length new ≤ 64 → 0 < length new
    → stored chunks (number * 64 + place) new ≡ with_chunk number (overwritten (chunk_bytes number chunks) place new) chunks
stored_in_chunk chunks number place [] one some = absurd (omega (arith, some))
stored_in_chunk chunks number place (x ∷ []) one some =
    let long = sized number chunks in
    byte_in_chunk chunks number place x (omega (arith, one))
    ∙ ap (λ (xs : List ℕ). with_chunk number xs chunks) (overwritten_one (chunk_bytes number chunks) place x (omega (arith, one, long)))
stored_in_chunk chunks number place (x ∷ y ∷ new) one some =
    let old = chunk_bytes number chunks in
    let long = sized number chunks in
    let between = set old place x in
    let next : List Chunk = with_chunk number between chunks in
    let rest : number * 64 + place + 1 ≡ number * 64 + (place + 1) = omega arith in
    ap (λ (cs : List Chunk). stored cs (number * 64 + place + 1) (y ∷ new)) (byte_in_chunk chunks number place x (omega (arith, one)))
    ∙ ap (λ (k : ℕ). stored next k (y ∷ new)) rest
    ∙ stored_in_chunk next number (place + 1) (y ∷ new) (omega (arith, one)) (omega arith)
    ∙ ap (λ (xs : List ℕ). with_chunk number (overwritten xs (place + 1) (y ∷ new)) next) (chunk_here number between chunks (length-set old place x ∙ long))
    ∙ with_chunk_twice number between (overwritten between (place + 1) (y ∷ new)) chunks
    ∙ ap (λ (xs : List ℕ). with_chunk number xs chunks) (overwritten_more old place x (y ∷ new) (omega (arith, one, long)))

-- a store of bytes and of those behind them
stored-append : (chunks : List Chunk) (k : ℕ) (first rest : List ℕ) → stored chunks k (first ++ rest) ≡ stored (stored chunks k first) (k + length first) rest
stored-append chunks k [] rest = ap (λ (i : ℕ). stored chunks i rest) (omega arith)
stored-append chunks k (x ∷ first) rest =
    stored-append (with_byte chunks k x) (k + 1) first rest
    ∙ ap (λ (i : ℕ). stored (stored (with_byte chunks k x) (k + 1) first) i rest) (omega arith)

-- a store in two runs
pub stored_in_two : (chunks : List Chunk) (off m k : ℕ) (new : List ℕ) → k ≡ off + length (take m new)
    → stored (stored chunks off (take m new)) k (drop m new) ≡ stored chunks off new
stored_in_two chunks off m k new rest =
    ap (λ (i : ℕ). stored (stored chunks off (take m new)) i (drop m new)) rest
    ∙ sym (stored-append chunks off (take m new) (drop m new))
    ∙ ap (λ (xs : List ℕ). stored chunks off xs) (take-append-drop m new)
