-- Stores and loads in ranges that have no byte in common.
use Rattle.std.proofs.Common.{◌≡◌, ◌≢◌, ◌⊎◌, ℕ, zero, suc, ◌+◌, ◌-◌, ◌/◌, ◌%◌, ◌<◌, ◌≤◌, Bool, true, false, not, ◌&&◌, nat_eq, nat_lt, List, [], ◌∷◌, length, get_or, set, drop, slice_range, refl, sym, ap, ◌∙◌, arith, inl, inr}
use Rattle.std.specs.Str.{bytes_eq}
use Rattle.std.proofs.lemmas.Bool.Decides.{eqb_tells}
use Rattle.std.proofs.lemmas.List.{ext_get_or, get_or-set_other, length-set, length-take, length-drop, get_or-take, get_or-drop}
use Rattle.model_intervals.specs.Objects.{ends_past}
use Rattle.history_object.specs.declared.chunk.Chunk.{Chunk}
use Rattle.history_object.specs.Chunks.{chunk_bytes, stored, with_byte, with_chunk}
use Rattle.history_object.specs.ObjectBytes.{State, answers, bytes_of}
use Rattle.history_object.proofs.Compared.{compared, less, same, more}
use Rattle.history_object.proofs.Kept.{chunk_elsewhere, chunk_here, sized, with_chunk_twice}
use Rattle.history_object.proofs.Offsets.{bytes_of-length, one_stored}

-- two places of a list may be set in either order
sets_swap : (xs : List ℕ) (i j x y : ℕ) → i ≢ j → set (set xs i x) j y ≡ set (set xs j y) i x
sets_swap [] i j x y apart = refl
sets_swap (z ∷ xs) zero zero x y apart = absurd (apart refl)
sets_swap (z ∷ xs) zero (suc j) x y apart = refl
sets_swap (z ∷ xs) (suc i) zero x y apart = refl
sets_swap (z ∷ xs) (suc i) (suc j) x y apart = ap (λ (ys : List ℕ). z ∷ ys) (sets_swap xs i j x y (λ e. apart (ap (λ (k : ℕ). suc k) e)))

-- what the tests say of a number and one above it
above_it : (n m : ℕ) → n < m → nat_lt n m ≡ true
above_it n m below = elim (compared n m) [
  | less t _ ↦ t
  | same _ _ e ↦ absurd (omega (arith, below, e))
  | more _ _ b ↦ absurd (omega (arith, below, b))
]

not_below_it : (n m : ℕ) → n < m → (nat_lt m n ≡ false) × (nat_eq m n ≡ false)
not_below_it n m below = elim (compared m n) [
  | less _ b ↦ absurd (omega (arith, below, b))
  | same _ _ e ↦ absurd (omega (arith, below, e))
  | more f t _ ↦ (f, t)
]

-- the chunk with the higher number may be put in first
higher_first : (n m : ℕ) (xs ys : List ℕ) (chunks : List Chunk) → n < m
    → with_chunk m ys (with_chunk n xs chunks) ≡ with_chunk n xs (with_chunk m ys chunks)
higher_first n m xs ys [] below = let up = above_it n m below in let down = not_below_it n m below in rw (up, down.0, down.1) refl
higher_first n m xs ys (c ∷ cs) below = let up = above_it n m below in let down = not_below_it n m below in elim (compared c.number n) [
  | less t b ↦
      (let t' = above_it c.number m (omega (arith, below, b)) in
      rw (t, t', t) (ap (λ (ds : List Chunk). c ∷ ds) (higher_first n m xs ys cs below)))
  | same f t e ↦ (let t' = above_it c.number m (omega (arith, below, e)) in rw (f, t, up, t', f, t) refl)
  | more f t _ ↦ rw (f, t, up) (elim (compared c.number m) [
    | less t' _ ↦ rw (t', f, t) refl
    | same f' t' _ ↦ rw (f', t', down.0, down.1) refl
    | more f' t' _ ↦ rw (f', t', down.0, down.1) refl
  ])
]

-- chunks of two numbers may be put in in either order
chunks_swap : (n m : ℕ) (xs ys : List ℕ) (chunks : List Chunk) → n ≢ m
    → with_chunk m ys (with_chunk n xs chunks) ≡ with_chunk n xs (with_chunk m ys chunks)
chunks_swap n m xs ys chunks apart = elim (compared n m) [
  | less _ below ↦ higher_first n m xs ys chunks below
  | same _ _ e ↦ absurd (apart e)
  | more _ _ above ↦ sym (higher_first m n ys xs chunks above)
]

-- a byte by its chunk and its place there
by_place : (chunks : List Chunk) (i x number place : ℕ) → i / 64 ≡ number → i % 64 ≡ place
    → with_byte chunks i x ≡ with_chunk number (set (chunk_bytes number chunks) place x) chunks
unfolding with_byte
by_place chunks i x number place is there = rw (is, there) refl

-- two bytes of one chunk
two_in_chunk : (chunks : List Chunk) (i j x y number : ℕ) → i / 64 ≡ number → j / 64 ≡ number
    → with_byte (with_byte chunks i x) j y ≡ with_chunk number (set (set (chunk_bytes number chunks) (i % 64) x) (j % 64) y) chunks
two_in_chunk chunks i j x y number here there =
    let old = chunk_bytes number chunks in
    let between = set old (i % 64) x in
    by_place (with_byte chunks i x) j y number (j % 64) there refl
    ∙ ap (λ (cs : List Chunk). with_chunk number (set (chunk_bytes number cs) (j % 64) y) cs) (by_place chunks i x number (i % 64) here refl)
    ∙ ap (λ (zs : List ℕ). with_chunk number (set zs (j % 64) y) (with_chunk number between chunks))
    (chunk_here number between chunks (length-set old (i % 64) x ∙ sized number chunks))
    ∙ with_chunk_twice number between (set between (j % 64) y) chunks

-- bytes of two chunks
two_in_chunks : (chunks : List Chunk) (i j x y : ℕ) → i / 64 ≢ j / 64 → with_byte (with_byte chunks i x) j y
    ≡ with_chunk (j / 64) (set (chunk_bytes (j / 64) chunks) (j % 64) y) (with_chunk (i / 64) (set (chunk_bytes (i / 64) chunks) (i % 64) x) chunks)
two_in_chunks chunks i j x y apart =
    let new = set (chunk_bytes (i / 64) chunks) (i % 64) x in
    by_place (with_byte chunks i x) j y (j / 64) (j % 64) refl refl
    ∙ ap (λ (cs : List Chunk). with_chunk (j / 64) (set (chunk_bytes (j / 64) cs) (j % 64) y) cs) (by_place chunks i x (i / 64) (i % 64) refl refl)
    ∙ ap (λ (zs : List ℕ). with_chunk (j / 64) (set zs (j % 64) y) (with_chunk (i / 64) new chunks))
    (chunk_elsewhere (i / 64) (j / 64) new chunks (λ e. apart (sym e)))

-- bytes at two offsets may be stored in either order
bytes_swap : (chunks : List Chunk) (i j x y : ℕ) → i ≢ j → with_byte (with_byte chunks i x) j y ≡ with_byte (with_byte chunks j y) i x
bytes_swap chunks i j x y apart = elim (eqb_tells (i / 64) (j / 64)) [
  | inl is ↦
      (let one : i / 64 ≡ j / 64 = is.1 in
      let places : i % 64 ≢ j % 64 = (λ e. apart (omega (arith, e, one))) in
      two_in_chunk chunks i j x y (j / 64) one refl
      ∙ ap (λ (zs : List ℕ). with_chunk (j / 64) zs chunks) (sets_swap (chunk_bytes (j / 64) chunks) (i % 64) (j % 64) x y places)
      ∙ sym (two_in_chunk chunks j i y x (j / 64) refl one))
  | inr not_one ↦
      (let two : i / 64 ≢ j / 64 = not_one.1 in
      two_in_chunks chunks i j x y two
      ∙ chunks_swap (i / 64) (j / 64) (set (chunk_bytes (i / 64) chunks) (i % 64) x) (set (chunk_bytes (j / 64) chunks) (j % 64) y) chunks two
      ∙ sym (two_in_chunks chunks j i y x (λ e. two (sym e))))
]

-- an offset is outside of a range
abbrev IsOutside : ℕ → ℕ → ℕ → Type 0
IsOutside i off len = (i < off) ⊎ (off + len ≤ i)

-- then it isn't the range's first offset
not_first : (i off len : ℕ) → IsOutside i off (suc len) → i ≢ off
not_first i off len (inl below) e = omega (arith, below, e)
not_first i off len (inr above) e = omega (arith, above, e)

-- and it is outside of the rest of the range
outside_rest : (i off len : ℕ) → IsOutside i off (suc len) → IsOutside i (off + 1) len
outside_rest i off len (inl below) = inl (omega (arith, below))
outside_rest i off len (inr above) = inr (omega (arith, above))

-- two ranges have no byte in common: one of them ends where the other begins, or before
abbrev pub AreApart : ℕ → ℕ → ℕ → ℕ → Type 0
AreApart off len off' len' = (off + len ≤ off') ⊎ (off' + len' ≤ off)

-- then the first offset of one is outside of the other
first_outside : (off len off' len' : ℕ) → AreApart off (suc len) off' len' → IsOutside off off' len'
first_outside off len off' len' (inl before) = inl (omega (arith, before))
first_outside off len off' len' (inr behind) = inr behind

-- and the rest of one has no byte in common with the other
rest_apart : (off len off' len' : ℕ) → AreApart off (suc len) off' len' → AreApart (off + 1) len off' len'
rest_apart off len off' len' (inl before) = inl (omega (arith, before))
rest_apart off len off' len' (inr behind) = inr (omega (arith, behind))

-- each offset of one is outside of the other
each_outside : (off len off' len' k : ℕ) → AreApart off len off' len' → k < len' → IsOutside (off' + k) off len
each_outside off len off' len' k (inl before) below = inr (omega (arith, before))
each_outside off len off' len' k (inr behind) below = inl (omega (arith, behind, below))

-- a byte outside of the range of a store may be stored behind it
byte_behind : (chunks : List Chunk) (i x off : ℕ) (new : List ℕ) → IsOutside i off (length new)
    → stored (with_byte chunks i x) off new ≡ with_byte (stored chunks off new) i x
byte_behind chunks i x off [] outside = refl
byte_behind chunks i x off (y ∷ new) outside =
    ap (λ (cs : List Chunk). stored cs (off + 1) new) (bytes_swap chunks i off x y (not_first i off (length new) outside))
    ∙ byte_behind (with_byte chunks off y) i x (off + 1) new (outside_rest i off (length new) outside)

-- bytes in two ranges that have no byte in common may be stored in either order
runs_swap : (chunks : List Chunk) (off : ℕ) (new : List ℕ) (off' : ℕ) (new' : List ℕ) → AreApart off (length new) off' (length new')
    → stored (stored chunks off new) off' new' ≡ stored (stored chunks off' new') off new
runs_swap chunks off [] off' new' apart = refl
runs_swap chunks off (x ∷ new) off' new' apart =
    runs_swap (with_byte chunks off x) (off + 1) new off' new' (rest_apart off (length new) off' (length new') apart)
    ∙ ap (λ (cs : List Chunk). stored cs (off + 1) new)
    (byte_behind chunks off x off' new' (first_outside off (length new) off' (length new') apart))

-- the state after a store
abbrev pub after_store : State → ℕ → List ℕ → State
after_store s off new = record { len = s.len; chunks = stored s.chunks off new }

-- stores in two ranges that have no byte in common may swap
pub stores_swap : (s : State) (off : ℕ) (new : List ℕ) (off' : ℕ) (new' : List ℕ) → AreApart off (length new) off' (length new')
    → after_store (after_store s off new) off' new' ≡ after_store (after_store s off' new') off new
stores_swap s off new off' new' apart =
    ap (λ (chunks : List Chunk). let r : State = record { len = s.len; chunks = chunks } in r) (runs_swap s.chunks off new off' new' apart)

-- a store doesn't change how many bytes there are
length_stays : (s : State) (off : ℕ) (new : List ℕ) → length (bytes_of (after_store s off new)) ≡ length (bytes_of s)
length_stays s off new = bytes_of-length (after_store s off new) ∙ sym (bytes_of-length s)

-- nor where they end
pub end_stays : (s : State) (off : ℕ) (new : List ℕ) (from len : ℕ)
    → ends_past (bytes_of (after_store s off new)) from len ≡ ends_past (bytes_of s) from len
end_stays s off new from len = ap (λ (n : ℕ). nat_lt n (from + len)) (length_stays s off new)

-- a byte outside of the range of a store stays
byte_stays : (len : ℕ) (chunks : List Chunk) (off : ℕ) (new : List ℕ) (i : ℕ) → off + length new ≤ len → IsOutside i off (length new)
    → get_or (bytes_of (record { len = len; chunks = stored chunks off new })) i 0 ≡ get_or (bytes_of (record { len = len; chunks = chunks })) i 0
byte_stays len chunks off [] i fits outside = refl
byte_stays len chunks off (x ∷ new) i fits outside =
    let state : State = record { len = len; chunks = chunks } in
    byte_stays len (with_byte chunks off x) (off + 1) new i (omega (arith, fits)) (outside_rest i off (length new) outside)
    ∙ ap (λ (xs : List ℕ). get_or xs i 0) (one_stored state off x (omega (arith, fits)))
    ∙ get_or-set_other (bytes_of state) off i x 0 (not_first i off (length new) outside)

-- lists of one length have the same bytes in a range if each byte there is the same
range_same : (xs ys : List ℕ) (from len : ℕ) → length xs ≡ length ys → ((k : ℕ) → k < len → get_or xs (from + k) 0 ≡ get_or ys (from + k) 0)
    → slice_range xs from (from + len) ≡ slice_range ys from (from + len)
range_same xs ys from len long each = ext_get_or 0 (slice_range xs from (from + len)) (slice_range ys from (from + len)) long'
    (λ k below. let low = inside k below in at xs k low ∙ each k low ∙ sym (at ys k low))
  where
    long' : length (slice_range xs from (from + len)) ≡ length (slice_range ys from (from + len))
    long' = simp (length-take, length-drop) (omega (arith, long))

    inside : (k : ℕ) → k < length (slice_range xs from (from + len)) → k < len
    inside k below = let b = simp (length-take, length-drop) at below in omega (arith, b)

    at : (zs : List ℕ) (k : ℕ) → k < len → get_or (slice_range zs from (from + len)) k 0 ≡ get_or zs (from + k) 0
    at zs k low = get_or-take (from + len - from) (drop from zs) k 0 (omega (arith, low)) ∙ get_or-drop from zs k 0

-- a load in a range that has no byte in common with that of a store is answered after the store as before
pub answers_stay : (s : State) (off : ℕ) (new : List ℕ) (from len : ℕ) (answered : List ℕ) → off + length new ≤ s.len
    → AreApart off (length new) from (length answered) → answers (after_store s off new) from len answered ≡ answers s from len answered
answers_stay s off new from len answered fits apart =
    let next : State = after_store s off new in
    let n = length answered in
    ap (λ (past : Bool). nat_eq len n && (not past && bytes_eq answered (slice_range (bytes_of next) from (from + n)))) (end_stays s off new from n)
    ∙ ap (λ (xs : List ℕ). nat_eq len n && (not (ends_past (bytes_of s) from n) && bytes_eq answered xs))
    (range_same (bytes_of next) (bytes_of s) from n (length_stays s off new)
    (λ k below. byte_stays s.len s.chunks off new (from + k) fits (each_outside off (length new) from n k apart below)))
