-- The bytes of an object and the chunks that are kept of it.
use Rattle.std.proofs.Common.{◌≡◌, ◌≢◌, ℕ, zero, suc, ◌+◌, ◌*◌, ◌-◌, ◌/◌, ◌%◌, ◌<◌, ◌≤◌, List, [], length, replicate, get_or, drop, slice_range, refl, sym, ap, ◌∙◌, arith, inl, inr, Option, Some, None}
use Rattle.std.specs.Ordering.{nat_cmp}
use Rattle.std.specs.BTreeMap.{BTreeMap, get}
use Rattle.std.proofs.lemmas.Bool.Decides.{eqb_tells, leb_tells}
use Rattle.std.proofs.lemmas.List.{ext_get_or, length-replicate, length-take, length-drop, get_or-take, get_or-drop}
use Rattle.std.proofs.lemmas.List.FromFn.{length-map-range_with_len, get_or-map-range_with_len}
use Rattle.model_memory.specs.Memory.{overwritten}
use Rattle.model_memory.proofs.Objects.{overwritten_length}
use Rattle.history_in_order.specs.Chunks.{IsSetAt, chunk_bytes, byte_in, bytes_in}
use Rattle.history_in_order.proofs.Overwritten.{overwritten_before, overwritten_at, overwritten_after}

length-bytes_in : (f : ℕ → Option (List ℕ)) (n : ℕ) → length (bytes_in f n) ≡ n
unfolding bytes_in
length-bytes_in f n = length-map-range_with_len (byte_in f) 0 n

-- how many there are of all
pub length_of_all : (f : ℕ → Option (List ℕ)) (n : ℕ) (all : List ℕ) → bytes_in f n ≡ all → length all ≡ n
length_of_all f n all is = ap (λ (xs : List ℕ). length xs) (sym is) ∙ length-bytes_in f n

get_or-bytes_in : (f : ℕ → Option (List ℕ)) (n i : ℕ) → i < n → get_or (bytes_in f n) i 0 ≡ byte_in f i
unfolding bytes_in
get_or-bytes_in f n i below = get_or-map-range_with_len (byte_in f) 0 n i i 0 below (omega arith)

get_or-zeros : (n k : ℕ) → get_or (replicate n 0) k 0 ≡ zero
get_or-zeros zero k = refl
get_or-zeros (suc n) zero = refl
get_or-zeros (suc n) (suc k) = get_or-zeros n k

-- a chunk that isn't kept has 0 everywhere
none_kept : (f : ℕ → Option (List ℕ)) (k : ℕ) → f (k / 64) ≡ None → byte_in f k ≡ 0
unfolding chunk_bytes byte_in
none_kept f k none = rw none (get_or-zeros 64 (k % 64))

-- where nothing is kept, all is 0
pub bytes_in-empty : (m : BTreeMap ℕ (List ℕ)) (n : ℕ) → m.entries ≡ [] → bytes_in (get nat_cmp m) n ≡ replicate n 0
bytes_in-empty m n none =
    ext_get_or 0 (bytes_in (get nat_cmp m) n) (replicate n 0) (length-bytes_in (get nat_cmp m) n ∙ sym (length-replicate n 0))
    (λ i below. get_or-bytes_in (get nat_cmp m) n i (let l = length-bytes_in (get nat_cmp m) n in omega (arith, l, below))
    ∙ none_kept (get nat_cmp m) i (rw none refl) ∙ sym (get_or-zeros n i))

-- a byte of a chunk
byte_of_chunk : (f : ℕ → Option (List ℕ)) (number i : ℕ) (chunk : List ℕ) → chunk_bytes (f number) ≡ chunk → i / 64 ≡ number → byte_in f i ≡ get_or chunk (i % 64) 0
unfolding byte_in
byte_of_chunk f number i chunk is same = rw (same, is) refl

-- a byte of a chunk, by its place
byte_at_place : (f : ℕ → Option (List ℕ)) (number place : ℕ) → place < 64 → byte_in f (number * 64 + place) ≡ get_or (chunk_bytes (f number)) place 0
byte_at_place f number place within =
    let same : (number * 64 + place) / 64 ≡ number = omega arith in
    let at : (number * 64 + place) % 64 ≡ place = omega arith in
    byte_of_chunk f number (number * 64 + place) (chunk_bytes (f number)) refl same ∙ ap (λ (k : ℕ). get_or (chunk_bytes (f number)) k 0) at

-- a run of bytes is one of the chunk that they lie in
pub run_in_chunk : (f : ℕ → Option (List ℕ)) (n number place len : ℕ) → length (chunk_bytes (f number)) ≡ 64 → place + len ≤ 64 → number * 64 + place + len ≤ n
    → slice_range (chunk_bytes (f number)) place (place + len) ≡ slice_range (bytes_in f n) (number * 64 + place) (number * 64 + place + len)
run_in_chunk f n number place len sized one fits = ext_get_or 0 part whole (long ∙ sym long')
    (λ k below. let within : k < len = omega (arith, below, long) in left k within ∙ sym (middle k within) ∙ sym (right k within))
  where
    chunk : List ℕ
    chunk = chunk_bytes (f number)

    part : List ℕ
    part = slice_range chunk place (place + len)

    whole : List ℕ
    whole = slice_range (bytes_in f n) (number * 64 + place) (number * 64 + place + len)

    long : length part ≡ len
    long = simp (length-take, length-drop) (omega (arith, sized, one))

    long' : length whole ≡ len
    long' = simp (length-take, length-drop) (let l = length-bytes_in f n in omega (arith, l, fits))

    left : (k : ℕ) → k < len → get_or part k 0 ≡ get_or chunk (place + k) 0
    left k within = get_or-take (place + len - place) (drop place chunk) k 0 (omega (arith, within)) ∙ get_or-drop place chunk k 0

    middle : (k : ℕ) → k < len → byte_in f (number * 64 + place + k) ≡ get_or chunk (place + k) 0
    middle k within = ap (λ (i : ℕ). byte_in f i) (omega arith) ∙ byte_at_place f number (place + k) (omega (arith, within, one))

    right : (k : ℕ) → k < len → get_or whole k 0 ≡ byte_in f (number * 64 + place + k)
    right k within = get_or-take (number * 64 + place + len - (number * 64 + place)) (drop (number * 64 + place) (bytes_in f n)) k 0 (omega (arith, within))
        ∙ get_or-drop (number * 64 + place) (bytes_in f n) k 0 ∙ get_or-bytes_in f n (number * 64 + place + k) (omega (arith, within, fits))

-- a byte of a chunk that stays
byte_stays : (f f' : ℕ → Option (List ℕ)) (i : ℕ) → f' (i / 64) ≡ f (i / 64) → byte_in f' i ≡ byte_in f i
unfolding byte_in
byte_stays f f' i same = rw same refl

-- a kept chunk's bytes
pub kept_bytes : (f : ℕ → Option (List ℕ)) (k : ℕ) (bytes : List ℕ) → f k ≡ Some bytes → chunk_bytes (f k) ≡ bytes
unfolding chunk_bytes
kept_bytes f k bytes is = rw is refl

-- the bytes of a chunk that isn't kept
pub absent_bytes : (f : ℕ → Option (List ℕ)) (k : ℕ) → f k ≡ None → chunk_bytes (f k) ≡ replicate 64 0
unfolding chunk_bytes
absent_bytes f k is = rw is refl

-- bytes are stored where their chunk holds them
pub stored_in_chunk : (f f' : ℕ → Option (List ℕ)) (n number place : ℕ) (new : List ℕ) → length (chunk_bytes (f number)) ≡ 64
    → place + length new ≤ 64 → number * 64 + place + length new ≤ n
    → IsSetAt f f' number (overwritten (chunk_bytes (f number)) place new)
    → bytes_in f' n ≡ overwritten (bytes_in f n) (number * 64 + place) new
stored_in_chunk f f' n number place new sized one fits set =
    ext_get_or 0 (bytes_in f' n) after (long' ∙ sym (overwritten_length (bytes_in f n) start new room ∙ long))
    (λ i below. let within : i < n = omega (arith, below, long') in get_or-bytes_in f' n i within ∙ at i within)
  where
    start : ℕ
    start = number * 64 + place

    chunk : List ℕ
    chunk = chunk_bytes (f number)

    after : List ℕ
    after = overwritten (bytes_in f n) start new

    long : length (bytes_in f n) ≡ n
    long = length-bytes_in f n

    long' : length (bytes_in f' n) ≡ n
    long' = length-bytes_in f' n

    room : start + length new ≤ length (bytes_in f n)
    room = omega (arith, long, fits)

    room' : place + length new ≤ length chunk
    room' = omega (arith, sized, one)

    before : (i : ℕ) → i < start → i < n → get_or after i 0 ≡ byte_in f i
    before i low within = overwritten_before (bytes_in f n) start new i room low ∙ get_or-bytes_in f n i within

    behind : (i : ℕ) → start + length new ≤ i → i < n → get_or after i 0 ≡ byte_in f i
    behind i high within = overwritten_after (bytes_in f n) start new i room high ∙ get_or-bytes_in f n i within

    here : (i : ℕ) → i / 64 ≡ number → byte_in f' i ≡ get_or (overwritten chunk place new) (i % 64) 0
    here i same = byte_of_chunk f' number i (overwritten chunk place new) (kept_bytes f' number (overwritten chunk place new) set.0) same

    was : (i : ℕ) → i / 64 ≡ number → byte_in f i ≡ get_or chunk (i % 64) 0
    was i same = byte_of_chunk f number i chunk refl same

    in_chunk : (i : ℕ) → i < n → i / 64 ≡ number → byte_in f' i ≡ get_or after i 0
    in_chunk i within same = here i same ∙ elim (leb_tells start i) [
      | inr low ↦ overwritten_before chunk place new (i % 64) room' (let l = low.1 in omega (arith, l, same)) ∙ sym (was i same) ∙ sym (before i low.1 within)
      | inl from ↦ elim (leb_tells (start + length new) i) [
        | inl past ↦ overwritten_after chunk place new (i % 64) room' (let p = past.1 in omega (arith, p, same)) ∙ sym (was i same) ∙ sym (behind i past.1 within)
        | inr inside ↦
            let k : i - start < length new = (let a = from.1 in let b = inside.1 in omega (arith, a, b)) in
            overwritten_at chunk place new (i % 64) (i - start) room' k (let a = from.1 in omega (arith, a, same))
            ∙ sym (overwritten_at (bytes_in f n) start new i (i - start) room k (let a = from.1 in omega (arith, a)))
      ]
    ]

    elsewhere : (i : ℕ) → i < n → i / 64 ≢ number → byte_in f' i ≡ get_or after i 0
    elsewhere i within apart = byte_stays f f' i (set.1 (i / 64) apart) ∙ elim (leb_tells start i) [
      | inr low ↦ sym (before i low.1 within)
      | inl from ↦ sym (behind i (let a = from.1 in omega (arith, a, one, apart)) within)
    ]

    at : (i : ℕ) → i < n → byte_in f' i ≡ get_or after i 0
    at i within = elim (eqb_tells (i / 64) number) [ inl same ↦ in_chunk i within same.1 | inr apart ↦ elsewhere i within apart.1 ]
