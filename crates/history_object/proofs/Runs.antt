-- Chunks at their places in the list: what is read of them, and how bytes are stored in them.
use Rattle.std.proofs.Common.{◌≡◌, ◌≢◌, ℕ, ◌+◌, ◌*◌, ◌<◌, ◌≤◌, List, [], length, get_or, replicate, set, subst, sym, ap, ◌∙◌}
use Rattle.std.specs.List.{insert}
use Rattle.std.proofs.lemmas.List.{get_or_default}
use Rattle.model_memory.specs.Memory.{overwritten}
use Rattle.history_object.specs.declared.chunk.Chunk.{Chunk}
use Rattle.history_object.specs.Chunks.{chunk_bytes, index_of, kept_bytes, stored, with_chunk, zeros}
use Rattle.history_object.proofs.Kept.{chunk_of_none, insert_at_index, kept_at_index, none_at_index, set_at_index, whole_chunk}
use Rattle.history_object.proofs.Stored.{stored_in_chunk}

-- the bytes of a chunk that is kept
pub read_kept : (chunks : List Chunk) (n i : ℕ) (x : Chunk) → i ≡ index_of n chunks → i < length chunks → x ≡ get_or chunks i x → x.number ≡ n
    → length x.bytes ≡ 64 → chunk_bytes n chunks ≡ x.bytes
read_kept chunks n i x is there read number long =
    let P : ℕ → Type 0 = λ j. (j < length chunks) × (x ≡ get_or chunks j x) in
    let at = subst P is (there, read) in
    let kept : kept_bytes n chunks ≡ x.bytes =
    kept_at_index n chunks x at.0 (ap (λ (c : Chunk). c.number) (sym at.1) ∙ number) ∙ ap (λ (c : Chunk). c.bytes) (sym at.1) in
    whole_chunk n chunks (ap (λ (xs : List ℕ). length xs) kept ∙ long) ∙ kept

-- those of one that isn't
pub read_none : (chunks : List Chunk) (n i : ℕ) → i ≡ index_of n chunks → (i < length chunks → (d : Chunk) → (get_or chunks i d).number ≢ n)
    → chunk_bytes n chunks ≡ replicate 64 0
unfolding zeros
read_none chunks n i is none =
    let P : ℕ → Type 0 = λ j. j < length chunks → (d : Chunk) → (get_or chunks j d).number ≢ n in
    let at = subst P is none in
    let d : Chunk = record { number = n; bytes = [] } in
    chunk_of_none n chunks (none_at_index n chunks d (λ there. at there d))

-- bytes are stored in a chunk that is kept
pub stored_kept : (chunks : List Chunk) (n place i : ℕ) (new written : List ℕ) (x y : Chunk) → i ≡ index_of n chunks → i < length chunks
    → x ≡ get_or chunks i x → x.number ≡ n → y ≡ get_or chunks i y → length y.bytes ≡ 64 → written ≡ overwritten y.bytes place new
    → place + length new ≤ 64 → 0 < length new → set chunks i (record { number = y.number; bytes = written }) ≡ stored chunks (n * 64 + place) new
stored_kept chunks n place i new written x y is there read number read' long is_written one some =
    let same : y ≡ x = read' ∙ get_or_default chunks i y x there ∙ sym read in
    let number' : y.number ≡ n = ap (λ (c : Chunk). c.number) same ∙ number in
    let P : ℕ → Type 0 = λ j. (j < length chunks) × (y ≡ get_or chunks j y) in
    let at = subst P is (there, read') in
    let bytes : y.bytes ≡ chunk_bytes n chunks = sym (read_kept chunks n i y is there read' number' long) in
    ap (λ (j : ℕ). set chunks j (record { number = y.number; bytes = written })) is
    ∙ ap (λ (m : ℕ). set chunks (index_of n chunks) (record { number = m; bytes = written })) number'
    ∙ set_at_index n written chunks y at.0 (ap (λ (c : Chunk). c.number) (sym at.1) ∙ number')
    ∙ ap (λ (xs : List ℕ). with_chunk n xs chunks) (is_written ∙ ap (λ (xs : List ℕ). overwritten xs place new) bytes)
    ∙ sym (stored_in_chunk chunks n place new one some)

-- bytes are stored in a chunk that wasn't kept
pub stored_fresh : (chunks : List Chunk) (n place i : ℕ) (new written : List ℕ) → i ≡ index_of n chunks
    → (i < length chunks → (d : Chunk) → (get_or chunks i d).number ≢ n) → written ≡ overwritten (replicate 64 0) place new
    → place + length new ≤ 64 → 0 < length new → insert chunks i (record { number = n; bytes = written }) ≡ stored chunks (n * 64 + place) new
stored_fresh chunks n place i new written is none is_written one some =
    let P : ℕ → Type 0 = λ j. j < length chunks → (d : Chunk) → (get_or chunks j d).number ≢ n in
    let at = subst P is none in
    let d : Chunk = record { number = n; bytes = [] } in
    let bytes = sym (read_none chunks n i is none) in
    ap (λ (j : ℕ). insert chunks j (record { number = n; bytes = written })) is
    ∙ insert_at_index n written chunks d (λ there. at there d)
    ∙ ap (λ (xs : List ℕ). with_chunk n xs chunks) (is_written ∙ ap (λ (xs : List ℕ). overwritten xs place new) bytes)
    ∙ sym (stored_in_chunk chunks n place new one some)
