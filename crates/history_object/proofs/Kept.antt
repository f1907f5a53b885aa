-- Which bytes are kept under a number, where a chunk takes its place.
use Rattle.std.proofs.Common.{◌≡◌, ◌≢◌, ℕ, zero, ◌<◌, true, false, nat_eq, nat_lt, List, [], ◌∷◌, ◌++◌, length, replicate, get_or, set, take, refl, sym, ap, ◌∙◌, arith}
use Rattle.std.specs.List.{insert}
use Rattle.std.proofs.lemmas.List.{length-append, length-replicate, length-take-le, take_at}
use Rattle.history_object.specs.declared.chunk.Chunk.{Chunk}
use Rattle.history_object.specs.Chunks.{chunk_bytes, index_of, kept_bytes, with_chunk, zeros}
use Rattle.history_object.proofs.Compared.{compared, less, same, more}

lt_self : (n : ℕ) → nat_lt n n ≡ false
lt_self n = elim (compared n n) [ less t b ↦ absurd (omega (arith, b)) | same f t e ↦ f | more f t b ↦ f ]

eq_self : (n : ℕ) → nat_eq n n ≡ true
eq_self n = elim (compared n n) [ less t b ↦ absurd (omega (arith, b)) | same f t e ↦ t | more f t b ↦ absurd (omega (arith, b)) ]

-- a chunk in its place is kept
pub kept_here : (n : ℕ) (bytes : List ℕ) (chunks : List Chunk) → kept_bytes n (with_chunk n bytes chunks) ≡ bytes
kept_here n bytes [] = rw (lt_self n, eq_self n) refl
kept_here n bytes (c ∷ cs) = elim (compared c.number n) [
  | less t _ ↦ rw (t, t) (kept_here n bytes cs)
  | same f t _ ↦ rw (f, t, lt_self n, eq_self n) refl
  | more f t _ ↦ rw (f, t, lt_self n, eq_self n) refl
]

-- what is kept under another number stays
pub kept_elsewhere : (n m : ℕ) (bytes : List ℕ) (chunks : List Chunk) → m ≢ n → kept_bytes m (with_chunk n bytes chunks) ≡ kept_bytes m chunks
kept_elsewhere n m bytes [] apart = elim (compared n m) [
  | less t _ ↦ rw t refl
  | same f t e ↦ absurd (apart (sym e))
  | more f t _ ↦ rw (f, t) refl
]
kept_elsewhere n m bytes (c ∷ cs) apart = elim (compared c.number n) [
  | less t _ ↦ rw t (elim (compared c.number m) [
    | less t' _ ↦ rw t' (kept_elsewhere n m bytes cs apart)
    | same f' t' _ ↦ rw (f', t') refl
    | more f' t' _ ↦ rw (f', t') refl
  ])
  | same f t e ↦ rw (f, t) (elim (compared n m) [
    | less t' _ ↦ (let t'' : nat_lt c.number m ≡ true = ap (λ k. nat_lt k m) e ∙ t' in rw (t', t'') refl)
    | same f' t' e' ↦ absurd (apart (sym e'))
    | more f' t' _ ↦
        (let f'' : nat_lt c.number m ≡ false = ap (λ k. nat_lt k m) e ∙ f' in
        let t'' : nat_eq c.number m ≡ false = ap (λ k. nat_eq k m) e ∙ t' in rw (f', t', f'', t'') refl)
  ])
  | more f t above ↦ rw (f, t) (elim (compared n m) [
    | less t' _ ↦ rw t' refl
    | same f' t' e' ↦ absurd (apart (sym e'))
    | more f' t' below ↦ rw (f', t') (elim (compared c.number m) [
      | less t'' b ↦ absurd (omega (arith, above, below, b))
      | same f'' t'' e ↦ absurd (omega (arith, above, below, e))
      | more f'' t'' _ ↦ rw (f'', t'') refl
    ])
  ])
]

-- a chunk takes the place of the one of its number
pub with_chunk_twice : (n : ℕ) (bytes bytes' : List ℕ) (chunks : List Chunk) → with_chunk n bytes' (with_chunk n bytes chunks) ≡ with_chunk n bytes' chunks
with_chunk_twice n bytes bytes' [] = rw (lt_self n, eq_self n) refl
with_chunk_twice n bytes bytes' (c ∷ cs) = elim (compared c.number n) [
  | less t _ ↦ rw (t, t) (ap (λ (xs : List Chunk). c ∷ xs) (with_chunk_twice n bytes bytes' cs))
  | same f t _ ↦ rw (f, t, lt_self n, eq_self n) refl
  | more f t _ ↦ rw (f, t, lt_self n, eq_self n) refl
]

-- a chunk has 64 bytes
pub sized : (n : ℕ) (chunks : List Chunk) → length (chunk_bytes n chunks) ≡ 64
unfolding chunk_bytes zeros
sized n chunks = length-take-le 64 (kept_bytes n chunks ++ replicate 64 0) (simp length-append (let l = length-replicate 64 zero in omega (arith, l)))

-- its 64 kept bytes
pub whole_chunk : (n : ℕ) (chunks : List Chunk) → length (kept_bytes n chunks) ≡ 64 → chunk_bytes n chunks ≡ kept_bytes n chunks
unfolding chunk_bytes
whole_chunk n chunks long = take_at (kept_bytes n chunks) (zeros 64) 64 long

-- zeros where none are kept
pub chunk_of_none : (n : ℕ) (chunks : List Chunk) → kept_bytes n chunks ≡ [] → chunk_bytes n chunks ≡ zeros 64
unfolding chunk_bytes zeros
chunk_of_none n chunks none = rw none (take_at (replicate 64 0) [] 64 (length-replicate 64 zero))

-- a chunk's bytes, once it is in its place
pub chunk_here : (n : ℕ) (bytes : List ℕ) (chunks : List Chunk) → length bytes ≡ 64 → chunk_bytes n (with_chunk n bytes chunks) ≡ bytes
chunk_here n bytes chunks long =
    let is = kept_here n bytes chunks in whole_chunk n (with_chunk n bytes chunks) (ap (λ (xs : List ℕ). length xs) is ∙ long) ∙ is

-- another chunk's bytes stay
pub chunk_elsewhere : (n m : ℕ) (bytes : List ℕ) (chunks : List Chunk) → m ≢ n → chunk_bytes m (with_chunk n bytes chunks) ≡ chunk_bytes m chunks
unfolding chunk_bytes
chunk_elsewhere n m bytes chunks apart = ap (λ (xs : List ℕ). take 64 (xs ++ zeros 64)) (kept_elsewhere n m bytes chunks apart)

-- the chunk at the place for a number is that number's: its bytes are those that are kept
pub kept_at_index : (n : ℕ) (chunks : List Chunk) (d : Chunk) → index_of n chunks < length chunks → (get_or chunks (index_of n chunks) d).number ≡ n
    → kept_bytes n chunks ≡ (get_or chunks (index_of n chunks) d).bytes
kept_at_index n [] d there is = absurd (omega (arith, there))
kept_at_index n (c ∷ cs) d there is = elim (compared c.number n) [
  | less t _ ↦ rw t (kept_at_index n cs d (let h = rw t at there in omega (arith, h)) (rw t at is))
  | same f t e ↦ rw (f, t) refl
  | more f t above ↦ absurd (let e = rw f at is in omega (arith, above, e))
]

-- another takes its place
pub set_at_index : (n : ℕ) (bytes : List ℕ) (chunks : List Chunk) (d : Chunk) → index_of n chunks < length chunks → (get_or chunks (index_of n chunks) d).number ≡ n
    → set chunks (index_of n chunks) (record { number = n; bytes = bytes }) ≡ with_chunk n bytes chunks
set_at_index n bytes [] d there is = absurd (omega (arith, there))
set_at_index n bytes (c ∷ cs) d there is = elim (compared c.number n) [
  | less t _ ↦ rw t (ap (λ (xs : List Chunk). c ∷ xs) (set_at_index n bytes cs d (let h = rw t at there in omega (arith, h)) (rw t at is)))
  | same f t e ↦ rw (f, t) refl
  | more f t above ↦ absurd (let e = rw f at is in omega (arith, above, e))
]

-- the place for a number has no chunk of that number: none is kept
pub none_at_index : (n : ℕ) (chunks : List Chunk) (d : Chunk) → (index_of n chunks < length chunks → (get_or chunks (index_of n chunks) d).number ≢ n)
    → kept_bytes n chunks ≡ []
none_at_index n [] d none = refl
none_at_index n (c ∷ cs) d none = elim (compared c.number n) [
  | less t _ ↦ (let rest = rw t at none in rw t (none_at_index n cs d (λ there. rest (omega (arith, there)))))
  | same f t e ↦ absurd ((rw f at none) (omega arith) e)
  | more f t above ↦ rw (f, t) refl
]

-- a chunk goes there
pub insert_at_index : (n : ℕ) (bytes : List ℕ) (chunks : List Chunk) (d : Chunk) → (index_of n chunks < length chunks → (get_or chunks (index_of n chunks) d).number ≢ n)
    → insert chunks (index_of n chunks) (record { number = n; bytes = bytes }) ≡ with_chunk n bytes chunks
insert_at_index n bytes [] d none = refl
insert_at_index n bytes (c ∷ cs) d none = elim (compared c.number n) [
  | less t _ ↦ (let rest = rw t at none in rw t (ap (λ (xs : List Chunk). c ∷ xs) (insert_at_index n bytes cs d (λ there. rest (omega (arith, there))))))
  | same f t e ↦ absurd ((rw f at none) (omega arith) e)
  | more f t above ↦ rw (f, t) refl
]
