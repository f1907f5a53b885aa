-- A range of bytes in runs: each run is in one chunk, and what is left begins in the next chunk.
use Rattle.std.proofs.Common.{◌≡◌, ℕ, zero, suc, ◌+◌, ◌*◌, ◌-◌, ◌<◌, ◌≤◌, Bool, true, false, ◌&&◌, List, [], ◌∷◌, ◌++◌, length, take, drop, slice_range, nat_eq, refl, sym, ap, ◌∙◌, arith, inl, inr, take-add, drop_of_length-le, take_all}
use Rattle.std.specs.Str.{bytes_eq}
use Rattle.std.proofs.lemmas.Bool.Decides.{leb_tells}
use Rattle.std.proofs.lemmas.List.{append-nil, drop-drop, length-append, length-drop, length-take, length-take-le}
use Rattle.history_object.specs.declared.chunk.Chunk.{Chunk}
use Rattle.history_object.specs.Chunks.{stored}
use Rattle.history_object.proofs.Stored.{stored_in_two}

-- if bytes are left, they begin at this place of this chunk, and end at this offset
abbrev pub IsLeft : ℕ → ℕ → ℕ → ℕ → Type 0
IsLeft number place left end = 0 < left → number * 64 + place + left ≡ end

-- behind a run that ends before them, the bytes begin in the next chunk
pub left_behind : (number place run left rest end : ℕ) → rest + run ≡ left → (run < left → place + run ≡ 64) → IsLeft number place left end
    → IsLeft (number + 1) 0 rest end
left_behind number place run left rest end sum full is some =
    let full' = full (omega (arith, sum, some)) in
    let was = is (omega (arith, sum, some)) in
    omega (arith, sum, full', was)

-- a range without bytes
range_none : (xs : List ℕ) (k : ℕ) → slice_range xs k (k + 0) ≡ []
range_none xs k = let none : k + 0 - k ≡ 0 = omega arith in ap (λ (n : ℕ). take n (drop k xs)) none

-- a range and the range behind it
range_more : (xs : List ℕ) (k m n : ℕ) → slice_range xs k (k + m) ++ slice_range xs (k + m) (k + m + n) ≡ slice_range xs k (k + (m + n))
range_more xs k m n =
    let first : k + m - k ≡ m = omega arith in
    let rest : k + m + n - (k + m) ≡ n = omega arith in
    let all : k + (m + n) - k ≡ m + n = omega arith in
    rw (first, rest, all, take-add m n (drop k xs), drop-drop m k xs) refl

-- a run and what is left behind it
pub run_and_rest : (xs : List ℕ) (number place run left rest : ℕ) → rest + run ≡ left → (run < left → place + run ≡ 64)
    → slice_range xs (number * 64 + place) (number * 64 + place + run) ++ slice_range xs ((number + 1) * 64 + 0) ((number + 1) * 64 + 0 + rest)
    ≡ slice_range xs (number * 64 + place) (number * 64 + place + left)
run_and_rest xs number place run left zero sum full =
    let all : run ≡ left = omega (arith, sum) in
    ap (λ (ys : List ℕ). slice_range xs (number * 64 + place) (number * 64 + place + run) ++ ys) (range_none xs ((number + 1) * 64 + 0))
    ∙ append-nil (slice_range xs (number * 64 + place) (number * 64 + place + run))
    ∙ ap (λ (n : ℕ). slice_range xs (number * 64 + place) (number * 64 + place + n)) all
run_and_rest xs number place run left (suc rest) sum full =
    let next : (number + 1) * 64 + 0 ≡ number * 64 + place + run = (let full' = full (omega (arith, sum)) in omega (arith, full')) in
    let all : run + suc rest ≡ left = omega (arith, sum) in
    ap (λ (k : ℕ). slice_range xs (number * 64 + place) (number * 64 + place + run) ++ slice_range xs k (k + suc rest)) next
    ∙ range_more xs (number * 64 + place) run (suc rest)
    ∙ ap (λ (n : ℕ). slice_range xs (number * 64 + place) (number * 64 + place + n)) all

and_assoc : (a b c : Bool) → (a && (b && c)) ≡ ((a && b) && c)
and_assoc true b c = refl
and_assoc false b c = refl

-- lists are equal if their parts are
bytes_eq-append : (xs ys us vs : List ℕ) → length xs ≡ length us → bytes_eq (xs ++ ys) (us ++ vs) ≡ (bytes_eq xs us && bytes_eq ys vs)
bytes_eq-append [] ys [] vs same = refl
bytes_eq-append [] ys (u ∷ us) vs same = absurd (omega (arith, same))
bytes_eq-append (x ∷ xs) ys [] vs same = absurd (omega (arith, same))
bytes_eq-append (x ∷ xs) ys (u ∷ us) vs same =
    ap (λ (b : Bool). nat_eq x u && b) (bytes_eq-append xs ys us vs (omega (arith, same)))
    ∙ and_assoc (nat_eq x u) (bytes_eq xs us) (bytes_eq ys vs)

-- a range within the bytes has its length
pub range_long : (xs : List ℕ) (k n : ℕ) → k + n ≤ length xs → length (slice_range xs k (k + n)) ≡ n
range_long xs k n fits = simp (length-take, length-drop) (omega (arith, fits))

-- the bytes that are left are compared run by run
pub compared_by_runs : (xs : List ℕ) (number place : ℕ) (first rest left : List ℕ) → first ++ rest ≡ left → (length first < length left → place + length first ≡ 64)
    → number * 64 + place + length left ≤ length xs
    → bytes_eq left (slice_range xs (number * 64 + place) (number * 64 + place + length left))
    ≡ (bytes_eq first (slice_range xs (number * 64 + place) (number * 64 + place + length first))
    && bytes_eq rest (slice_range xs ((number + 1) * 64 + 0) ((number + 1) * 64 + 0 + length rest)))
compared_by_runs xs number place first rest left parts full fits =
    let sum : length rest + length first ≡ length left = (let both = length-append first rest in let long = ap (λ (ys : List ℕ). length ys) parts in omega (arith, both, long)) in
    let start : ℕ = number * 64 + place in
    let next : ℕ = (number + 1) * 64 + 0 in
    let long = range_long xs start (length first) (omega (arith, fits, sum)) in
    ap (λ (ys : List ℕ). bytes_eq ys (slice_range xs start (start + length left))) (sym parts)
    ∙ ap (λ (ys : List ℕ). bytes_eq (first ++ rest) ys) (sym (run_and_rest xs number place (length first) (length left) (length rest) sum full))
    ∙ bytes_eq-append first rest (slice_range xs start (start + length first)) (slice_range xs next (next + length rest)) (sym long)

-- the bytes that are left are stored run by run
pub stored_by_runs : (chunks : List Chunk) (number place run : ℕ) (left : List ℕ) → run ≤ length left → (run < length left → place + run ≡ 64)
    → stored (stored chunks (number * 64 + place) (take run left)) ((number + 1) * 64 + 0) (drop run left) ≡ stored chunks (number * 64 + place) left
stored_by_runs chunks number place run left within full = elim (leb_tells (suc run) (length left)) [
  | inl less ↦
      (let lt = less.1 in
      let full' = full (omega (arith, lt)) in
      let long = length-take-le run left within in
      stored_in_two chunks (number * 64 + place) run ((number + 1) * 64 + 0) left (omega (arith, full', long)))
  | inr not ↦
      (let all = not.1 in
      ap (λ (xs : List ℕ). stored (stored chunks (number * 64 + place) (take run left)) ((number + 1) * 64 + 0) xs) (drop_of_length-le left (omega (arith, all)))
      ∙ ap (λ (xs : List ℕ). stored chunks (number * 64 + place) xs) (take_all run left (omega (arith, all))))
]
