-- A search finds at most as many pairs as its first half has candidates.
use Rattle.std.proofs.Common.{◌≡◌, ℕ, suc, zero, ◌+◌, ◌*◌, ◌/◌, ◌%◌, ◌<◌, ◌≤◌, Bool, true, false, cond, not, ◌||◌, List, [], ◌∷◌, ◌++◌, arith, refl, ap, ◌∙◌, length, map, take, drop, filter, nat_eq, nat_lt, length-append, eq-eqb}
use Rattle.std.proofs.Math.Nat.{mul-le-mul}
use Rattle.std.specs.List.{list_any, zip}
use Rattle.std.specs.Prelude.{if◌then◌else◌}
use Rattle.std.proofs.lemmas.List.{length-take}
use Rattle.std.proofs.lemmas.Nat.{div-add-mod'}
use Rattle.mesh_bits.specs.Bits.{member_count}
use Rattle.model_search.specs.Search.{Candidate, Pairing, View, meshes, pairs_group, pairs_of_round, picked, rounds_from, search, shuffle, turned, unpaired}

or_true : (b : Bool) → (b || true) ≡ true
or_true true = refl
or_true false = refl

eq_same : (n : ℕ) → nat_eq n n ≡ true
eq_same n = eq-eqb n n refl

-- a try's pair has its first candidate
has_first : (x y : Candidate) → pairs_group x (turned (x, y)) ≡ true
has_first x y =
    let one : Pairing = record { source = x.number; destination = y.number } in
    let other : Pairing = record { source = y.number; destination = x.number } in
    elim (nat_lt (member_count x.occupied) (member_count y.occupied)) as (λ b. pairs_group x (if b then one else other) ≡ true) [
      | true ↦ ap (λ b. b || nat_eq y.number x.number) (eq_same x.number)
      | false ↦ ap (λ b. nat_eq y.number x.number || b) (eq_same x.number) ∙ or_true (nat_eq y.number x.number)
    ]

-- the pairs of tries
abbrev found : List Candidate → List Candidate → List Pairing
found xs ys = map turned (filter meshes (zip xs ys))

abbrev Covers : List Pairing → List Pairing → Type 0
Covers all some = (c : Candidate) → list_any (pairs_group c) some ≡ true → list_any (pairs_group c) all ≡ true

filter_few : {A : Type 0} (p : A → Bool) (xs : List A) → length (filter p xs) ≤ length xs
filter_few p [] = omega arith
filter_few p (x ∷ xs) =
    let rest : length (filter p xs) ≤ length xs = filter_few p xs in
    elim (p x) as (λ b. length (cond b (x ∷ filter p xs) (filter p xs)) ≤ suc (length xs)) [ true ↦ omega (arith, rest) | false ↦ omega (arith, rest) ]

unpaired_more : (all : List Pairing) (x : Candidate) (xs : List Candidate) → length (unpaired all (x ∷ xs)) ≤ suc (length (unpaired all xs))
unpaired_more all x xs =
    elim (not (list_any (pairs_group x) all)) as (λ b. length (cond b (x ∷ unpaired all xs) (unpaired all xs)) ≤ suc (length (unpaired all xs))) [
      | true ↦ omega arith
      | false ↦ omega arith
    ]

unpaired_same : (all : List Pairing) (x : Candidate) (xs : List Candidate) → list_any (pairs_group x) all ≡ true → unpaired all (x ∷ xs) ≡ unpaired all xs
unpaired_same all x xs has = ap (λ b. cond (not b) (x ∷ unpaired all xs) (unpaired all xs)) has

-- each pair has taken a candidate of the first list
unpaired_few : (all : List Pairing) (xs ys : List Candidate) → Covers all (found xs ys) → length (unpaired all xs) + length (found xs ys) ≤ length xs
unpaired_few all [] ys covers = omega arith
unpaired_few all (x ∷ xs) [] covers =
    let few : length (unpaired all (x ∷ xs)) ≤ length (x ∷ xs) = filter_few (λ c. not (list_any (pairs_group c) all)) (x ∷ xs) in
    omega (arith, few)
unpaired_few all (x ∷ xs) (y ∷ ys) covers =
    elim (meshes (x, y)) as (λ b. Covers all (map turned (cond b ((x, y) ∷ filter meshes (zip xs ys)) (filter meshes (zip xs ys))))
    → length (unpaired all (x ∷ xs)) + length (map turned (cond b ((x, y) ∷ filter meshes (zip xs ys)) (filter meshes (zip xs ys)))) ≤ suc (length xs)) [
      | true ↦ λ here.
          let taken : list_any (pairs_group x) all ≡ true = here x (ap (λ b. b || list_any (pairs_group x) (found xs ys)) (has_first x y)) in
          let rest : length (unpaired all xs) + length (found xs ys) ≤ length xs =
          unpaired_few all xs ys (λ c h. here c (ap (λ b. pairs_group c (turned (x, y)) || b) h ∙ or_true (pairs_group c (turned (x, y))))) in
          rw (unpaired_same all x xs taken) (omega (arith, rest))
      | false ↦ λ here.
          let rest : length (unpaired all xs) + length (found xs ys) ≤ length xs = unpaired_few all xs ys here in
          omega (arith, rest, unpaired_more all x xs)
    ] covers

rounds_few : (t i : ℕ) (left right : List Candidate) → length (rounds_from t i left right).pairs ≤ length left
rounds_few zero i left right = omega arith
rounds_few (suc t) i [] right = omega arith
rounds_few (suc t) i (x ∷ left) right =
    let pairs : List Pairing = pairs_of_round i (x ∷ left) right in
    let later : List Pairing = (rounds_from t (i + 1) (unpaired pairs (x ∷ left)) (unpaired pairs right)).pairs in
    let rest : length later ≤ length (unpaired pairs (x ∷ left)) = rounds_few t (i + 1) (unpaired pairs (x ∷ left)) (unpaired pairs right) in
    let here : length (unpaired pairs (x ∷ left)) + length pairs ≤ length (x ∷ left) =
    unpaired_few pairs (x ∷ left) (drop (i % length right) right ++ take (i % length right) right) (λ c h. h) in
    let both : length (pairs ++ later) ≡ length pairs + length later = length-append pairs later in
    omega (arith, rest, here, both)

picked_length : {A : Type 0} (d : A) (n : ℕ) (xs : List A) (words : List ℕ) → length (picked d n xs words) ≡ n
picked_length d zero xs words = refl
picked_length d (suc n) xs words = ap suc (picked_length d n _ _)

shuffle_length : {A : Type 0} (xs : List A) (words : List ℕ) → length (shuffle xs words) ≡ length xs
shuffle_length [] words = refl
shuffle_length (x ∷ xs) words = picked_length x (length (x ∷ xs)) (x ∷ xs) words

-- a class of at most 65,536 candidates has at most 32,768 pairs
pub search_few : (view : View) (words : List ℕ) (t : ℕ) → length view.candidates ≤ 65536 → length (search view words t).pairs ≤ 32768
search_few view words t few =
    let order : List Candidate = shuffle view.candidates words in
    let half : ℕ = length order / 2 in
    let all : length (rounds_from t 0 (take half order) (take half (drop half order))).pairs ≤ length (take half order) =
    rounds_few t 0 (take half order) (take half (drop half order)) in
    let cut : length (take half order) ≤ half = rw (length-take half order) (omega arith) in
    let total : length order ≡ length view.candidates = shuffle_length view.candidates words in
    let parts : half * 2 + length order % 2 ≡ length order = div-add-mod' (length order) 2 in
    omega (arith, all, cut, total, parts, few)

-- a search of at most 65,536 candidates in fewer than 2^32 rounds makes at most 2^47 tries
pub tries_within : (rounds candidates tries : ℕ) → rounds < 4294967296 → candidates ≤ 65536 → tries ≤ rounds * (candidates / 2)
    → tries ≤ 140737488355328
tries_within rounds candidates tries few small most =
    let half : candidates / 2 ≤ 32768 = omega (arith, small) in
    let below : rounds ≤ 4294967296 = omega (arith, few) in
    let product : rounds * (candidates / 2) ≤ 4294967296 * 32768 = mul-le-mul {n₁ = rounds} {m₁ = candidates / 2} {n₂ = 4294967296} {m₂ = 32768} below half in
    omega (arith, most, product)
