-- What the split search finds.
use Rattle.std.proofs.Common.{◌≡◌, ℕ, zero, suc, ◌+◌, ◌-◌, ◌*◌, ◌/◌, ◌%◌, ◌<◌, ◌≤◌, Bool, true, false, cond, not, nat_eq, nat_lt, List, [], ◌∷◌, ◌++◌, length, map, min, filter, take, drop, slice_index_or, ap, subst, refl, sym, ◌∙◌, arith, ◌⊎◌, inl, inr, Option, Some, None, zero-add, add_comm}
use Rattle.std.specs.List.{list_any, zip, Contains}
use Rattle.std.proofs.lemmas.Bool.Decides.{eqb_tells, leb_tells}
use Rattle.std.proofs.lemmas.List.{length-append, get_or-drop, get_or-take, get_or-append_right, length-drop, length-take, length-take-le}
use Rattle.std.proofs.Math.ListN.{get_or-append}
use Rattle.std.proofs.Math.Nat.{mul-le-mul_left, mod-eq_of_lt, add-mod-mod, add-mod_right, mod-lt}
use Rattle.std.proofs.lemmas.Bool.{true≢false}
use Rattle.std.proofs.lemmas.Slice.Zip.{length-zip}
use Rattle.std.specs.Prelude.{All, is_some}
use Rattle.std.proofs.lemmas.List.Elements.{All-append, All-filter, All-take, All-drop, All-contains_itself, All-nil, All-cons, All-head, All-tail}
use Rattle.mesh_bits.specs.Bits.{are_meshable, member_count}
use Rattle.model_heap.specs.Mesh.{do_overlap}
use Rattle.model_search.specs.Search.{Candidate, Pairing, split_search, rounds_from, pairs_of_round, tries, meshes, turned, unpaired, pairs_group, rotated}
use Rattle.model_heap.specs.Table.{Slot}
use Rattle.model_search.specs.SearchLaws.{IsMeshableIn, times_paired}
use Rattle.model_heap.specs.Sound.{times_in}

-- overlapping is that the sets of the occupied slots are not meshable
pub overlap_by_sets : (xs ys : List (Option Slot)) → do_overlap xs ys ≡ not (are_meshable (map is_some xs) (map is_some ys))
overlap_by_sets [] ys = refl
overlap_by_sets (x ∷ xs) [] = refl
overlap_by_sets (Some x ∷ xs) (Some y ∷ ys) = refl
overlap_by_sets (Some x ∷ xs) (None ∷ ys) = overlap_by_sets xs ys
overlap_by_sets (None ∷ xs) (Some y ∷ ys) = overlap_by_sets xs ys
overlap_by_sets (None ∷ xs) (None ∷ ys) = overlap_by_sets xs ys

-- meshable is symmetric
meshable-comm : (xs ys : List Bool) → are_meshable xs ys ≡ true → are_meshable ys xs ≡ true
meshable-comm [] [] h = refl
meshable-comm [] (y ∷ ys) h = refl
meshable-comm (x ∷ xs) [] h = refl
meshable-comm (true ∷ xs) (true ∷ ys) h = h
meshable-comm (true ∷ xs) (false ∷ ys) h = meshable-comm xs ys h
meshable-comm (false ∷ xs) (true ∷ ys) h = meshable-comm xs ys h
meshable-comm (false ∷ xs) (false ∷ ys) h = meshable-comm xs ys h

-- a test is true or false
tells : (b : Bool) → (b ≡ true) ⊎ (b ≡ false)
tells true = inl refl
tells false = inr refl

either_way : (b : Bool) (pair : Candidate × Candidate) (P : Pairing → Type 0) → P (record { source = pair.0.number; destination = pair.1.number })
    → P (record { source = pair.1.number; destination = pair.0.number })
    → P (cond b (record { source = pair.0.number; destination = pair.1.number }) (record { source = pair.1.number; destination = pair.0.number }))
either_way true pair P h g = h
either_way false pair P h g = g

-- both of a try are in the order
abbrev TriedIn : List Candidate → Candidate × Candidate → Type 0
TriedIn order try = Contains order try.0 × Contains order try.1

zip_all : (order gs hs : List Candidate) → All (Contains order) gs → All (Contains order) hs → All (TriedIn order) (zip gs hs)
zip_all order [] hs a b = All-nil (TriedIn order)
zip_all order (g ∷ gs) [] a b = All-nil (TriedIn order)
zip_all order (g ∷ gs) (h ∷ hs) a b =
    All-cons (TriedIn order) (g, h) (zip gs hs) (All-head (Contains order) g gs a, All-head (Contains order) h hs b)
    (zip_all order gs hs (All-tail (Contains order) g gs a) (All-tail (Contains order) h hs b))

turned_meshable : (order : List Candidate) (try : Candidate × Candidate) → TriedIn order try → meshes try ≡ true → IsMeshableIn order (turned try)
turned_meshable order try within h =
    either_way (nat_lt (member_count try.0.occupied) (member_count try.1.occupied)) try (IsMeshableIn order)
    (try.0, try.1, within.0, within.1, refl, refl, h)
    (try.1, try.0, within.1, within.0, refl, refl, meshable-comm try.0.occupied try.1.occupied h)

tries_meshable : (order : List Candidate) (ts : List (Candidate × Candidate)) → All (TriedIn order) ts → All (IsMeshableIn order) (map turned (filter meshes ts))
tries_meshable order [] h = All-nil (IsMeshableIn order)
tries_meshable order (t ∷ ts) h = elim (tells (meshes t)) [
  | inl mesh ↦ rw mesh (All-cons (IsMeshableIn order) (turned t) (map turned (filter meshes ts))
      (turned_meshable order t (All-head (TriedIn order) t ts h) mesh) (tries_meshable order ts (All-tail (TriedIn order) t ts h)))
  | inr other ↦ rw other (tries_meshable order ts (All-tail (TriedIn order) t ts h))
]

-- the pairs of all rounds are meshable
pub rounds_meshable : (order : List Candidate) (rounds i : ℕ) (left right : List Candidate) → All (Contains order) left → All (Contains order) right
    → All (IsMeshableIn order) (rounds_from rounds i left right).pairs
rounds_meshable order zero i left right a b = All-nil (IsMeshableIn order)
rounds_meshable order (suc rounds) i [] right a b = All-nil (IsMeshableIn order)
rounds_meshable order (suc rounds) i (x ∷ left) right a b =
    let pairs : List Pairing = pairs_of_round i (x ∷ left) right in
    let k : ℕ = i % length right in
    let both : All (TriedIn order) (tries i (x ∷ left) right) = zip_all order (x ∷ left) (rotated k right) a
    (All-append (Contains order) (drop k right) (take k right) (All-drop (Contains order) k right b) (All-take (Contains order) k right b)) in
    let stays : Candidate → Bool = λ c. not (list_any (pairs_group c) pairs) in
    All-append (IsMeshableIn order) pairs (rounds_from rounds (i + 1) (unpaired pairs (x ∷ left)) (unpaired pairs right)).pairs
    (tries_meshable order (tries i (x ∷ left) right) both)
    (rounds_meshable order rounds (i + 1) (unpaired pairs (x ∷ left)) (unpaired pairs right)
    (All-filter stays (Contains order) (x ∷ left) a) (All-filter stays (Contains order) right b))

-- the pairs of a search are meshable
pub search_meshable : (order : List Candidate) (t : ℕ) → All (IsMeshableIn order) (split_search order t).pairs
search_meshable order t =
    let own : All (Contains order) order = All-contains_itself order in
    let half : ℕ = length order / 2 in
    rounds_meshable order t 0 (take half order) (take half (drop half order)) (All-take (Contains order) half order own)
    (All-take (Contains order) half (drop half order) (All-drop (Contains order) half order own))

length-filter : (test : Candidate → Bool) (gs : List Candidate) → length (filter test gs) ≤ length gs
length-filter test [] = omega arith
length-filter test (g ∷ gs) = elim (test g) as (λ b. length (cond b (g ∷ filter test gs) (filter test gs)) ≤ length (g ∷ gs)) [
  | true ↦ let rest = length-filter test gs in omega (arith, rest)
  | false ↦ let rest = length-filter test gs in omega (arith, rest)
]

-- a round makes a probe for each group of the first list, which never grows
pub rounds_probes : (rounds i : ℕ) (left right : List Candidate) → (rounds_from rounds i left right).probes ≤ rounds * length left
rounds_probes zero i left right = omega arith
rounds_probes (suc rounds) i [] right = omega arith
rounds_probes (suc rounds) i (x ∷ left) right =
    let pairs : List Pairing = pairs_of_round i (x ∷ left) right in
    let fewer : length (unpaired pairs (x ∷ left)) ≤ length (x ∷ left) = length-filter (λ g. not (list_any (pairs_group g) pairs)) (x ∷ left) in
    let rest : (rounds_from rounds (i + 1) (unpaired pairs (x ∷ left)) (unpaired pairs right)).probes ≤ rounds * length (unpaired pairs (x ∷ left))
    = rounds_probes rounds (i + 1) (unpaired pairs (x ∷ left)) (unpaired pairs right) in
    grind (arith, mul-le-mul_left rounds fewer)

-- a number counted where it is the one
abbrev counted : ℕ → ℕ → ℕ
counted n m = cond (nat_eq m n) 1 0

-- a number's weight at a candidate
abbrev weight : ℕ → Candidate → ℕ
weight n group = cond (nat_eq group.number n) 1 0

-- how many of the candidates have the number
abbrev pub times : ℕ → List Candidate → ℕ
times n gs = times_in n (map (λ g. g.number) gs)

pub times-append : (n : ℕ) (gs hs : List Candidate) → times n (gs ++ hs) ≡ times n gs + times n hs
times-append n [] hs = sym (zero-add (times n hs))
times-append n (g ∷ gs) hs = let rest = times-append n gs hs in omega (arith, rest)

pub times-split : (n k : ℕ) (gs : List Candidate) → times n (take k gs) + times n (drop k gs) ≡ times n gs
times-split n zero gs = zero-add (times n gs)
times-split n (suc k) [] = omega arith
times-split n (suc k) (g ∷ gs) = let rest = times-split n k gs in omega (arith, rest)

pub times-filter : (n : ℕ) (test : Candidate → Bool) (gs : List Candidate) → times n (filter test gs) ≤ times n gs
times-filter n test [] = omega arith
times-filter n test (g ∷ gs) = elim (test g) as (λ b. times n (cond b (g ∷ filter test gs) (filter test gs)) ≤ times n (g ∷ gs)) [
  | true ↦ let rest = times-filter n test gs in omega (arith, rest)
  | false ↦ let rest = times-filter n test gs in omega (arith, rest)
]

times-rotated : (n k : ℕ) (gs : List Candidate) → times n (rotated k gs) ≡ times n gs
times-rotated n k gs = let parts = times-append n (drop k gs) (take k gs) in let whole = times-split n k gs in omega (arith, parts, whole)

paired-append : (n : ℕ) (ps qs : List Pairing) → times_paired n (ps ++ qs) ≡ times_paired n ps + times_paired n qs
paired-append n [] qs = sym (zero-add (times_paired n qs))
paired-append n (p ∷ ps) qs = let rest = paired-append n ps qs in omega (arith, rest)

-- how many of the tries' groups have the number
abbrev times_tried : ℕ → List (Candidate × Candidate) → ℕ
times_tried n [] = 0
times_tried n (t ∷ ts) = weight n t.0 + weight n t.1 + times_tried n ts

tried-zip : (n : ℕ) (gs hs : List Candidate) → times_tried n (zip gs hs) ≤ times n gs + times n hs
tried-zip n [] hs = omega arith
tried-zip n (g ∷ gs) [] = omega arith
tried-zip n (g ∷ gs) (h ∷ hs) = let rest = tried-zip n gs hs in omega (arith, rest)

turned_weight : (n : ℕ) (t : Candidate × Candidate) → counted n (turned t).source + counted n (turned t).destination ≡ weight n t.0 + weight n t.1
turned_weight n t = either_way (nat_lt (member_count t.0.occupied) (member_count t.1.occupied)) t
    (λ p. counted n p.source + counted n p.destination ≡ weight n t.0 + weight n t.1) refl (add_comm (weight n t.1) (weight n t.0))

paired-tries : (n : ℕ) (ts : List (Candidate × Candidate)) → times_paired n (map turned (filter meshes ts)) ≤ times_tried n ts
paired-tries n [] = omega arith
paired-tries n (t ∷ ts) = elim (tells (meshes t)) [
  | inl mesh ↦ rw mesh (let rest = paired-tries n ts in let same = turned_weight n t in omega (arith, rest, same))
  | inr other ↦ rw other (let rest = paired-tries n ts in omega (arith, rest))
]

-- a group that no pair has is in no pair
unpaired_group : (g : Candidate) (ps : List Pairing) → list_any (pairs_group g) ps ≡ false → times_paired g.number ps ≡ 0
unpaired_group g [] h = refl
unpaired_group g (p ∷ ps) h = elim (tells (nat_eq p.source g.number)) [
  | inl is ↦ let clash : true ≡ false = rw is at h in absurd (true≢false clash)
  | inr source ↦ elim (tells (nat_eq p.destination g.number)) [
    | inl is ↦ let clash : true ≡ false = rw (source, is) at h in absurd (true≢false clash)
    | inr destination ↦ let rest : list_any (pairs_group g) ps ≡ false = rw (source, destination) at h in
        rw (source, destination) (let none = unpaired_group g ps rest in omega (arith, none))
  ]
]

-- a number that is paired leaves the lists
paired_leaves : (n : ℕ) (ps : List Pairing) (gs : List Candidate) → 0 < times_paired n ps → times n (unpaired ps gs) ≡ 0
paired_leaves n ps [] h = refl
paired_leaves n ps (g ∷ gs) h = elim (tells (list_any (pairs_group g) ps)) [
  | inl gone ↦ rw gone (paired_leaves n ps gs h)
  | inr stays ↦ rw stays (elim (eqb_tells g.number n) [
    | inl same ↦ let none : times_paired n ps ≡ 0 = subst (λ (k : ℕ). times_paired k ps ≡ 0) same.1 (unpaired_group g ps stays) in absurd (omega (arith, none, h))
    | inr other ↦ rw other.0 (let rest = paired_leaves n ps gs h in omega (arith, rest))
  ])
]

-- a number is paired at most as often as it is in the lists
pub rounds_once : (rounds i n : ℕ) (left right : List Candidate) → times_paired n (rounds_from rounds i left right).pairs ≤ times n left + times n right
rounds_once zero i n left right = omega arith
rounds_once (suc rounds) i n [] right = omega arith
rounds_once (suc rounds) i n (x ∷ left) right =
    let pairs : List Pairing = pairs_of_round i (x ∷ left) right in
    let later : List Pairing = (rounds_from rounds (i + 1) (unpaired pairs (x ∷ left)) (unpaired pairs right)).pairs in
    let sum : times_paired n (pairs ++ later) ≡ times_paired n pairs + times_paired n later = paired-append n pairs later in
    let now : times_paired n pairs ≤ times_tried n (tries i (x ∷ left) right) = paired-tries n (tries i (x ∷ left) right) in
    let tried : times_tried n (tries i (x ∷ left) right) ≤ times n (x ∷ left) + times n (rotated (i % length right) right)
    = tried-zip n (x ∷ left) (rotated (i % length right) right) in
    let same : times n (rotated (i % length right) right) ≡ times n right = times-rotated n (i % length right) right in
    let rest : times_paired n later ≤ times n (unpaired pairs (x ∷ left)) + times n (unpaired pairs right)
    = rounds_once rounds (i + 1) n (unpaired pairs (x ∷ left)) (unpaired pairs right) in
    elim (eqb_tells (times_paired n pairs) 0) [
      | inl none ↦ let fewer = times-filter n (λ g. not (list_any (pairs_group g) pairs)) (x ∷ left) in
          let fewer' = times-filter n (λ g. not (list_any (pairs_group g) pairs)) right in
          omega (arith, sum, none.1, rest, fewer, fewer')
      | inr some ↦ let positive : 0 < times_paired n pairs = let apart = some.1 in omega (arith, apart) in
          let gone : times n (unpaired pairs (x ∷ left)) ≡ 0 = paired_leaves n pairs (x ∷ left) positive in
          let gone' : times n (unpaired pairs right) ≡ 0 = paired_leaves n pairs right positive in
          omega (arith, sum, now, tried, same, rest, gone, gone')
    ]

-- and so at most as often as it is in the order
pub search_once : (order : List Candidate) (t n : ℕ) → times_paired n (split_search order t).pairs ≤ times n order
search_once order t n =
    let half : ℕ = length order / 2 in
    let both = rounds_once t 0 n (take half order) (take half (drop half order)) in
    let whole = times-split n half order in
    let rest = times-split n half (drop half order) in
    omega (arith, both, whole, rest)

pub zip_at : (gs hs : List Candidate) (j : ℕ) (d : Candidate) → j < length gs → j < length hs
    → slice_index_or (zip gs hs) j (d, d) ≡ (slice_index_or gs j d, slice_index_or hs j d)
zip_at [] hs j d h g = absurd (omega (arith, h))
zip_at (x ∷ gs) [] j d h g = absurd (omega (arith, g))
zip_at (x ∷ gs) (y ∷ hs) zero d h g = refl
zip_at (x ∷ gs) (y ∷ hs) (suc j) d h g = zip_at gs hs j d (omega (arith, h)) (omega (arith, g))

pub length-rotated : (k : ℕ) (gs : List Candidate) → length (rotated k gs) ≡ length gs
length-rotated k gs = length-append (drop k gs) (take k gs) ∙ omega (arith, length-drop k gs, length-take k gs)

pub rotated_at : (k j : ℕ) (gs : List Candidate) (d : Candidate) → k < length gs → j < length gs
    → slice_index_or (rotated k gs) j d ≡ slice_index_or gs ((j + k) % length gs) d
rotated_at k j gs d h g = elim (leb_tells (length gs) (j + k)) [
  | inr below ↦ let inside : j < length (drop k gs) = omega (arith, long, below.1, h) in
      let at : k + j ≡ (j + k) % length gs = omega (arith, mod-eq_of_lt below.1) in
      get_or-append (drop k gs) (take k gs) d j inside ∙ get_or-drop k gs j d ∙ ap (λ (n : ℕ). slice_index_or gs n d) at
  | inl past ↦ let in_front : j - (length gs - k) < k = omega (arith, past.1, g, h) in
      let over : j + k ≡ (j - (length gs - k)) + length gs = omega (arith, past.1, h) in
      let small : j - (length gs - k) < length gs = omega (arith, in_front, h) in
      let at : (j + k) % length gs ≡ j - (length gs - k) = ap (λ (n : ℕ). n % length gs) over ∙ add-mod_right (j - (length gs - k)) (length gs) ∙ mod-eq_of_lt small in
      get_or-append_right (drop k gs) (take k gs) (length gs - k) j d long (omega (arith, past.1, h))
      ∙ get_or-take k gs (j - (length gs - k)) d in_front ∙ ap (λ (n : ℕ). slice_index_or gs n d) (sym at)
]
  where
    long : length (drop k gs) ≡ length gs - k
    long = length-drop k gs

-- the tries of a round are those of the index formula
pub tries_at : (i j : ℕ) (left right : List Candidate) (d : Candidate) → j < length left → j < length right
    → slice_index_or (tries i left right) j (d, d) ≡ (slice_index_or left j d, slice_index_or right ((j + i) % length right) d)
tries_at i j left right d h inside =
    let shift : i % length right < length right = mod-lt i (omega (arith, inside)) in
    let long : length (rotated (i % length right) right) ≡ length right = length-rotated (i % length right) right in
    let turn : slice_index_or (rotated (i % length right) right) j d ≡ slice_index_or right ((j + i % length right) % length right) d
    = rotated_at (i % length right) j right d shift inside in
    let at : (j + i % length right) % length right ≡ (j + i) % length right = add-mod-mod j i (length right) in
    let second : slice_index_or (rotated (i % length right) right) j d ≡ slice_index_or right ((j + i) % length right) d
    = turn ∙ ap (λ (n : ℕ). slice_index_or right n d) at in
    zip_at left (rotated (i % length right) right) j d h (omega (arith, long, inside)) ∙ ap (λ (g : Candidate). (slice_index_or left j d, g)) second

-- a round has as many tries as the shorter list has groups
pub tries_of_both : (i : ℕ) (left right : List Candidate) → length (tries i left right) ≡ min (length left) (length right)
tries_of_both i left right =
    let long = length-rotated (i % length right) right in length-zip left (rotated (i % length right) right) ∙ ap (λ (n : ℕ). min (length left) n) long

-- a search makes at most a probe a round for each group of the first half
pub search_probes : (order : List Candidate) (t : ℕ) → (split_search order t).probes ≤ t * (length order / 2)
search_probes order t =
    let half : length (take (length order / 2) order) ≡ length order / 2 = length-take-le (length order / 2) order (omega arith) in
    subst (λ (n : ℕ). (split_search order t).probes ≤ t * n) half
    (rounds_probes t 0 (take (length order / 2) order) (take (length order / 2) (drop (length order / 2) order)))
