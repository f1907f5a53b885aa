-- What a shuffle keeps.
use Rattle.std.proofs.Common.{◌≡◌, ℕ, zero, suc, ◌+◌, ◌%◌, ◌<◌, cond, nat_eq, List, [], ◌∷◌, All, length, take, drop, slice_index_or, refl, arith}
use Rattle.std.specs.List.{Contains, remove}
use Rattle.std.proofs.lemmas.List.{length-append, length-drop, length-take}
use Rattle.std.proofs.lemmas.List.Elements.{All-append, All-cons, All-contains_itself, All-drop, All-get_or, All-nil, All-take}
use Rattle.std.proofs.Math.Nat.{mod-lt}
use Rattle.model_search.specs.Search.{Candidate, first_word, picked, shuffle}
use Rattle.model_heap.specs.Sound.{times_in}

-- a list has one element less without one of them
pub length-remove : {A : Type 0} (xs : List A) (n i : ℕ) → length xs ≡ suc n → i < length xs → length (remove xs i) ≡ n
length-remove xs n i e h =
    let a = length-append (take i xs) (drop (suc i) xs) in
    let b = length-take i xs in
    let d = length-drop (suc i) xs in
    omega (arith, a, b, d, e, h)

-- a number is in a list as often as in what is left without an element, and once more where it is that element
times-remove : (n i : ℕ) (xs : List ℕ) (d : ℕ) → i < length xs
    → times_in n xs ≡ cond (nat_eq (slice_index_or xs i d) n) 1 0 + times_in n (remove xs i)
times-remove n i [] d h = absurd (omega (arith, h))
times-remove n zero (x ∷ xs) d h = refl
times-remove n (suc i) (x ∷ xs) d h = let rest = times-remove n i xs d (omega (arith, h)) in omega (arith, rest)

picked_keeps : (d k : ℕ) (xs words : List ℕ) (n : ℕ) → length xs ≡ k → times_in n (picked d k xs words) ≡ times_in n xs
picked_keeps d zero [] words n e = refl
picked_keeps d zero (x ∷ xs) words n e = absurd (omega (arith, e))
picked_keeps d (suc k) xs words n e =
    let place : ℕ = first_word words % length xs in
    let within : place < length xs = mod-lt (first_word words) (omega (arith, e)) in
    let rest = picked_keeps d k (remove xs place) (drop 1 words) n (length-remove xs k place e within) in
    let one = times-remove n place xs d within in
    omega (arith, rest, one)

-- a shuffle has each number as often as the list has it
pub shuffle_keeps : (list words : List ℕ) (n : ℕ) → times_in n (shuffle list words) ≡ times_in n list
shuffle_keeps [] words n = refl
shuffle_keeps (x ∷ xs) words n = picked_keeps x (length (x ∷ xs)) (x ∷ xs) words n refl

picked_all : (P : Candidate → Type 0) (d : Candidate) (k : ℕ) (xs : List Candidate) (words : List ℕ) → length xs ≡ k → All P xs → All P (picked d k xs words)
picked_all P d zero xs words e all = All-nil P
picked_all P d (suc k) xs words e all =
    let place : ℕ = first_word words % length xs in
    let within : place < length xs = mod-lt (first_word words) (omega (arith, e)) in
    All-cons P (slice_index_or xs place d) (picked d k (remove xs place) (drop 1 words)) (All-get_or P xs place d within all)
    (picked_all P d k (remove xs place) (drop 1 words) (length-remove xs k place e within)
    (All-append P (take place xs) (drop (suc place) xs) (All-take P place xs all) (All-drop P (suc place) xs all)))

-- each candidate of a shuffle is one of the list
pub shuffle_picks : (list : List Candidate) (words : List ℕ) → All (Contains list) (shuffle list words)
shuffle_picks [] words = All-nil (Contains [])
shuffle_picks (x ∷ xs) words =
    picked_all (Contains (x ∷ xs)) x (length (x ∷ xs)) (x ∷ xs) words refl (All-contains_itself (x ∷ xs))
