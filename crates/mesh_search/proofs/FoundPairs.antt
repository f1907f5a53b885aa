-- What the search of a view finds.
use Rattle.std.proofs.Common.{◌≡◌, ℕ, suc, ◌*◌, ◌/◌, ◌<◌, ◌≤◌, List, [], ◌∷◌, All, IfOk, Result, Ok, Err, length, map, slice_index_or, ap, subst, refl, ◌∙◌, arith, inl, inr}
use Rattle.std.specs.List.{Contains}
use Rattle.std.proofs.lemmas.Bool.Decides.{eqb_tells}
use Rattle.std.proofs.lemmas.List.Elements.{All-cons, All-contains, All-head, All-nil, All-tail}
use Rattle.model_search.proofs.Searches.{search_meshable, search_once, search_probes}
use Rattle.model_search.proofs.Shuffles.{shuffle_keeps, shuffle_picks}
use Rattle.model_search.specs.SearchLaws.{IsMeshableIn, times_paired}
use Rattle.model_search.specs.Search.{Candidate, Found, Pairing, View, search, shuffle, split_search}
use Rattle.model_heap.specs.Sound.{times_in}
use Rattle.mesh_search.proofs.Shuffled.{length-shuffle, map-shuffle}
use Rattle.mesh_search.specs.Views.{AreOnce, IsView, chosen, no_candidate}

-- a number below all of them is none of them
none_above : (n : ℕ) (cs : List Candidate) → ((j : ℕ) → j < length cs → n < (slice_index_or cs j no_candidate).number) → times_in n (map (λ (c : Candidate). c.number) cs) ≡ 0
none_above n [] above = refl
none_above n (c ∷ cs) above = elim (eqb_tells c.number n) [
  | inl same ↦ absurd (let h = above 0 (omega arith) in let e = same.1 in omega (arith, h, e))
  | inr apart ↦ rw apart.0 (let rest = none_above n cs (λ j l. above (suc j) (omega (arith, l))) in omega (arith, rest))
]

-- numbers that ascend are each there once
once_there : (n : ℕ) (cs : List Candidate)
    → ((j k : ℕ) → j < k → k < length cs → (slice_index_or cs j no_candidate).number < (slice_index_or cs k no_candidate).number)
    → times_in n (map (λ (c : Candidate). c.number) cs) ≤ 1
once_there n [] up = omega arith
once_there n (c ∷ cs) up = elim (eqb_tells c.number n) [
  | inl same ↦
      let none = none_above n cs (λ j l. let h = up 0 (suc j) (omega arith) (omega (arith, l)) in let e = same.1 in omega (arith, h, e)) in
      rw same.0 (omega (arith, none))
  | inr apart ↦ rw apart.0 (let rest = once_there n cs (λ j k l h. up (suc j) (suc k) (omega (arith, l)) (omega (arith, h))) in omega (arith, rest))
]

-- a pair that is meshable among some candidates is so among others that have them
meshable_among : (order list : List Candidate) → All (Contains list) order → (pairs : List Pairing) → All (IsMeshableIn order) pairs → All (IsMeshableIn list) pairs
meshable_among order list within [] all = All-nil (IsMeshableIn list)
meshable_among order list within (p ∷ ps) all =
    let h = All-head (IsMeshableIn order) p ps all in
    All-cons (IsMeshableIn list) p ps
    (h.0, h.1, All-contains (Contains list) order h.0 within h.2, All-contains (Contains list) order h.1 within h.3, h.4, h.5, h.6)
    (meshable_among order list within ps (All-tail (IsMeshableIn order) p ps all))

-- what is found over places is found over their candidates
pub found_over : {E : Type 0} (view : View) (slice places : List ℕ) (cs : List Candidate) (t : ℕ) (r : Result Found E) → slice ≡ places → chosen view places ≡ cs
    → IfOk r (λ f. f ≡ split_search (chosen view slice) t) → IfOk r (λ f. f ≡ split_search cs t)
found_over view slice places cs t r same is found =
    subst (λ (order : List Candidate). IfOk r (λ f. f ≡ split_search order t)) (ap (λ (ps : List ℕ). chosen view ps) same ∙ is) found

-- the shuffled candidates of a view have each number once
pub shuffled_once : (view : View) (words : List ℕ) → IsView view → AreOnce (shuffle view.candidates words)
shuffled_once view words sound n =
    let same : times_in n (map (λ (c : Candidate). c.number) (shuffle view.candidates words)) ≡ times_in n (map (λ (c : Candidate). c.number) view.candidates)
    = ap (λ (ns : List ℕ). times_in n ns) (map-shuffle (λ (c : Candidate). c.number) view.candidates words)
    ∙ shuffle_keeps (map (λ (c : Candidate). c.number) view.candidates) words n in
    let once = once_there n view.candidates sound.ascending in omega (arith, same, once)

-- what the search of a view finds
pub found_in : (view : View) (words : List ℕ) (t : ℕ) {E : Type 0} (r : Result Found E) → IsView view → IfOk r (λ f. f ≡ search view words t)
    → IfOk r (λ f. f.probes ≤ t * (length view.candidates / 2)) × IfOk r (λ f. All (IsMeshableIn view.candidates) f.pairs)
    × IfOk r (λ f. (n : ℕ) → times_paired n f.pairs ≤ 1)
found_in view words t (Err e) sound is = (tt, tt, tt)
found_in view words t (Ok f) sound is =
    let order : List Candidate = shuffle view.candidates words in
    let long : length order ≡ length view.candidates = length-shuffle view.candidates words in (
      rw is (subst (λ (n : ℕ). (split_search order t).probes ≤ t * (n / 2)) long (search_probes order t)),
      rw is (meshable_among order view.candidates (shuffle_picks view.candidates words) (split_search order t).pairs (search_meshable order t)),
      λ n. rw is (
          let once = shuffled_once view words sound n in omega (arith, search_once order t n, once)),
    )
