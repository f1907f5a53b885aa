-- The candidates of numbers, and their places in a view.
use Rattle.std.proofs.Common.{◌≡◌, ℕ, zero, suc, ◌+◌, ◌<◌, ◌≤◌, true, false, nat_eq, nat_lt, List, [], ◌∷◌, Option, Some, IsSome, find, length, map, All, if◌then◌else◌, slice_index_or, eqb, ◌*◌, ◌/◌, IfOk, Result, Ok, Err, ap, refl, sym, ◌∙◌, arith, subst, inl, inr}
use Rattle.std.specs.Option.{unwrap_or}
use Rattle.std.specs.List.Sorted.{IsPartitionPoint, IsPartitionedBy}
use Rattle.std.proofs.lemmas.Bool.{true≢false}
use Rattle.std.proofs.lemmas.Bool.Decides.{eqb_tells, leb_tells}
use Rattle.model_search.specs.Search.{Candidate, Found, View, split_search}
use Rattle.model_search.specs.SearchLaws.{IsMeshableIn, times_paired}
use Rattle.model_search.proofs.Searches.{search_meshable, search_once, search_probes}
use Rattle.mesh_search.proofs.Shuffled.{index_any}
use Rattle.std.specs.List.{AllByRecursion, IsDistinct, list_any}
use Rattle.std.proofs.lemmas.List.{length-map}
use Rattle.std.proofs.lemmas.List.Elements.{All-head, All-tail}
use Rattle.std.proofs.lemmas.Map.Steps.{length-le_from_distinct_below}
use Rattle.std.specs.declared.alloc.AllocError.{AllocError}
use Rattle.model_heap.specs.Sound.{times_in}
use Rattle.mesh_search.specs.Views.{AreNamed, AreOnce, IsView, named, candidate_at, candidate_named, is_numbered, no_candidate}

-- the place of an element that a test passes
found_place : (n : ℕ) (cs : List Candidate) → IsSome (find (is_numbered n) cs) → (p : ℕ) × (p < length cs) × ((slice_index_or cs p no_candidate).number ≡ n)
found_place n [] h = absurd (cc h)
found_place n (c ∷ cs) h = elim (eqb_tells c.number n) [
  | inl same ↦ (0, omega arith, same.1)
  | inr apart ↦ let later = found_place n cs (rw apart.0 at h) in (suc later.0, (let l = later.1 in omega (arith, l)), later.2)
]

-- the first element with a number is found
found_first : (n p : ℕ) (cs : List Candidate) → p < length cs → (slice_index_or cs p no_candidate).number ≡ n
    → ((j : ℕ) → j < p → (slice_index_or cs j no_candidate).number < n) → find (is_numbered n) cs ≡ Some (slice_index_or cs p no_candidate)
found_first n p [] h e low = absurd (omega (arith, h))
found_first n zero (c ∷ cs) h e low = elim (eqb_tells c.number n) [ inl same ↦ rw same.0 refl | inr apart ↦ absurd (apart.1 e) ]
found_first n (suc p) (c ∷ cs) h e low = elim (eqb_tells c.number n) [
  | inl same ↦ let less = low 0 (omega arith) in let is = same.1 in absurd (omega (arith, less, is))
  | inr apart ↦ rw apart.0 (found_first n p cs (omega (arith, h)) e (λ j l. low (suc j) (omega (arith, l))))
]

is_less : (a b : ℕ) → nat_lt a b ≡ true → a < b
is_less a b h = elim (leb_tells (suc a) b) [ inl l ↦ l.1 | inr l ↦ absurd (true≢false (sym h ∙ l.0)) ]

not_less : (a b : ℕ) → nat_lt a b ≡ false → b ≤ a
not_less a b h = elim (leb_tells (suc a) b) [ inl l ↦ absurd (true≢false (sym l.0 ∙ h)) | inr l ↦ let g = l.1 in omega (arith, g) ]

-- the numbers of a view ascend, so a number parts those below it from the others
parted : (view : View) (n : ℕ) → IsView view → IsPartitionedBy (λ (c : Candidate). nat_lt c.number n) view.candidates
parted view n is i j d h g low =
    let xs : List Candidate = view.candidates in
    let at_i : slice_index_or xs i d ≡ candidate_at view i = index_any xs i d no_candidate (omega (arith, h, g)) in
    let at_j : slice_index_or xs j d ≡ candidate_at view j = index_any xs j d no_candidate g in
    let less : (candidate_at view j).number < n = is_less _ _ (ap (λ (c : Candidate). nat_lt c.number n) (sym at_j) ∙ low) in
    let below : (candidate_at view i).number < n = (elim (leb_tells (suc i) j) [
      | inl l ↦ let up = is.ascending i j l.1 g in omega (arith, up, less)
      | inr l ↦ let same : i ≡ j = (let k = l.1 in omega (arith, k, h)) in rw same less
    ]) in
    ap (λ (c : Candidate). nat_lt c.number n) at_i ∙ (elim (leb_tells (suc (candidate_at view i).number) n) [ inl l ↦ l.0 | inr l ↦ absurd (let k = l.1 in omega (arith, k, below)) ])

-- where the numbers from a place on are not below a number of the view, the place is that of its candidate
place_found : (view : View) (n i : ℕ) → IsView view → IsSome (find (is_numbered n) view.candidates)
    → IsPartitionPoint (λ (c : Candidate). nat_lt c.number n ≡ true) (λ c. nat_lt c.number n ≡ false) view.candidates i
    → (i < length view.candidates) × ((candidate_at view i).number ≡ n) × (candidate_at view i ≡ candidate_named view n)
place_found view n i is there point =
    let p = found_place n view.candidates there in
    let within : p.0 < length view.candidates = p.1 in
    let at : (candidate_at view p.0).number ≡ n = p.2 in
    let past : i ≤ p.0 = (elim (leb_tells (suc p.0) i) [
      | inl l ↦ let less = is_less _ _ (point.0 p.0 no_candidate (omega arith) l.1) in absurd (omega (arith, less, at))
      | inr l ↦ let g = l.1 in omega (arith, g)
    ]) in
    let same : p.0 ≡ i = (elim (leb_tells (suc i) p.0) [
      | inl l ↦ let low = is.ascending i p.0 l.1 within in let high = not_less _ _ (point.1 i no_candidate (omega arith) (let g = l.1 in omega (arith, g, within))) in absurd (omega (arith, low, high, at))
      | inr l ↦ let g = l.1 in omega (arith, g, past)
    ]) in
    let number : (candidate_at view i).number ≡ n = ap (λ (m : ℕ). (candidate_at view m).number) (sym same) ∙ at in
    let inside : i < length view.candidates = omega (arith, same, within) in
    let first : find (is_numbered n) view.candidates ≡ Some (candidate_at view i)
    = found_first n i view.candidates inside number (λ j l. is_less _ _ (point.0 j no_candidate (omega arith) l)) in
    (inside, number, ap (λ (o : Option Candidate). unwrap_or o no_candidate) (sym first))

-- a view's numbers are parted, whatever list stands for its candidates
pub parted_in : (view : View) (xs : List Candidate) (n : ℕ) → IsView view → xs ≡ view.candidates → IsPartitionedBy (λ (c : Candidate). nat_lt c.number n) xs
parted_in view xs n is same = subst (λ (cs : List Candidate). IsPartitionedBy (λ (c : Candidate). nat_lt c.number n) cs) (sym same) (parted view n is)

pub place_in : (view given : View) (xs : List Candidate) (n i : ℕ) → IsView given → given ≡ view → xs ≡ given.candidates → IsSome (find (is_numbered n) view.candidates)
    → IsPartitionPoint (λ (c : Candidate). nat_lt c.number n ≡ true) (λ c. nat_lt c.number n ≡ false) xs i
    → (i < length view.candidates) × ((candidate_at view i).number ≡ n) × (candidate_at view i ≡ candidate_named view n)
place_in view given xs n i is tied same there point =
    place_found view n i (subst IsView tied is) there
    (subst (λ (cs : List Candidate). IsPartitionPoint (λ (c : Candidate). nat_lt c.number n ≡ true) (λ c. nat_lt c.number n ≡ false) cs i)
    (same ∙ ap (λ (v : View). v.candidates) tied) point)

-- the place of the first candidate with a number
abbrev place_or : ℕ → List Candidate → ℕ
place_or n [] = 0
place_or n (c ∷ cs) = if nat_eq c.number n then 0 else suc (place_or n cs)

-- the number is a candidate's
abbrev pub IsIn : List Candidate → ℕ → Type 0
IsIn cs n = IsSome (find (is_numbered n) cs)

placed : (n : ℕ) (cs : List Candidate) → IsIn cs n → (place_or n cs < length cs) × ((slice_index_or cs (place_or n cs) no_candidate).number ≡ n)
placed n [] h = absurd (cc h)
placed n (c ∷ cs) h = elim (eqb_tells c.number n) [
  | inl same ↦ rw same.0 (omega arith, same.1)
  | inr apart ↦ let later = placed n cs (rw apart.0 at h) in rw apart.0 ((let l = later.0 in omega (arith, l)), later.1)
]

-- numbers that are not the one have other places
others : (n : ℕ) (cs : List Candidate) (ns : List ℕ) → IsIn cs n → All (IsIn cs) ns → times_in n ns ≡ 0
    → AllByRecursion (λ (y : ℕ). eqb (place_or n cs) y ≡ false) (map (λ (m : ℕ). place_or m cs) ns)
others n cs [] there all none = tt
others n cs (m ∷ ns) there all none = elim (eqb_tells m n) [
  | inl same ↦ absurd (let one : times_in n (m ∷ ns) ≡ 1 + times_in n ns = rw same.0 refl in omega (arith, one, none))
  | inr apart ↦
      let rest : times_in n ns ≡ 0 = (let zero_ : times_in n (m ∷ ns) ≡ 0 + times_in n ns = rw apart.0 refl in omega (arith, zero_, none)) in
      let at = placed m cs (All-head (IsIn cs) m ns all) in (
        (elim (eqb_tells (place_or n cs) (place_or m cs)) [
          | inl same ↦ absurd (apart.1 (sym at.1 ∙ ap (λ (p : ℕ). (slice_index_or cs p no_candidate).number) (sym same.1) ∙ (placed n cs there).1))
          | inr other ↦ other.0
        ]),
        others n cs ns there (All-tail (IsIn cs) m ns all) rest,
      )
]

-- different numbers have different places
apart : (cs : List Candidate) (ns : List ℕ) → All (IsIn cs) ns → ((n : ℕ) → times_in n ns ≤ 1) → IsDistinct eqb (map (λ (m : ℕ). place_or m cs) ns)
unfolding IsDistinct
apart cs [] all once = tt
apart cs (n ∷ ns) all once =
    let one : times_in n (n ∷ ns) ≡ 1 + times_in n ns = (elim (eqb_tells n n) [ inl same ↦ rw same.0 refl | inr other ↦ absurd (other.1 refl) ]) in
    let no_more : times_in n ns ≡ 0 = (let h = once n in omega (arith, one, h)) in (
      others n cs ns (All-head (IsIn cs) n ns all) (All-tail (IsIn cs) n ns all) no_more,
      apart cs ns (All-tail (IsIn cs) n ns all) (λ m. let h = once m in omega (arith, h)),
    )

all_below : (cs : List Candidate) (ns : List ℕ) (q : ℕ) → All (IsIn cs) ns → list_any (eqb q) (map (λ (m : ℕ). place_or m cs) ns) ≡ true → q < length cs
all_below cs [] q all h = absurd (cc h)
all_below cs (n ∷ ns) q all h = elim (eqb_tells q (place_or n cs)) [
  | inl same ↦ let at = (placed n cs (All-head (IsIn cs) n ns all)).0 in let e = same.1 in omega (arith, at, e)
  | inr other ↦ all_below cs ns q (All-tail (IsIn cs) n ns all) (rw other.0 at h)
]

-- a view has as many candidates as it has different numbers
pub few_named : (view : View) (numbers : List ℕ) → AreNamed view numbers → length numbers ≤ length view.candidates
few_named view numbers are =
    let few = length-le_from_distinct_below (map (λ (m : ℕ). place_or m view.candidates) numbers) (length view.candidates)
    (apart view.candidates numbers are.each are.once) (λ q h. all_below view.candidates numbers q are.each h) in
    omega (arith, (length-map numbers (λ (m : ℕ). place_or m view.candidates)), few)

number_named : (n : ℕ) (cs : List Candidate) → IsIn cs n → (unwrap_or (find (is_numbered n) cs) no_candidate).number ≡ n
number_named n [] h = absurd (cc h)
number_named n (c ∷ cs) h = elim (eqb_tells c.number n) [
  | inl same ↦ rw same.0 same.1
  | inr apart ↦ rw apart.0 (number_named n cs (rw apart.0 at h))
]

-- the candidates of numbers have these numbers
numbers_named : (view : View) (ns : List ℕ) → All (IsIn view.candidates) ns → map (λ (c : Candidate). c.number) (named view ns) ≡ ns
numbers_named view [] all = refl
numbers_named view (n ∷ ns) all =
    ap (λ (m : ℕ). m ∷ map (λ (c : Candidate). c.number) (named view ns)) (number_named n view.candidates (All-head (IsIn view.candidates) n ns all))
    ∙ ap (λ (ms : List ℕ). n ∷ ms) (numbers_named view ns (All-tail (IsIn view.candidates) n ns all))

-- the candidates of numbers have each number once
pub named_once : (view : View) (numbers : List ℕ) → AreNamed view numbers → AreOnce (named view numbers)
named_once view numbers are n = subst (λ (ns : List ℕ). times_in n ns ≤ 1) (sym (numbers_named view numbers are.each)) (are.once n)

-- what a search over an order of numbers finds
pub found_named : (view : View) (numbers : List ℕ) (t : ℕ) (r : Result Found AllocError) → AreNamed view numbers → IfOk r (λ f. f ≡ split_search (named view numbers) t)
    → IfOk r (λ f. f.probes ≤ t * (length numbers / 2)) × IfOk r (λ f. All (IsMeshableIn (named view numbers)) f.pairs)
    × IfOk r (λ f. (n : ℕ) → times_paired n f.pairs ≤ 1)
found_named view numbers t (Err e) are is = (tt, tt, tt)
found_named view numbers t (Ok f) are is =
    let order : List Candidate = named view numbers in
    let long : length order ≡ length numbers = length-map numbers (candidate_named view) in (
      rw is (subst (λ (n : ℕ). (split_search order t).probes ≤ t * (n / 2)) long (search_probes order t)),
      rw is (search_meshable order t),
      λ n. rw is (
          let times : times_paired n (split_search order t).pairs ≤ times_in n numbers
          = subst (λ (ns : List ℕ). times_paired n (split_search order t).pairs ≤ times_in n ns) (numbers_named view numbers are.each) (search_once order t n) in
          let once = are.once n in omega (arith, times, once)),
    )
