-- Frames that were made, some of them given back.
use Rattle.std.proofs.Common.{◌≡◌, ◌≢◌, ℕ, ◌+◌, ◌-◌, ◌<◌, ◌≤◌, ◌++◌, ◌∷◌, [], Bool, true, false, cond, not, List, Option, Some, None, length, set, get_or, replicate, refl, sym, ap, ◌∙◌, arith, length-set, length-append, get_or-set_same, get_or-set_other, ⊎_elim}
use Rattle.std.specs.Prelude.{is_some}
use Rattle.std.specs.Ordering.{nat_cmp}
use Rattle.std.specs.Cmp.{nat_cmp_total}
use Rattle.std.specs.FinSet.{FinSet, contains, empty, insert, remove, contains-empty, contains-insert, contains-remove}
use Rattle.std.proofs.lemmas.List.{get_or_append_left, get_or-append_right, same_lists}
use Rattle.std.proofs.lemmas.List.FromFn.{length-map-range_with_len, get_or-map-range_with_len}
use Rattle.std.proofs.lemmas.Bool.{cases_lt, cases_eq}
use Rattle.mesh_bins.specs.Words.{IsFirst, IsLeast}
use Rattle.mesh_bins.proofs.WordLemmas.{tied_same, tied_other}
use Rattle.mesh_arena.specs.Pages.{Pages, IsTaken, is_taken, bytes_of}
use Rattle.mesh_arena.specs.Frames.{AreMade, made_pages, page_at, pages_of, with_unmade}
use Rattle.mesh_arena.proofs.Unmade.{content-made, is_taken-unmade, made-below, length-with_unmade, set-made, set-next}

inserted_same : (given : FinSet nat_cmp) (p : ℕ) → contains (insert given p) p ≡ true
inserted_same given p = contains-insert nat_cmp_total given p p ∙ rw (tied_same p) refl

inserted_other : (given : FinSet nat_cmp) (p q : ℕ) → q ≢ p → contains (insert given p) q ≡ contains given q
inserted_other given p q ne = contains-insert nat_cmp_total given p q ∙ rw (tied_other q p ne) refl

removed_same : (given : FinSet nat_cmp) (p : ℕ) → contains (remove given p) p ≡ false
removed_same given p = contains-remove nat_cmp_total given p p ∙ rw (tied_same p) refl

removed_other : (given : FinSet nat_cmp) (p q : ℕ) → q ≢ p → contains (remove given p) q ≡ contains given q
removed_other given p q ne = contains-remove nat_cmp_total given p q ∙ rw (tied_other q p ne) refl

length-made_pages : (made : List (List ℕ)) (given : FinSet nat_cmp) → length (made_pages made given) ≡ length made
unfolding made_pages
length-made_pages made given = length-map-range_with_len (page_at made given) 0 (length made)

page-made_pages : (made : List (List ℕ)) (given : FinSet nat_cmp) (p : ℕ) (d : Option (List ℕ)) → p < length made → get_or (made_pages made given) p d ≡ page_at made given p
unfolding made_pages
page-made_pages made given p d h = get_or-map-range_with_len (page_at made given) 0 (length made) p p d h (omega arith)

-- a frame that was made and not given back has its bytes
kept_page : (made : List (List ℕ)) (given : FinSet nat_cmp) (p : ℕ) → contains given p ≡ false → page_at made given p ≡ Some (get_or made p [])
kept_page made given p e = rw e refl

-- and one that was given back is free
given_page : (made : List (List ℕ)) (given : FinSet nat_cmp) (p : ℕ) → contains given p ≡ true → page_at made given p ≡ None
given_page made given p e = rw e refl

-- pages that differ from others at one place alone
changed : (made more : List (List ℕ)) (given kept : FinSet nat_cmp) (p : ℕ) (x : Option (List ℕ)) → length more ≡ length made → page_at more kept p ≡ x
    → ((q : ℕ) → q ≢ p → page_at more kept q ≡ page_at made given q) → p < length made → made_pages more kept ≡ set (made_pages made given) p x
changed made more given kept p x sized here others h =
    let all : length (made_pages made given) ≡ length made = length-made_pages made given in
    let long : length (made_pages more kept) ≡ length made = length-made_pages more kept ∙ sized in
    same_lists (made_pages more kept) (set (made_pages made given) p x) (long ∙ sym (length-set (made_pages made given) p x ∙ all))
    (λ q d l.
    let within : q < length more = omega (arith, l, long, sized) in
    let below : q < length made = omega (arith, l, long) in
    ⊎_elim
    (λ (e : q ≡ p).
    let room : p < length (made_pages made given) = omega (arith, h, all) in
    page-made_pages more kept q d within ∙ ap (page_at more kept) e ∙ here ∙ sym (ap (λ i. get_or (set (made_pages made given) p x) i d) e ∙ get_or-set_same (made_pages made given) p x d room))
    (λ (ne : q ≢ p).
    page-made_pages more kept q d within ∙ others q ne ∙ sym (get_or-set_other (made_pages made given) p q x d ne ∙ page-made_pages made given q d below))
    (cases_eq q p))

set_page_other : (made : List (List ℕ)) (given kept : FinSet nat_cmp) (p q : ℕ) (bytes : List ℕ) → contains kept q ≡ contains given q → q ≢ p → page_at (set made p bytes) kept q ≡ page_at made given q
set_page_other made given kept p q bytes same ne = rw (same, get_or-set_other made p q bytes [] ne) refl

-- a taken page's frame was made
pub taken-frame : (made : List (List ℕ)) (given : FinSet nat_cmp) (n p : ℕ) → IsTaken (pages_of made given n) p → p < length made
taken-frame made given n p taken = omega (arith, made-below (made_pages made given) n p taken, length-made_pages made given)

pub is_taken-page : (made : List (List ℕ)) (given : FinSet nat_cmp) (n p : ℕ) → p < length made → is_taken (pages_of made given n) p ≡ not (contains given p)
unfolding is_taken
is_taken-page made given n p h =
    let within : p < length (made_pages made given) = omega (arith, h, length-made_pages made given) in
    ap is_some (content-made (made_pages made given) n p within ∙ page-made_pages made given p None h) ∙ told (contains given p)
  where
    told : (b : Bool) → is_some (cond b None (Some (get_or made p []))) ≡ not b
    told true = refl
    told false = refl

-- and it was not given back
not_true : (b : Bool) → not b ≡ true → b ≡ false
not_true true e = absurd (cc)
not_true false e = refl

taken-not_given : (made : List (List ℕ)) (given : FinSet nat_cmp) (n p : ℕ) → IsTaken (pages_of made given n) p → contains given p ≡ false
taken-not_given made given n p taken = not_true (contains given p) (sym (is_taken-page made given n p (taken-frame made given n p taken)) ∙ taken)

-- a taken page has its frame's bytes
pub bytes-frame : (made : List (List ℕ)) (given : FinSet nat_cmp) (n p : ℕ) → IsTaken (pages_of made given n) p → bytes_of (pages_of made given n) p ≡ get_or made p []
bytes-frame made given n p taken = grind (arith, taken-frame, length-made_pages, content-made, page-made_pages, taken-not_given)

-- new bytes in a taken page's frame
pub pages-written : (made : List (List ℕ)) (given : FinSet nat_cmp) (n p : ℕ) (bytes : List ℕ) → IsTaken (pages_of made given n) p → pages_of (set made p bytes) given n ≡ set (pages_of made given n) p (Some bytes)
pages-written made given n p bytes taken =
    let h : p < length made = taken-frame made given n p taken in
    let here : page_at (set made p bytes) given p ≡ Some bytes = kept_page (set made p bytes) given p (taken-not_given made given n p taken) ∙ ap Some (get_or-set_same made p bytes [] h) in
    ap (λ (a : Pages). with_unmade a n) (changed made (set made p bytes) given given p (Some bytes) (length-set made p bytes) here (λ q ne. set_page_other made given given p q bytes refl ne) h)
    ∙ set-made (made_pages made given) n p (Some bytes) (omega (arith, h, length-made_pages made given))

-- a taken page's frame is given back
pub pages-given : (made : List (List ℕ)) (given : FinSet nat_cmp) (n p : ℕ) → IsTaken (pages_of made given n) p → pages_of made (insert given p) n ≡ set (pages_of made given n) p None
pages-given made given n p taken =
    let h : p < length made = taken-frame made given n p taken in
    let within : p < length (made_pages made given) = omega (arith, h, length-made_pages made given) in
    let here : page_at made (insert given p) p ≡ None = given_page made (insert given p) p (inserted_same given p) in
    let others : (q : ℕ) → q ≢ p → page_at made (insert given p) q ≡ page_at made given q = λ q ne. rw (inserted_other given p q ne) refl in
    ap (λ (a : Pages). with_unmade a n) (changed made made given (insert given p) p None refl here others h) ∙ set-made (made_pages made given) n p None within

-- a frame that was given back is taken again
pub pages-taken : (made : List (List ℕ)) (given : FinSet nat_cmp) (n p : ℕ) (bytes : List ℕ) → p < length made → pages_of (set made p bytes) (remove given p) n ≡ set (pages_of made given n) p (Some bytes)
pages-taken made given n p bytes h =
    let here : page_at (set made p bytes) (remove given p) p ≡ Some bytes = kept_page (set made p bytes) (remove given p) p (removed_same given p) ∙ ap Some (get_or-set_same made p bytes [] h) in
    ap (λ (a : Pages). with_unmade a n)
    (changed made (set made p bytes) given (remove given p) p (Some bytes) (length-set made p bytes) here (λ q ne. set_page_other made given (remove given p) p q bytes (removed_other given p q ne) ne) h)
    ∙ set-made (made_pages made given) n p (Some bytes) (omega (arith, h, length-made_pages made given))

-- the pages where one more frame is made
made_pages-push : (made : List (List ℕ)) (given : FinSet nat_cmp) (bytes : List ℕ) → contains given (length made) ≡ false → made_pages (made ++ bytes ∷ []) given ≡ made_pages made given ++ Some bytes ∷ []
made_pages-push made given bytes fresh =
    let more : length (made ++ bytes ∷ []) ≡ length made + 1 = length-append made (bytes ∷ []) in
    let all : length (made_pages made given) ≡ length made = length-made_pages _ _ in
    let long : length (made_pages (made ++ bytes ∷ []) given) ≡ length made + 1 = length-made_pages _ _ ∙ more in
    let both : length (made_pages made given ++ Some bytes ∷ []) ≡ length made + 1 = length-append (made_pages made given) (Some bytes ∷ []) ∙ ap (λ k. k + 1) all in
    same_lists (made_pages (made ++ bytes ∷ []) given) (made_pages made given ++ Some bytes ∷ []) (long ∙ sym both)
    (λ q d l.
    let is = page-made_pages _ _ _ _ (omega (arith, l, long, more)) in
    ⊎_elim
    (λ (below : q < length made).
    let low : q < length (made_pages made given) = omega (arith, below, all) in
    is ∙ (rw (get_or_append_left made (bytes ∷ []) [] q below) refl) ∙ sym (get_or_append_left (made_pages made given) (Some bytes ∷ []) d q low ∙ page-made_pages _ _ _ _ below))
    (λ (past : length made ≤ q).
    let last : q ≡ length made = omega (arith, past, l, long) in
    let none : q - length made ≡ 0 = omega (arith, last) in
    let at : get_or (made ++ bytes ∷ []) q [] ≡ bytes = get_or-append_right made (bytes ∷ []) (length made) q [] refl past ∙ ap (λ i. get_or (bytes ∷ []) i []) none in
    let there : get_or (made_pages made given ++ Some bytes ∷ []) q d ≡ Some bytes = get_or-append_right (made_pages made given) (Some bytes ∷ []) (length made) q d all past ∙ ap (λ i. get_or (Some bytes ∷ []) i d) none in
    is ∙ kept_page _ _ _ (ap (contains given) last ∙ fresh) ∙ ap Some at ∙ sym there) (cases_lt q (length made)))

-- no frame is given back that is not made
unmade-not_given : (made : List (List ℕ)) (given : FinSet nat_cmp) (p : ℕ) → AreMade made given → length made ≤ p → contains given p ≡ false
unmade-not_given made given p are past = told (contains given p) refl
  where
    told : (b : Bool) → contains given p ≡ b → contains given p ≡ false
    told true e = absurd (omega (arith, are.within p e, past))
    told false e = e

-- the next frame is made
pub pages-next : (made : List (List ℕ)) (given : FinSet nat_cmp) (n : ℕ) (bytes : List ℕ) → AreMade made given → length made < n → pages_of (made ++ bytes ∷ []) given n ≡ set (pages_of made given n) (length made) (Some bytes)
pages-next made given n bytes are h =
    let all : length (made_pages made given) ≡ length made = length-made_pages made given in
    ap (λ (a : Pages). with_unmade a n) (made_pages-push made given bytes (unmade-not_given made given (length made) are (omega arith)))
    ∙ set-next (made_pages made given) n (Some bytes) (omega (arith, all, h)) ∙ ap (λ i. set (pages_of made given n) i (Some bytes)) all

-- there are so many pages
pub length-pages : (made : List (List ℕ)) (given : FinSet nat_cmp) (n : ℕ) → length made ≤ n → length (pages_of made given n) ≡ n
length-pages made given n h = length-with_unmade (made_pages made given) n (omega (arith, h, length-made_pages made given))

-- where the least frame that was given back is told, every page below it is taken, and it is not
pub record IsLowest (pages : Pages) (p : ℕ) : Type 0 where
  pub within : p < length pages
  pub free : is_taken pages p ≡ false
  pub passed : (k : ℕ) → k < p → IsTaken pages k

pub lowest-given : (made : List (List ℕ)) (given : FinSet nat_cmp) (n p : ℕ) → AreMade made given → length made ≤ n → IsFirst (contains given) 0 65536 p → IsLowest (pages_of made given n) p
lowest-given made given n p are room first = grind (arith, length-pages, is_taken-page)

-- where none was given back, every frame that was made is taken
pub all-taken : (made : List (List ℕ)) (given : FinSet nat_cmp) (n k : ℕ) → AreMade made given → n ≤ 4096 → length made ≤ n → IsLeast (contains given) 0 65536 None → k < length made → IsTaken (pages_of made given n) k
all-taken made given n k are few room none h = is_taken-page made given n k h ∙ ap not (none k (omega arith) (omega (arith, h, few, room)))

-- a frame that was not made is free, the next one among them
pub unmade-free : (made : List (List ℕ)) (given : FinSet nat_cmp) (n p : ℕ) → length made ≤ p → false ≡ is_taken (pages_of made given n) p
unmade-free made given n p past = sym (is_taken-unmade (made_pages made given) n p (omega (arith, past, length-made_pages made given)))

pub next-free : (made : List (List ℕ)) (given : FinSet nat_cmp) (n : ℕ) → is_taken (pages_of made given n) (length made) ≡ false
next-free made given n = sym (unmade-free made given n (length made) (omega arith))

-- the frames that are given back stay made
pub made-none : (made : List (List ℕ)) → AreMade made (empty {R = nat_cmp})
made-none made = record { within = λ p has. let no : contains (empty {R = nat_cmp}) p ≡ false = contains-empty nat_cmp p in absurd (cc) }

pub made-insert : (made : List (List ℕ)) (given : FinSet nat_cmp) (p : ℕ) → AreMade made given → p < length made → AreMade made (insert given p)
made-insert made given p are h = grind (arith, inserted_other)

pub made-remove : (made : List (List ℕ)) (given : FinSet nat_cmp) (p : ℕ) (bytes : List ℕ) → AreMade made given → AreMade (set made p bytes) (remove given p)
made-remove made given p bytes are = record {
  within = λ q has.
      ⊎_elim (λ (e : q ≡ p). let no : contains (remove given p) q ≡ false = ap (contains (remove given p)) e ∙ removed_same _ _ in absurd (cc))
      (λ (ne : q ≢ p). omega (arith, are.within q (sym (removed_other _ _ _ ne) ∙ has), length-set made p bytes)) (cases_eq q p);
}

pub made-push : (made : List (List ℕ)) (given : FinSet nat_cmp) (bytes : List ℕ) → AreMade made given → AreMade (made ++ bytes ∷ []) given
made-push made given bytes are = record { within = λ q has. omega (arith, are.within q has, length-append made (bytes ∷ [])) }

pub made-set : (made : List (List ℕ)) (given : FinSet nat_cmp) (p : ℕ) (bytes : List ℕ) → AreMade made given → AreMade (set made p bytes) given
made-set made given p bytes are = record { within = λ q has. omega (arith, are.within q has, length-set made p bytes) }

-- where no frame was made, all pages are free
pub pages-none : (made : List (List ℕ)) (given : FinSet nat_cmp) (n : ℕ) → made ≡ [] → pages_of made given n ≡ replicate n None
unfolding with_unmade made_pages
pages-none made given n e = let none : n - 0 ≡ n = omega arith in rw e (ap (λ m. replicate m None) none)

-- what a call on frames rests on
pub ruleset given_frames = (taken-frame, bytes-frame, pages-written, pages-given, pages-taken, pages-next, length-pages, lowest-given, made-none, made-insert, made-remove, made-push, made-set, next-free, all-taken)
