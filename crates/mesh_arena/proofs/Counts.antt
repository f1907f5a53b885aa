-- How many pages are free, and which is the lowest of them.
use Rattle.std.proofs.Common.{◌≡◌, ℕ, zero, suc, [], ◌+◌, ◌<◌, ◌≤◌, Bool, true, false, cond, List, Option, Some, None, length, set, take, replicate, refl, sym, ap, ◌∙◌, arith, add-one}
use Rattle.std.specs.Prelude.{is_none, not, position, count_by}
use Rattle.std.specs.List.{position_or_len}
use Rattle.std.proofs.lemmas.List.{take_all}
use Rattle.std.proofs.lemmas.List.Sums.{sum_by-set, count_by_more_no, count_by-le-length, position_or_len_is}
use Rattle.std.proofs.lemmas.List.Folds.{sum_by-replicate}
use Rattle.std.proofs.lemmas.Bool.Decides.{nat_tests}
use Rattle.mesh_arena.specs.Pages.{Pages, IsTaken, is_taken, free_count, lowest_free}

-- a change of one page changes the count by that page alone
pub free_count-set : (a : Pages) (p : ℕ) (c : Option (List ℕ)) → p < length a → free_count (set a p c) + cond (not (is_taken a p)) 1 0 ≡ free_count a + cond (is_none c) 1 0
unfolding free_count is_taken
free_count-set a p c h = sum_by-set (λ x. cond (is_none x) 1 0) a p c None h

pub free_count-replicate : (n : ℕ) → free_count (replicate n None) ≡ n
unfolding free_count
free_count-replicate n = omega (arith, sum_by-replicate (λ (x : Option (List ℕ)). cond (is_none x) 1 0) n None)

none_free_below : (a : Pages) (n : ℕ) → n ≤ length a → ((p : ℕ) → p < n → IsTaken a p) → count_by is_none (take n a) ≡ 0
unfolding is_taken
none_free_below a zero h all = refl
none_free_below a (suc n) h all =
    let here : n < length a = omega arith in
    let more : count_by is_none (take (n + 1) a) ≡ count_by is_none (take n a) = count_by_more_no is_none a n None here (ap not (all n (omega arith))) in
    rw add-one at more ∙ none_free_below a n (omega arith) (λ p l. all p (omega arith))

-- where every page is taken, none is free
pub none_free : (a : Pages) → ((p : ℕ) → p < length a → IsTaken a p) → free_count a ≡ 0
unfolding free_count
none_free a all = ap (count_by is_none) (sym (take_all (length a) a (omega arith))) ∙ none_free_below a (length a) (omega arith) all

zero_of_cond : (b : Bool) → ◌≡◌ {A = ℕ} (cond (not b) 1 0) 0 → b ≡ true
zero_of_cond true e = refl
zero_of_cond false e = absurd (omega arith)

-- where none is free, every page is taken
pub all_taken : (a : Pages) → free_count a ≡ 0 → (p : ℕ) → p < length a → IsTaken a p
all_taken a e p h = zero_of_cond (is_taken a p) (omega (arith, free_count-set a p (Some []) h))

found_at : (xs : Pages) (p : ℕ) → p < length xs → position_or_len is_none xs ≡ p → position is_none xs ≡ Some p
found_at xs p h e = rw e (grind (arith, nat_tests))

found_nowhere : (xs : Pages) → position_or_len is_none xs ≡ length xs → position is_none xs ≡ None
found_nowhere xs e = rw e (grind (arith, nat_tests))

-- the lowest free page is the one below which all are taken
pub lowest_free-is : (a : Pages) (p : ℕ) → p < length a → is_taken a p ≡ false → ((q : ℕ) → q < p → IsTaken a q) → lowest_free a ≡ Some p
unfolding is_taken
lowest_free-is a p h free below = found_at _ _ h (position_or_len_is is_none a p None (omega arith) (λ k l. ap not (below k l)) (λ _. ap not free))

-- and there is none where none is free
pub lowest_free-none : (a : Pages) → free_count a ≡ 0 → lowest_free a ≡ None
unfolding is_taken
lowest_free-none a e =
    found_nowhere a (position_or_len_is is_none a (length a) None (omega arith) (λ k l. ap not (all_taken a e k l)) (λ l. absurd (omega arith)))

-- no more pages are free than there are
pub free_count-le-length : (a : Pages) → free_count a ≤ length a
unfolding free_count
free_count-le-length a = count_by-le-length is_none a
