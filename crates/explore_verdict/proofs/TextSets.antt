-- Texts that are in a set, or missing in it.
use Rattle.std.proofs.Common.{◌≡◌, ◌∙◌, ◌++◌, ◌∷◌, [], ◌||◌, ℕ, zero, suc, Bool, true, false, List, Option, Some, None, append-nil, ap, refl, slice_get, sym, is_some, if◌then◌else◌}
use Rattle.std.specs.Prelude.{MatchOption}
use Rattle.model_jobs.specs.JobFiles.{are_same}
use Rattle.model_jobs.proofs.FieldReadings.{same_by_test}
use Rattle.model_jobs.proofs.Fields.{same_bytes}
use Rattle.states_pool.specs.Pool.{IsAbsent}
use Rattle.explore_verdict.specs.TextSets.{is_in, with_text, without}

some_same : {A : Type 0} {x y : A} → Some x ≡ Some y → x ≡ y
some_same h = cc

either : (one other : Bool) → other ≡ true → (one || other) ≡ true
either true other is = refl
either false other is = is

neither : (one other : Bool) → (one ≡ true → ⊥) → other ≡ false → (one || other) ≡ false
neither true other isnt none = absurd (isnt refl)
neither false other isnt none = none

-- a text at a place is in the list
in_at : (texts : List (List ℕ)) (x : List ℕ) (i : ℕ) → slice_get texts i ≡ Some x → is_in texts x ≡ true
in_at [] x i h = absurd (cc h)
in_at (y ∷ ys) x zero h = (let same : y ≡ x = some_same h in rw (same, same_bytes x) refl)
in_at (y ∷ ys) x (suc i) h = either (are_same y x) (is_in ys x) (in_at ys x i h)

-- a text at no place isn't
not_in : (texts : List (List ℕ)) (x : List ℕ) → IsAbsent texts x → is_in texts x ≡ false
not_in [] x absent = refl
not_in (y ∷ ys) x absent =
    neither (are_same y x) (is_in ys x) (λ is. absent 0 (ap (λ z. Some z) (same_by_test y x is))) (not_in ys x (λ i h. absent (suc i) h))

-- a text that isn't in the list is at no place
pub absent_from : (texts : List (List ℕ)) (x : List ℕ) → is_in texts x ≡ false → IsAbsent texts x
absent_from texts x none i h = (let both : true ≡ false = sym (in_at texts x i h) ∙ none in cc)

-- whether a search found the text
pub found_in : (texts : List (List ℕ)) (x : List ℕ) (found : Option ℕ) → MatchOption found (IsAbsent texts x) (λ number. slice_get texts number ≡ Some x)
    → is_some found ≡ is_in texts x
found_in texts x None absent = sym (not_in texts x absent)
found_in texts x (Some number) there = sym (in_at texts x number there)

without_more : (is : Bool) (x : List ℕ) (xs ys zs : List (List ℕ)) → xs ≡ ys ++ zs
    → (if is then xs else x ∷ xs) ≡ (if is then ys else x ∷ ys) ++ zs
without_more true x xs ys zs e = e
without_more false x xs ys zs e = ap (λ (ts : List (List ℕ)). x ∷ ts) e

pub without_append : (others one more : List (List ℕ)) → without others (one ++ more) ≡ without others one ++ without others more
without_append others [] more = refl
without_append others (x ∷ xs) more =
    without_more (is_in others x) x (without others (xs ++ more)) (without others xs) (without others more) (without_append others xs more)

-- the texts with one that isn't among them
pub one_more : (texts : List (List ℕ)) (x : List ℕ) → is_in texts x ≡ false → with_text texts x ≡ texts ++ x ∷ []
one_more texts x none = rw none refl

-- a text that wasn't seen, and is none of the others
pub missing_new : (others seen missing : List (List ℕ)) (x : List ℕ) → is_in seen x ≡ false → is_in others x ≡ false → missing ≡ without others seen
    → missing ++ x ∷ [] ≡ without others (with_text seen x)
missing_new others seen missing x unseen absent is =
    let alone : without others (x ∷ []) ≡ x ∷ [] = rw absent refl in
    rw (is, one_more seen x unseen, without_append others seen (x ∷ []), alone) refl

-- a text that wasn't seen, and is one of the others
pub missing_known : (others seen missing : List (List ℕ)) (x : List ℕ) → is_in seen x ≡ false → is_in others x ≡ true → missing ≡ without others seen
    → missing ≡ without others (with_text seen x)
missing_known others seen missing x unseen known is =
    let none : without others (x ∷ []) ≡ [] = rw known refl in
    rw (is, one_more seen x unseen, without_append others seen (x ∷ []), none) (sym (append-nil (without others seen)))
