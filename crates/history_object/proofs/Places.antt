-- Elements of a list after one was set, and the numbers of pending calls by their places.
use Rattle.std.proofs.Common.{◌≡◌, ◌≢◌, ◌↔◌, ◌⊎◌, inl, inr, ℕ, zero, suc, ◌<◌, ◌≤◌, true, false, IsTrue, MatchOption, List, [], ◌∷◌, Option, Some, None, length, get_or, slice_get, slice_set, ap, subst, refl, sym, ◌∙◌, arith}
use Rattle.std.proofs.lemmas.Bool.Decides.{eqb_tells}
use Rattle.std.proofs.lemmas.List.{length-set}
use Rattle.std.proofs.lemmas.Option.{get_or_from_slice_get, slice_get-get_or, slice_get_within}
use Rattle.std.specs.Option.{is_some}
use Rattle.history_object.specs.Following.{AreNumbered, IsNumbered}

pub get_set_here : {A : Type 0} → (xs : List A) (p : ℕ) (v : A) → p < length xs → slice_get (slice_set xs p v) p ≡ Some v
get_set_here [] p v lt = absurd (omega (arith, lt))
get_set_here (x ∷ xs) zero v lt = refl
get_set_here (x ∷ xs) (suc p) v lt = get_set_here xs p v (omega (arith, lt))

pub get_set_other : {A : Type 0} → (xs : List A) (p q : ℕ) (v : A) → p ≢ q → slice_get (slice_set xs p v) q ≡ slice_get xs q
get_set_other [] p q v other = refl
get_set_other (x ∷ xs) zero zero v other = absurd (other refl)
get_set_other (x ∷ xs) zero (suc q) v other = refl
get_set_other (x ∷ xs) (suc p) zero v other = refl
get_set_other (x ∷ xs) (suc p) (suc q) v other = get_set_other xs p q v (λ e. other (ap suc e))

pub get_set_cases : {A : Type 0} → (xs : List A) (p q : ℕ) (v x : A) → p < length xs → slice_get (slice_set xs p v) q ≡ Some x
    → ((p ≡ q) × (v ≡ x)) ⊎ ((p ≢ q) × (slice_get xs q ≡ Some x))
get_set_cases xs p q v x lt h = elim (eqb_tells p q) [
  | inl is ↦ (
      let here : slice_get (slice_set xs p v) q ≡ Some v = subst (λ k. slice_get (slice_set xs p v) k ≡ Some v) is.1 (get_set_here xs p v lt) in
      let both : Some v ≡ Some x = sym here ∙ h in
      inl (is.1, cc (both)))
  | inr is ↦ inr (is.1, sym (get_set_other xs p q v is.1) ∙ h)
]

-- a number is at some place
abbrev pub HasPlace : List (Option ℕ) → ℕ → Type 0
HasPlace numbers number = (place : ℕ) × (slice_get numbers place ≡ Some (Some number))

-- the numbers that have places after a begin
pub places_begun : (numbers : List (Option ℕ)) (p number n : ℕ) → slice_get numbers p ≡ Some None
    → HasPlace (slice_set numbers p (Some number)) n ↔ ((n ≡ number) ⊎ HasPlace numbers n)
places_begun numbers p number n free =
    let within : p < length numbers = slice_get_within numbers p None free in (
      λ at. elim (get_set_cases numbers p at.0 (Some number) (Some n) within at.1) [
        | inl new ↦ (let same : Some number ≡ Some n = new.1 in inl (cc (same)))
        | inr was ↦ inr (at.0, was.1)
      ],
      λ either. elim either [
        | inl same ↦ (p, get_set_here numbers p (Some number) within ∙ ap (λ k. Some (Some k)) (sym same))
        | inr at ↦ (
            let other : p ≢ at.0 = λ e. (let both : Some None ≡ Some (Some n) = sym free ∙ (ap (λ k. slice_get numbers k) e ∙ at.1) in let ne : ⊥ = cc (both) in ne) in
            (at.0, get_set_other numbers p at.0 (Some number) other ∙ at.1))
      ],
    )

-- and after an end
pub places_ended : (numbers : List (Option ℕ)) (p number n : ℕ) → slice_get numbers p ≡ Some (Some number)
    → ((q : ℕ) → slice_get numbers q ≡ Some (Some number) → p ≡ q)
    → HasPlace (slice_set numbers p None) n ↔ (HasPlace numbers n × (n ≢ number))
places_ended numbers p number n here once =
    let within : p < length numbers = slice_get_within numbers p (Some number) here in (
      λ at. elim (get_set_cases numbers p at.0 None (Some n) within at.1) [
        | inl new ↦ (let ne : ⊥ = cc (new.1) in absurd ne)
        | inr was ↦ ((at.0, was.1), λ same. was.0 (once at.0 (was.1 ∙ ap (λ k. Some (Some k)) same)))
      ],
      λ both. (
          let at = both.0 in
          let other : p ≢ at.0 = λ e. (
          let two : Some (Some number) ≡ Some (Some n) = sym here ∙ (ap (λ k. slice_get numbers k) e ∙ at.1) in
          let same : n ≡ number = cc (two) in both.1 same) in
          (at.0, get_set_other numbers p at.0 None other ∙ at.1)),
    )

-- a place is free for both, or for none
pub free_number : {C : Type 0} → (x : Option (Option C)) (y : Option (Option ℕ)) → IsNumbered x y → x ≡ Some None → y ≡ Some None
free_number None y are is = cc
free_number (Some None) None are is = absurd are
free_number (Some None) (Some None) are is = refl
free_number (Some None) (Some (Some n)) are is = absurd are
free_number (Some (Some c)) y are is = cc

pub pending_at : {C : Type 0} → (x : Option (Option C)) (y : Option (Option ℕ)) (n : ℕ) → IsNumbered x y → y ≡ Some (Some n) → (c : C) × (x ≡ Some (Some c))
pending_at None None n are is = cc
pending_at None (Some y) n are is = absurd are
pending_at (Some None) None n are is = absurd are
pending_at (Some None) (Some None) n are is = cc
pending_at (Some None) (Some (Some y)) n are is = absurd are
pending_at (Some (Some c)) y n are is = (c, refl)

-- where no place is free each has a number
pub all_have_numbers : {C : Type 0} → (pending : List (Option C)) (numbers : List (Option ℕ)) → AreNumbered pending numbers
    → ((place : ℕ) → slice_get pending place ≡ Some None → ⊥) → (place : ℕ) → place < 64 → (number : ℕ) × (slice_get numbers place ≡ Some (Some number))
all_have_numbers {C} pending numbers are taken place lt =
    has_number (slice_get pending place) (slice_get numbers place) (are.each place) (taken place)
    (λ none. (let past = within_not numbers place none in let all = are.all in omega (arith, lt, past, all)))
  where
    within_not : (xs : List (Option ℕ)) (k : ℕ) → slice_get xs k ≡ None → length xs ≤ k
    within_not [] k none = omega arith
    within_not (x ∷ xs) zero none = cc
    within_not (x ∷ xs) (suc k) none = let rest = within_not xs k none in omega (arith, rest)

    has_number : (x : Option (Option C)) (y : Option (Option ℕ)) → IsNumbered x y → (x ≡ Some None → ⊥) → (y ≡ None → ⊥) → (number : ℕ) × (y ≡ Some (Some number))
    has_number x None is taken' there = absurd (there refl)
    has_number None (Some y) is taken' there = absurd is
    has_number (Some None) (Some y) is taken' there = absurd (taken' refl)
    has_number (Some (Some c)) (Some None) is taken' there = absurd is
    has_number (Some (Some c)) (Some (Some number)) is taken' there = (number, refl)

-- what is set at one place of both
numbered_set : {C : Type 0} → (pending : List (Option C)) (numbers : List (Option ℕ)) (p q : ℕ) (v : Option C) (w : Option ℕ) → p < length pending → p < length numbers
    → IsNumbered (Some v) (Some w) → IsNumbered (slice_get pending q) (slice_get numbers q)
    → IsNumbered (slice_get (slice_set pending p v) q) (slice_get (slice_set numbers p w) q)
numbered_set pending numbers p q v w lt lt' new was = elim (eqb_tells p q) [
  | inl is ↦ subst (λ k. IsNumbered (slice_get (slice_set pending p v) k) (slice_get (slice_set numbers p w) k)) is.1
      (subst (λ x. IsNumbered x (slice_get (slice_set numbers p w) p)) (sym (get_set_here pending p v lt))
      (subst (λ y. IsNumbered (Some v) y) (sym (get_set_here numbers p w lt')) new))
  | inr is ↦ subst (λ x. IsNumbered x (slice_get (slice_set numbers p w) q)) (sym (get_set_other pending p q v is.1))
      (subst (λ y. IsNumbered (slice_get pending q) y) (sym (get_set_other numbers p q w is.1)) was)
]

-- a begin
pub numbered_begun : {C : Type 0} → (pending pending' : List (Option C)) (numbers : List (Option ℕ)) (p number : ℕ) (call : C) → AreNumbered pending numbers
    → slice_get pending p ≡ Some None → (HasPlace numbers number → ⊥) → pending' ≡ slice_set pending p (Some call)
    → AreNumbered pending' (slice_set numbers p (Some number))
numbered_begun pending pending' numbers p number call are free fresh is =
    let free' = free_number (slice_get pending p) (slice_get numbers p) (are.each p) free in
    let within : p < length pending = slice_get_within pending p None free in
    let within' : p < length numbers = slice_get_within numbers p None free' in
    record {
      all = length-set numbers p (Some number) ∙ are.all;
      each = λ q. subst (λ xs. IsNumbered (slice_get xs q) (slice_get (slice_set numbers p (Some number)) q)) (sym is)
          (numbered_set pending numbers p q (Some call) (Some number) within within' tt (are.each q));
      once = λ q r n h k. elim (get_set_cases numbers p q (Some number) (Some n) within' h) [
        | inl new ↦ elim (get_set_cases numbers p r (Some number) (Some n) within' k) [
          | inl new' ↦ sym new.0 ∙ new'.0
          | inr was' ↦ (let same : Some number ≡ Some n = new.1 in let is : n ≡ number = cc (same) in absurd (fresh (r, was'.1 ∙ ap (λ m. Some (Some m)) is)))
        ]
        | inr was ↦ elim (get_set_cases numbers p r (Some number) (Some n) within' k) [
          | inl new' ↦ (let same : Some number ≡ Some n = new'.1 in let is : n ≡ number = cc (same) in absurd (fresh (q, was.1 ∙ ap (λ m. Some (Some m)) is)))
          | inr was' ↦ are.once q r n was.1 was'.1
        ]
      ];
    }

-- an end
pub numbered_ended : {C : Type 0} → (pending pending' : List (Option C)) (numbers : List (Option ℕ)) (p number : ℕ) → AreNumbered pending numbers
    → slice_get numbers p ≡ Some (Some number) → pending' ≡ slice_set pending p None → AreNumbered pending' (slice_set numbers p None)
numbered_ended pending pending' numbers p number are here is =
    let there = pending_at (slice_get pending p) (slice_get numbers p) number (are.each p) here in
    let within : p < length pending = slice_get_within pending p (Some there.0) there.1 in
    let within' : p < length numbers = slice_get_within numbers p (Some number) here in
    let was : (q n : ℕ) → slice_get (slice_set numbers p None) q ≡ Some (Some n) → slice_get numbers q ≡ Some (Some n) =
    λ q n h. elim (get_set_cases numbers p q None (Some n) within' h) [ inl new ↦ (let ne : ⊥ = cc (new.1) in absurd ne) | inr old ↦ old.1 ] in
    record {
      all = length-set numbers p None ∙ are.all;
      each = λ q. subst (λ xs. IsNumbered (slice_get xs q) (slice_get (slice_set numbers p None) q)) (sym is)
          (numbered_set pending numbers p q None None within within' tt (are.each q));
      once = λ q r n h k. are.once q r n (was q n h) (was r n k);
    }

-- a place that was looked for, and whether there is one
pub found_is_open : (numbers : List (Option ℕ)) (number : ℕ) (found : Option ℕ)
    → MatchOption found ((place : ℕ) → slice_get numbers place ≡ Some (Some number) → ⊥) (λ place. slice_get numbers place ≡ Some (Some number))
    → IsTrue (is_some found) ↔ HasPlace numbers number
found_is_open numbers number None never = (λ t. (let ne : ⊥ = cc (t) in absurd ne), λ at. absurd (never at.0 at.1))
found_is_open numbers number (Some p) here = (λ t. (p, here), λ at. refl)

-- a place that has a number, and one that has none
pub some_there : (numbers : List (Option ℕ)) (k : ℕ) → k < length numbers → is_some (get_or numbers k None) ≡ true
    → (number : ℕ) × (slice_get numbers k ≡ Some (Some number))
some_there numbers k lt some = read (get_or numbers k None) (slice_get-get_or numbers k None lt) some
  where
    read : (x : Option ℕ) → slice_get numbers k ≡ Some x → is_some x ≡ true → (number : ℕ) × (slice_get numbers k ≡ Some (Some number))
    read None there some = (let ne : ⊥ = cc (some) in absurd ne)
    read (Some number) there some = (number, there)

pub none_there : (numbers : List (Option ℕ)) (k number : ℕ) → is_some (get_or numbers k None) ≡ false → slice_get numbers k ≡ Some (Some number) → ⊥
none_there numbers k number none there =
    let read = get_or_from_slice_get numbers k (Some number) None there in
    let both : true ≡ false = sym (ap (λ (x : Option ℕ). is_some x) read) ∙ none in
    cc (both)
