-- How calls take places, and how the numbers of pending calls and their places tell the same.
use Rattle.std.proofs.Common.{◌≡◌, ◌≢◌, ◌⊎◌, inl, inr, ℕ, zero, suc, ◌<◌, ◌≤◌, Bool, true, false, nat_eq, List, [], ◌∷◌, Option, Some, None, length, slice_get, slice_set, slice_index_or, ap, subst, refl, sym, ◌∙◌, arith}
use Rattle.std.proofs.lemmas.Bool.Decides.{eqb_tells}
use Rattle.std.proofs.lemmas.Grind.{get_or-set_at}
use Rattle.std.proofs.lemmas.List.{get_or-set_other, length-set}
use Rattle.std.proofs.lemmas.Option.{slice_get_within}
use Rattle.history_object.specs.declared.configuration.Configuration.{Configuration}
use Rattle.history_object.specs.Orders.{IsIn}
use Rattle.history_object.specs.Standings.{call_at, forgot_at, found_call, had_effect}
use Rattle.history_object.proofs.MarkedStates.{MarkedState, forgot, marked, without}
use Rattle.history_object.proofs.Dropping.{in_without, stays_in, without_mark_not, without_mark_other}
use Rattle.history_object.proofs.Tell.{marked_it}

-- what stands at a place, where there is something
pub call_within : {C : Type 0} → (xs : List (Option C)) (p : ℕ) (x : C) → call_at xs p ≡ Some x → p < length xs
call_within [] p x h = cc
call_within (y ∷ xs) zero x h = omega arith
call_within (y ∷ xs) (suc p) x h = let lt = call_within xs p x h in omega (arith, lt)

call_set_here : {C : Type 0} → (xs : List (Option C)) (p : ℕ) (v : Option C) → p < length xs → call_at (slice_set xs p v) p ≡ v
call_set_here [] p v lt = absurd (omega (arith, lt))
call_set_here (x ∷ xs) zero v lt = refl
call_set_here (x ∷ xs) (suc p) v lt = call_set_here xs p v (omega (arith, lt))

call_set_other : {C : Type 0} → (xs : List (Option C)) (p q : ℕ) (v : Option C) → p ≢ q → call_at (slice_set xs p v) q ≡ call_at xs q
call_set_other [] p q v other = refl
call_set_other (x ∷ xs) zero zero v other = absurd (other refl)
call_set_other (x ∷ xs) zero (suc q) v other = refl
call_set_other (x ∷ xs) (suc p) zero v other = refl
call_set_other (x ∷ xs) (suc p) (suc q) v other = call_set_other xs p q v (λ e. other (ap suc e))

call_set_same : {C : Type 0} → (xs : List (Option C)) (p q : ℕ) (v : Option C) → p ≡ q → p < length xs → call_at (slice_set xs p v) q ≡ v
call_set_same xs p q v same lt = subst (λ k. call_at (slice_set xs p v) k ≡ v) same (call_set_here xs p v lt)

-- what stands at a place where one was set
set_cases : {C : Type 0} → (xs : List (Option C)) (p q : ℕ) (v : Option C) (x : C) → p < length xs → call_at (slice_set xs p v) q ≡ Some x
    → ((p ≡ q) × (v ≡ Some x)) ⊎ ((p ≢ q) × (call_at xs q ≡ Some x))
set_cases xs p q v x lt h = elim (eqb_tells p q) [
  | inl is ↦ inl (is.1, sym (call_set_same xs p q v is.1 lt) ∙ h)
  | inr is ↦ inr (is.1, sym (call_set_other xs p q v is.1) ∙ h)
]

-- two that stand at one place are one
same_number : {C : Type 0} → (xs : List (Option C)) (p : ℕ) (x y : C) → call_at xs p ≡ Some x → call_at xs p ≡ Some y → x ≡ y
same_number xs p x y h k = let both : Some x ≡ Some y = sym h ∙ k in cc (both)

-- the call that a number names, if there is one
abbrev pub call_of : {C : Type 0} → List C → Option ℕ → Option C
call_of calls None = None
call_of calls (Some n) = slice_get calls n

-- these calls are pending: by their numbers, by the places that they take, and as calls
pub record AreTaken {C : Type 0} (calls : List C) (begun : ℕ) (taken : List (Option ℕ)) (numbers : List ℕ) (pending : List (Option C)) : Type 0 where
  pub long : length pending ≡ length taken
  pub called : (p : ℕ) → call_at pending p ≡ call_of calls (call_at taken p)
  pub earlier : (p n : ℕ) → call_at taken p ≡ Some n → n < begun
  pub once : (p q n : ℕ) → call_at taken p ≡ Some n → call_at taken q ≡ Some n → p ≡ q
  pub number : (p n : ℕ) → call_at taken p ≡ Some n → IsIn n numbers
  pub place : (n : ℕ) → IsIn n numbers → (p : ℕ) × (call_at taken p ≡ Some n)

-- a call begins
pub taken_begun : {C : Type 0} → (calls : List C) (begun : ℕ) (taken : List (Option ℕ)) (numbers : List ℕ) (pending : List (Option C)) (p : ℕ) (call : C)
    → slice_get taken p ≡ Some None → slice_get calls begun ≡ Some call → AreTaken calls begun taken numbers pending
    → AreTaken calls (suc begun) (slice_set taken p (Some begun)) (begun ∷ numbers) (slice_set pending p (Some call))
taken_begun calls begun taken numbers pending p call free is are =
    let within : p < length taken = slice_get_within taken p None free in
    let within' : p < length pending = omega (arith, within, are.long) in
    let none : call_at taken p ≡ None = ap (λ o. found_call o) free in
    record {
      long = simp length-set are.long;
      called = λ q. elim (eqb_tells p q) [
        | inl same ↦ (let there = call_set_same taken p q (Some begun) same.1 within in
            call_set_same pending p q (Some call) same.1 within' ∙ sym (ap (λ o. call_of calls o) there ∙ is))
        | inr other ↦ (let there = call_set_other taken p q (Some begun) other.1 in
            call_set_other pending p q (Some call) other.1 ∙ (are.called q ∙ sym (ap (λ o. call_of calls o) there)))
      ];
      earlier = λ q n h. elim (set_cases taken p q (Some begun) n within h) [
        | inl new ↦ (let same : begun ≡ n = cc (new.1) in omega (arith, same))
        | inr was ↦ (let lt = are.earlier q n was.1 in omega (arith, lt))
      ];
      once = λ q r n h k. elim (set_cases taken p q (Some begun) n within h) [
        | inl new ↦ elim (set_cases taken p r (Some begun) n within k) [
          | inl new' ↦ sym new.0 ∙ new'.0
          | inr was' ↦ (let same : begun ≡ n = cc (new.1) in let lt = are.earlier r n was'.1 in absurd (omega (arith, same, lt)))
        ]
        | inr was ↦ elim (set_cases taken p r (Some begun) n within k) [
          | inl new' ↦ (let same : begun ≡ n = cc (new'.1) in let lt = are.earlier q n was.1 in absurd (omega (arith, same, lt)))
          | inr was' ↦ are.once q r n was.1 was'.1
        ]
      ];
      number = λ q n h. elim (set_cases taken p q (Some begun) n within h) [
        | inl new ↦ (let same : begun ≡ n = cc (new.1) in inl same)
        | inr was ↦ inr (are.number q n was.1)
      ];
      place = λ n at. elim at [
        | inl same ↦ (p, call_set_here taken p (Some begun) within ∙ ap (λ k. Some k) same)
        | inr later ↦ (
            let there = are.place n later in
            let other : p ≢ there.0 = λ e. (let both : None ≡ Some n = sym none ∙ (ap (λ k. call_at taken k) e ∙ there.1) in let ne : ⊥ = cc (both) in ne) in
            (there.0, call_set_other taken p there.0 (Some begun) other ∙ there.1))
      ];
    }

-- a call ends
pub taken_ended : {C : Type 0} → (calls : List C) (begun : ℕ) (taken : List (Option ℕ)) (numbers : List ℕ) (pending : List (Option C)) (p i : ℕ)
    → call_at taken p ≡ Some i → AreTaken calls begun taken numbers pending
    → AreTaken calls begun (slice_set taken p None) (without i numbers) (slice_set pending p None)
taken_ended calls begun taken numbers pending p i ends are =
    let within : p < length taken = call_within taken p i ends in
    let within' : p < length pending = omega (arith, within, are.long) in
    let was : (q n : ℕ) → call_at (slice_set taken p None) q ≡ Some n → (p ≢ q) × (call_at taken q ≡ Some n) =
    λ q n h. elim (set_cases taken p q None n within h) [ inl new ↦ (let ne : ⊥ = cc (new.1) in absurd ne) | inr old ↦ old ] in
    record {
      long = simp length-set are.long;
      called = λ q. elim (eqb_tells p q) [
        | inl same ↦ (let there = call_set_same taken p q None same.1 within in
            call_set_same pending p q None same.1 within' ∙ sym (ap (λ o. call_of calls o) there))
        | inr other ↦ (let there = call_set_other taken p q None other.1 in
            call_set_other pending p q None other.1 ∙ (are.called q ∙ sym (ap (λ o. call_of calls o) there)))
      ];
      earlier = λ q n h. are.earlier q n (was q n h).1;
      once = λ q r n h k. are.once q r n (was q n h).1 (was r n k).1;
      number = λ q n h. (let old = was q n h in
          stays_in i n numbers (are.number q n old.1) (λ same. old.0 (are.once p q n (ends ∙ ap (λ k. Some k) same) old.1)));
      place = λ n at. (
          let old = in_without i n numbers at in
          let there = are.place n old.0 in
          let other : p ≢ there.0 = λ e. old.1 (same_number taken p i n ends (ap (λ k. call_at taken k) e ∙ there.1)) in
          (there.0, call_set_other taken p there.0 None other ∙ there.1));
    }

-- the two are one configuration, by the numbers of calls and by their places
pub record AreAlike {S : Type 0} (begun : ℕ) (taken : List (Option ℕ)) (c : MarkedState S) (d : Configuration S) : Type 0 where
  pub states : c.state ≡ d.state
  pub long : length d.done ≡ length taken
  pub marks : (p n : ℕ) → call_at taken p ≡ Some n → had_effect d p ≡ c.done n
  pub free : (p : ℕ) → call_at taken p ≡ None → had_effect d p ≡ false
  pub later : (n : ℕ) → begun ≤ n → c.done n ≡ false

-- a mark that is set
mark_set : (done : List Bool) (p q : ℕ) (v : Bool) → p ≡ q → p < length done → slice_index_or (slice_set done p v) q false ≡ v
mark_set done p q v same lt = get_or-set_at done p q v false (sym same) lt

mark_stays : (done : List Bool) (p q : ℕ) (v : Bool) → p ≢ q → slice_index_or (slice_set done p v) q false ≡ slice_index_or done q false
mark_stays done p q v other = get_or-set_other done p q v false (λ e. other (sym e))

-- a call's effect leaves the marks of the others
marked_other : (done : ℕ → Bool) (n i : ℕ) → n ≢ i → marked done n i ≡ done i
marked_other done n i other = elim (eqb_tells n i) [ inl is ↦ absurd (other is.1) | inr is ↦ (let test : nat_eq n i ≡ false = is.0 in rw test refl) ]

-- behind an effect
pub alike_marked : {S C : Type 0} → (calls : List C) (begun : ℕ) (taken : List (Option ℕ)) (numbers : List ℕ) (pending : List (Option C)) (c : MarkedState S) (d : Configuration S)
    (p n : ℕ) (s : S) → AreTaken calls begun taken numbers pending → AreAlike begun taken c d → call_at taken p ≡ Some n
    → AreAlike begun taken (record { state = s; done = marked c.done n }) (record { state = s; done = slice_set d.done p true })
alike_marked calls begun taken numbers pending c d p n s are alike at =
    let within : p < length taken = call_within taken p n at in
    let within' : p < length d.done = omega (arith, within, alike.long) in
    record {
      states = refl;
      long = simp length-set alike.long;
      marks = λ q m h. elim (eqb_tells p q) [
        | inl same ↦ (let is : n ≡ m = same_number taken q n m (subst (λ k. call_at taken k ≡ Some n) same.1 at) h in
            mark_set d.done p q true same.1 within' ∙ sym (subst (λ k. marked c.done n k ≡ true) is (marked_it c.done n)))
        | inr other ↦ (let isnt : n ≢ m = λ e. other.1 (are.once p q m (at ∙ ap (λ k. Some k) e) h) in
            mark_stays d.done p q true other.1 ∙ (alike.marks q m h ∙ sym (marked_other c.done n m isnt)))
      ];
      free = λ q h. (
          let other : p ≢ q = λ e. (let both : None ≡ Some n = sym h ∙ (ap (λ k. call_at taken k) (sym e) ∙ at) in let ne : ⊥ = cc (both) in ne) in
          mark_stays d.done p q true other ∙ alike.free q h);
      later = λ m le. (let lt = are.earlier p n at in let isnt : n ≢ m = λ e. omega (arith, e, lt, le) in marked_other c.done n m isnt ∙ alike.later m le);
    }

-- at a begin
pub alike_begun : {S : Type 0} → (begun : ℕ) (taken : List (Option ℕ)) (c : MarkedState S) (d : Configuration S) (p : ℕ) → slice_get taken p ≡ Some None
    → AreAlike begun taken c d → AreAlike (suc begun) (slice_set taken p (Some begun)) c d
alike_begun begun taken c d p free alike =
    let within : p < length taken = slice_get_within taken p None free in
    let none : call_at taken p ≡ None = ap (λ o. found_call o) free in
    record {
      states = alike.states;
      long = simp length-set alike.long;
      marks = λ q n h. elim (set_cases taken p q (Some begun) n within h) [
        | inl new ↦ (let same : begun ≡ n = cc (new.1) in
            alike.free q (subst (λ k. call_at taken k ≡ None) new.0 none) ∙ sym (alike.later n (omega (arith, same))))
        | inr was ↦ alike.marks q n was.1
      ];
      free = λ q h. elim (eqb_tells p q) [
        | inl same ↦ (let both : Some begun ≡ None = sym (call_set_same taken p q (Some begun) same.1 within) ∙ h in let ne : ⊥ = cc (both) in absurd ne)
        | inr other ↦ alike.free q (sym (call_set_other taken p q (Some begun) other.1) ∙ h)
      ];
      later = λ n le. alike.later n (omega (arith, le));
    }

-- at an end
pub alike_ended : {S C : Type 0} → (calls : List C) (begun : ℕ) (taken : List (Option ℕ)) (numbers : List ℕ) (pending : List (Option C)) (c : MarkedState S) (d : Configuration S)
    (p i : ℕ) → AreTaken calls begun taken numbers pending → AreAlike begun taken c d → call_at taken p ≡ Some i
    → AreAlike begun (slice_set taken p None) (forgot c i) (forgot_at d p)
alike_ended calls begun taken numbers pending c d p i are alike ends =
    let within : p < length taken = call_within taken p i ends in
    let within' : p < length d.done = omega (arith, within, alike.long) in
    record {
      states = alike.states;
      long = simp length-set alike.long;
      marks = λ q n h. elim (set_cases taken p q None n within h) [
        | inl new ↦ (let ne : ⊥ = cc (new.1) in absurd ne)
        | inr was ↦ (let isnt : i ≢ n = λ e. was.0 (are.once p q n (ends ∙ ap (λ k. Some k) e) was.1) in
            mark_stays d.done p q false was.0 ∙ (alike.marks q n was.1 ∙ sym (without_mark_other c.done i n isnt)))
      ];
      free = λ q h. elim (eqb_tells p q) [
        | inl same ↦ mark_set d.done p q false same.1 within'
        | inr other ↦ mark_stays d.done p q false other.1 ∙ alike.free q (sym (call_set_other taken p q None other.1) ∙ h)
      ];
      later = λ n le. without_mark_not c.done i n (alike.later n le);
    }
