-- What a judge tells of events by places is what the orders of the calls tell.
use Rattle.std.proofs.Common.{◌≡◌, ◌↔◌, ℕ, suc, ◌<◌, true, false, List, [], ◌∷◌, Option, Some, None, length, replicate, slice_get, slice_index_or, slice_set, ap, subst, refl, sym, ◌∙◌, arith, inl, inr, zero}
use Rattle.std.proofs.lemmas.Option.{slice_get_within}
use Rattle.history_object.specs.declared.configuration.Configuration.{Configuration}
use Rattle.history_object.specs.Carried.{AreBelow, IsKept, after_all, carry, going_on}
use Rattle.history_object.specs.Orders.{CallBegins, CallEnds, NumberedEvent}
use Rattle.history_object.specs.Placed.{ArePlaced, HavePassed, JudgeExplains, JudgeTells, none_taken, numbered_effect}
use Rattle.history_object.specs.Standings.{Begins, CanGoOn, CanPass, Ends, Event, Standing, call_at, effect_at, effect_of, first_standing, forgot_at, found_call, had_effect, none_pending, unmarked, with_marks}
use Rattle.history_object.proofs.MarkedStates.{ArePending, EndsArePending, IsLeftDropped, MarkedState, begun_with, effect_on, forgot, has_done, marked, with_state, without}
use Rattle.history_object.proofs.Lists.{tells}
use Rattle.history_object.proofs.Dropping.{dropped_marks_tell}
use Rattle.history_object.proofs.Taking.{AreAlike, AreTaken, alike_begun, alike_ended, alike_marked, call_of, call_within, taken_begun, taken_ended}

-- both lead to one configuration, or neither leads anywhere
abbrev AreBothAlike : {S : Type 0} → ℕ → List (Option ℕ) → Option (MarkedState S) → Option (Configuration S) → Type 0
AreBothAlike begun taken None None = Unit {0}
AreBothAlike begun taken (Some c) (Some d) = AreAlike begun taken c d
AreBothAlike begun taken c d = ⊥

-- the effect of a call by its number, and by its place
effect_alike : {S C : Type 0} → (effect : S → C → Option S) (calls : List C) (begun : ℕ) (taken : List (Option ℕ)) (numbers : List ℕ) (pending : List (Option C))
    (c : MarkedState S) (d : Configuration S) (p n : ℕ) → AreTaken calls begun taken numbers pending → AreAlike begun taken c d → call_at taken p ≡ Some n
    → AreBothAlike begun taken (effect_on (numbered_effect effect calls) c n) (effect_at effect pending d p)
effect_alike {S} effect calls begun taken numbers pending c d p n are alike at = elim (tells (c.done n)) [
  | inl was ↦ (let had : had_effect d p ≡ true = alike.marks p n at ∙ was in rw was (rw had tt))
  | inr not ↦ (
      let had : had_effect d p ≡ false = alike.marks p n at ∙ not in
      let call : call_at pending p ≡ slice_get calls n = are.called p ∙ ap (λ o. call_of calls o) at in
      let same : effect_of effect d.state (call_at pending p) ≡ numbered_effect effect calls c.state n =
      ap (λ o. effect_of effect d.state o) call ∙ ap (λ s. effect_of effect s (slice_get calls n)) (sym alike.states) in
      rw not (rw had (subst (λ next. AreBothAlike begun taken (with_state (marked c.done n) (numbered_effect effect calls c.state n))
      (with_marks (slice_set d.done p true) next)) (sym same) (leads (numbered_effect effect calls c.state n)))))
]
  where
    leads : (next : Option S) → AreBothAlike begun taken (with_state (marked c.done n) next) (with_marks (slice_set d.done p true) next)
    leads None = tt
    leads (Some s) = alike_marked calls begun taken numbers pending c d p n s are alike at

-- up to the effect of the call that ends
carry_alike : {S C : Type 0} → (effect : S → C → Option S) (calls : List C) (begun : ℕ) (taken : List (Option ℕ)) (numbers : List ℕ) (pending : List (Option C))
    (c : MarkedState S) (d : Configuration S) (q i p n : ℕ) → AreTaken calls begun taken numbers pending → AreAlike begun taken c d → call_at taken q ≡ Some i
    → call_at taken p ≡ Some n
    → AreBothAlike begun taken (carry (effect_on (numbered_effect effect calls)) has_done i c n) (carry (effect_at effect pending) had_effect q d p)
carry_alike effect calls begun taken numbers pending c d q i p n are alike ends at = elim (tells (c.done i)) [
  | inl was ↦ (let had : had_effect d q ≡ true = alike.marks q i ends ∙ was in rw was (rw had tt))
  | inr not ↦ (let had : had_effect d q ≡ false = alike.marks q i ends ∙ not in
      rw not (rw had (effect_alike effect calls begun taken numbers pending c d p n are alike at)))
]

-- what the one leads to, where the other leads somewhere
alike_of_place : {S : Type 0} → (begun : ℕ) (taken : List (Option ℕ)) (x : Option (MarkedState S)) (y : Option (Configuration S)) (d : Configuration S) → y ≡ Some d
    → AreBothAlike begun taken x y → (c : MarkedState S) × (x ≡ Some c) × AreAlike begun taken c d
alike_of_place begun taken None None d is both = cc
alike_of_place begun taken None (Some y) d is both = absurd both
alike_of_place begun taken (Some x) None d is both = absurd both
alike_of_place begun taken (Some x) (Some y) d is both = let same : y ≡ d = cc in (x, refl, subst (λ z. AreAlike begun taken x z) same both)

alike_of_number : {S : Type 0} → (begun : ℕ) (taken : List (Option ℕ)) (x : Option (MarkedState S)) (y : Option (Configuration S)) (c : MarkedState S) → x ≡ Some c
    → AreBothAlike begun taken x y → (d : Configuration S) × (y ≡ Some d) × AreAlike begun taken c d
alike_of_number begun taken None None c is both = cc
alike_of_number begun taken None (Some y) c is both = absurd both
alike_of_number begun taken (Some x) None c is both = absurd both
alike_of_number begun taken (Some x) (Some y) c is both = let same : x ≡ c = cc in (y, refl, subst (λ z. AreAlike begun taken z y) same both)

-- at a place that is not taken there is no effect
no_effect : {S C : Type 0} → (effect : S → C → Option S) (pending : List (Option C)) (d m : Configuration S) (q p : ℕ) → call_at pending p ≡ None
    → carry (effect_at effect pending) had_effect q d p ≡ Some m → ⊥
no_effect effect pending d m q p none e = elim (tells (had_effect d q)) [
  | inl had ↦ (let no : None ≡ Some m = rw had at e in cc (no))
  | inr not ↦ elim (tells (had_effect d p)) [
    | inl had ↦ (let no : None ≡ Some m = rw had at (rw not at e) in cc (no))
    | inr not' ↦ (let no : None ≡ Some m = rw none at (rw not' at (rw not at e)) in cc (no))
  ]
]

-- one step, and what follows
goes_on : {X : Type 0} → (on : X → Option X) (first : Option X) (x y : X) → first ≡ Some x → on x ≡ Some y → going_on on first ≡ Some y
goes_on on first x y is h = subst (λ o. going_on on o ≡ Some y) (sym is) h

-- a path by places is one by numbers
abbrev HasNumbers : {S C : Type 0} → (S → C → Option S) → List C → ℕ → ℕ → List (Option ℕ) → List ℕ → MarkedState S → Configuration S → Type 0
HasNumbers {S} effect calls i begun taken numbers c m =
    (ns : List ℕ) × (x : MarkedState S) × ArePending numbers ns × (after_all (carry (effect_on (numbered_effect effect calls)) has_done i) ns c ≡ Some x)
    × AreAlike begun taken x m

to_numbers : {S C : Type 0} → (effect : S → C → Option S) (calls : List C) (begun : ℕ) (taken : List (Option ℕ)) (numbers : List ℕ) (pending : List (Option C)) (q i : ℕ)
    (path : List ℕ) (c : MarkedState S) (d m : Configuration S) → AreTaken calls begun taken numbers pending → AreAlike begun taken c d → call_at taken q ≡ Some i
    → after_all (carry (effect_at effect pending) had_effect q) path d ≡ Some m → HasNumbers effect calls i begun taken numbers c m
to_numbers effect calls begun taken numbers pending q i [] c d m are alike ends e =
    let same : d ≡ m = cc in ([], c, tt, refl, subst (λ y. AreAlike begun taken c y) same alike)
to_numbers effect calls begun taken numbers pending q i (p ∷ path) c d m are alike ends e =
    elim (carry (effect_at effect pending) had_effect q d p) as (λ next. carry (effect_at effect pending) had_effect q d p ≡ next
    → going_on (after_all (carry (effect_at effect pending) had_effect q) path) next ≡ Some m → HasNumbers effect calls i begun taken numbers c m) [
      | None ↦ λ is none. cc
      | Some y ↦ λ is it. elim (call_at taken p) as (λ t. call_at taken p ≡ t → HasNumbers effect calls i begun taken numbers c m) [
        | None ↦ λ free. absurd (no_effect effect pending d y q p (are.called p ∙ ap (λ o. call_of calls o) free) is)
        | Some n ↦ λ at. (
            let x = alike_of_place begun taken (carry (effect_on (numbered_effect effect calls)) has_done i c n) (carry (effect_at effect pending) had_effect q d p) y is
            (carry_alike effect calls begun taken numbers pending c d q i p n are alike ends at) in
            let rest = to_numbers effect calls begun taken numbers pending q i path x.0 y m are x.2 ends it in (
              n ∷ rest.0,
              rest.1,
              (are.number p n at, rest.2),
              goes_on (after_all (carry (effect_on (numbered_effect effect calls)) has_done i) rest.0) (carry (effect_on (numbered_effect effect calls)) has_done i c n) x.0 rest.1
                  x.1 rest.3,
              rest.4,
            ))
      ] refl
    ] refl e

-- and a path by numbers is one by places
abbrev HasPlaces : {S C : Type 0} → (S → C → Option S) → List (Option C) → ℕ → ℕ → List (Option ℕ) → MarkedState S → Configuration S → Type 0
HasPlaces {S} effect pending q begun taken x d =
    (ps : List ℕ) × (m : Configuration S) × AreBelow (length pending) ps × (after_all (carry (effect_at effect pending) had_effect q) ps d ≡ Some m)
    × AreAlike begun taken x m

to_places : {S C : Type 0} → (effect : S → C → Option S) (calls : List C) (begun : ℕ) (taken : List (Option ℕ)) (numbers : List ℕ) (pending : List (Option C)) (q i : ℕ)
    (path : List ℕ) (c x : MarkedState S) (d : Configuration S) → AreTaken calls begun taken numbers pending → AreAlike begun taken c d → call_at taken q ≡ Some i
    → ArePending numbers path → after_all (carry (effect_on (numbered_effect effect calls)) has_done i) path c ≡ Some x → HasPlaces effect pending q begun taken x d
to_places effect calls begun taken numbers pending q i [] c x d are alike ends pends e =
    let same : c ≡ x = cc in ([], d, tt, refl, subst (λ y. AreAlike begun taken y d) same alike)
to_places effect calls begun taken numbers pending q i (n ∷ path) c x d are alike ends pends e =
    elim (carry (effect_on (numbered_effect effect calls)) has_done i c n) as (λ next. carry (effect_on (numbered_effect effect calls)) has_done i c n ≡ next
    → going_on (after_all (carry (effect_on (numbered_effect effect calls)) has_done i) path) next ≡ Some x → HasPlaces effect pending q begun taken x d) [
      | None ↦ λ is none. cc
      | Some y ↦ λ is it. (
          let place = are.place n pends.0 in
          let p = place.0 in
          let m = alike_of_number begun taken (carry (effect_on (numbered_effect effect calls)) has_done i c n) (carry (effect_at effect pending) had_effect q d p) y is
          (carry_alike effect calls begun taken numbers pending c d q i p n are alike ends place.1) in
          let rest = to_places effect calls begun taken numbers pending q i path y x m.0 are m.2 ends pends.1 it in
          let within : p < length pending = (let lt = call_within taken p n place.1 in omega (arith, lt, are.long)) in (
            p ∷ rest.0,
            rest.1,
            (within, rest.2),
            goes_on (after_all (carry (effect_at effect pending) had_effect q) rest.0) (carry (effect_at effect pending) had_effect q d p) m.0 rest.1
                m.1 rest.3,
            rest.4,
          ))
    ] refl e

-- where no call stands, within the list, the place is free
free_at : {C : Type 0} → (xs : List (Option C)) (p : ℕ) → call_at xs p ≡ None → p < length xs → slice_get xs p ≡ Some None
free_at [] p none lt = absurd (omega (arith, lt))
free_at (x ∷ xs) zero none lt = ap (λ o. Some o) none
free_at (x ∷ xs) (suc p) none lt = free_at xs p none (omega (arith, lt))

-- what passes by numbers passes by places
passes_by_places : {S C : Type 0} → (effect : S → C → Option S) (calls : List C) (begun : ℕ) (taken : List (Option ℕ)) (numbers : List ℕ) (pending : List (Option C))
    (events : List NumberedEvent) (placed : List (Event C)) (c last : MarkedState S) (d : Configuration S) → ArePlaced calls begun taken events placed
    → AreTaken calls begun taken numbers pending → AreAlike begun taken c d
    → IsLeftDropped (effect_on (numbered_effect effect calls)) has_done forgot begun numbers events c last → CanPass effect pending d placed
passes_by_places effect calls begun taken numbers pending [] [] c last d is are alike left = tt
passes_by_places effect calls begun taken numbers pending [] (e ∷ placed) c last d is are alike left = absurd is
passes_by_places effect calls begun taken numbers pending (CallBegins ∷ events) [] c last d is are alike left = absurd is
passes_by_places effect calls begun taken numbers pending (CallEnds i ∷ events) [] c last d is are alike left = absurd is
passes_by_places effect calls begun taken numbers pending (CallBegins ∷ events) (Ends p ∷ placed) c last d is are alike left = absurd is
passes_by_places effect calls begun taken numbers pending (CallEnds i ∷ events) (Begins p call ∷ placed) c last d is are alike left = absurd is
passes_by_places effect calls begun taken numbers pending (CallBegins ∷ events) (Begins p call ∷ placed) c last d is are alike left =
    let none : call_at taken p ≡ None = ap (λ o. found_call o) is.0 in
    let within : p < length taken = slice_get_within taken p None is.0 in (
      free_at pending p (are.called p ∙ ap (λ o. call_of calls o) none) (omega (arith, within, are.long)),
      passes_by_places effect calls (suc begun) (slice_set taken p (Some begun)) (begun ∷ numbers) (slice_set pending p (Some call)) events placed c last d is.2
          (taken_begun calls begun taken numbers pending p call is.0 is.1 are) (alike_begun begun taken c d p is.0 alike) left,
    )
passes_by_places effect calls begun taken numbers pending (CallEnds i ∷ events) (Ends p ∷ placed) c last d is are alike (next, (path, pends, leads, it), left) =
    let ends : call_at taken p ≡ Some i = ap (λ o. found_call o) is.0 in
    let on = to_places effect calls begun taken numbers pending p i path c next d are alike ends pends leads in (
      on.1,
      ((on.0, record { moves_are = on.2; leads = on.3 }), on.4.marks p i ends ∙ it),
      passes_by_places effect calls begun (slice_set taken p None) (without i numbers) (slice_set pending p None) events placed (forgot next i) last (forgot_at on.1 p) is.1
          (taken_ended calls begun taken numbers pending p i ends are) (alike_ended calls begun taken numbers pending next on.1 p i are on.4 ends) left,
    )

-- what passes by places passes by numbers
passes_by_numbers : {S C : Type 0} → (effect : S → C → Option S) (calls : List C) (begun : ℕ) (taken : List (Option ℕ)) (numbers : List ℕ) (pending : List (Option C))
    (events : List NumberedEvent) (placed : List (Event C)) (c : MarkedState S) (d : Configuration S) → ArePlaced calls begun taken events placed
    → AreTaken calls begun taken numbers pending → AreAlike begun taken c d → CanPass effect pending d placed
    → (last : MarkedState S) × IsLeftDropped (effect_on (numbered_effect effect calls)) has_done forgot begun numbers events c last
passes_by_numbers effect calls begun taken numbers pending [] [] c d is are alike pass = (c, refl)
passes_by_numbers effect calls begun taken numbers pending [] (e ∷ placed) c d is are alike pass = absurd is
passes_by_numbers effect calls begun taken numbers pending (CallBegins ∷ events) [] c d is are alike pass = absurd is
passes_by_numbers effect calls begun taken numbers pending (CallEnds i ∷ events) [] c d is are alike pass = absurd is
passes_by_numbers effect calls begun taken numbers pending (CallBegins ∷ events) (Ends p ∷ placed) c d is are alike pass = absurd is
passes_by_numbers effect calls begun taken numbers pending (CallEnds i ∷ events) (Begins p call ∷ placed) c d is are alike pass = absurd is
passes_by_numbers effect calls begun taken numbers pending (CallBegins ∷ events) (Begins p call ∷ placed) c d is are alike pass =
    passes_by_numbers effect calls (suc begun) (slice_set taken p (Some begun)) (begun ∷ numbers) (slice_set pending p (Some call)) events placed c d is.2
    (taken_begun calls begun taken numbers pending p call is.0 is.1 are) (alike_begun begun taken c d p is.0 alike) pass.1
passes_by_numbers effect calls begun taken numbers pending (CallEnds i ∷ events) (Ends p ∷ placed) c d is are alike (next, ((path, reach), it), pass) =
    let ends : call_at taken p ≡ Some i = ap (λ o. found_call o) is.0 in
    let on = to_numbers effect calls begun taken numbers pending p i path c d next are alike ends reach.leads in
    let rest = passes_by_numbers effect calls begun (slice_set taken p None) (without i numbers) (slice_set pending p None) events placed (forgot on.1 i) (forgot_at next p)
    is.1 (taken_ended calls begun taken numbers pending p i ends are) (alike_ended calls begun taken numbers pending on.1 next p i are on.4 ends) pass in
    (rest.0, (on.1, (on.0, on.2, on.3, sym (on.4.marks p i ends) ∙ it), rest.1))

-- each call that ends is pending then
ends_pending : {C : Type 0} → (calls : List C) (begun : ℕ) (taken : List (Option ℕ)) (numbers : List ℕ) (pending : List (Option C)) (events : List NumberedEvent)
    (placed : List (Event C)) → ArePlaced calls begun taken events placed → AreTaken calls begun taken numbers pending → EndsArePending begun numbers events
ends_pending calls begun taken numbers pending [] [] is are = tt
ends_pending calls begun taken numbers pending [] (e ∷ placed) is are = absurd is
ends_pending calls begun taken numbers pending (CallBegins ∷ events) [] is are = absurd is
ends_pending calls begun taken numbers pending (CallEnds i ∷ events) [] is are = absurd is
ends_pending calls begun taken numbers pending (CallBegins ∷ events) (Ends p ∷ placed) is are = absurd is
ends_pending calls begun taken numbers pending (CallEnds i ∷ events) (Begins p call ∷ placed) is are = absurd is
ends_pending calls begun taken numbers pending (CallBegins ∷ events) (Begins p call ∷ placed) is are =
    ends_pending calls (suc begun) (slice_set taken p (Some begun)) (begun ∷ numbers) (slice_set pending p (Some call)) events placed is.2
    (taken_begun calls begun taken numbers pending p call is.0 is.1 are)
ends_pending calls begun taken numbers pending (CallEnds i ∷ events) (Ends p ∷ placed) is are =
    let ends : call_at taken p ≡ Some i = ap (λ o. found_call o) is.0 in (
      are.number p i ends,
      ends_pending calls begun (slice_set taken p None) (without i numbers) (slice_set pending p None) events placed is.1
          (taken_ended calls begun taken numbers pending p i ends are),
    )

-- where nothing is pending
none_at : {C : Type 0} → (n p : ℕ) → call_at {C = C} (replicate n None) p ≡ None
none_at zero p = refl
none_at (suc n) zero = refl
none_at (suc n) (suc p) = none_at n p

no_marks : (n p : ℕ) → slice_index_or (replicate n false) p false ≡ false
no_marks zero p = refl
no_marks (suc n) zero = refl
no_marks (suc n) (suc p) = no_marks n p

length_is : {A : Type 0} → (n : ℕ) (x : A) → length (replicate n x) ≡ n
length_is zero x = refl
length_is (suc n) x = ap suc (length_is n x)

not_at : {T : Type 0} → (p n : ℕ) → call_at none_taken p ≡ Some n → T
not_at p n h = let no : None ≡ Some n = sym (none_at 64 p) ∙ h in cc (no)

first_taken : {C : Type 0} → (calls : List C) → AreTaken calls 0 none_taken [] none_pending
first_taken {C} calls = record {
  long = length_is {A = Option C} 64 None ∙ sym (length_is {A = Option ℕ} 64 None);
  called = λ p. none_at 64 p ∙ sym (ap (λ o. call_of calls o) (none_at 64 p));
  earlier = λ p n h. not_at p n h;
  once = λ p q n h k. not_at p n h;
  number = λ p n h. not_at p n h;
  place = λ n at. absurd at;
}

first_alike : {S : Type 0} → (start : S) → AreAlike 0 none_taken (begun_with start) (unmarked start)
first_alike start = record {
  states = refl;
  long = length_is 64 false ∙ sym (length_is {A = Option ℕ} 64 None);
  marks = λ p n h. not_at p n h;
  free = λ p h. no_marks 64 p;
  later = λ n le. refl;
}

-- the only configuration of a new judge
only_kept : {X : Type 0} → (x y : X) → IsKept (x ∷ []) y → x ≡ y
only_kept x y (zero, h) = cc
only_kept x y (suc i, h) = cc

pub judge_tells : {S C : Type 0} → (effect : S → C → Option S) → JudgeTells effect
judge_tells effect start calls events placed is =
    let taken = first_taken calls in
    let both = dropped_marks_tell (numbered_effect effect calls) start events (ends_pending calls 0 none_taken [] none_pending events placed is taken) in (
      λ on. (let same = only_kept (unmarked start) on.0 on.1 in
          both.0 (passes_by_numbers effect calls 0 none_taken [] none_pending events placed (begun_with start) (unmarked start) is taken (first_alike start)
          (subst (λ c. CanPass effect none_pending c placed) (sym same) on.2))),
      λ explained. (let left = both.1 explained in (
        unmarked start,
        (0, refl),
        passes_by_places effect calls 0 none_taken [] none_pending events placed (begun_with start) left.0 (unmarked start) is taken (first_alike start) left.1,
      )),
    )

-- what can go on behind all events could go on with them
all_passed : {S C : Type 0} → (effect : S → C → Option S) (events : List (Event C)) (standing standing' : Standing S C) → HavePassed effect events standing standing'
    → CanGoOn effect standing events ↔ CanGoOn effect standing' []
all_passed effect [] standing standing' same = (
  λ on. subst (λ s. CanGoOn effect s []) same on,
  λ on. subst (λ s. CanGoOn effect s []) (sym same) on,
)
all_passed effect (event ∷ events) standing standing' (next, passed, rest) =
    let on = all_passed effect events next standing' rest in (
      λ was. on.0 ((passed events).0 was),
      λ is. (passed events).1 (on.1 is),
    )

pub judge_explains : {S C : Type 0} → (effect : S → C → Option S) → JudgeExplains effect
judge_explains effect start calls events placed standing is passed =
    let tells = judge_tells effect start calls events placed is in
    let on = all_passed effect placed (first_standing start) standing passed in (
      λ left. tells.0 (on.1 left),
      λ explained. on.0 (tells.1 explained),
    )
