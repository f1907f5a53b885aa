-- Some configuration is left just where an order of effects respects time.
use Rattle.std.proofs.Common.{◌≡◌, ◌⊎◌, inl, inr, ℕ, suc, ◌<◌, Bool, true, false, nat_eq, List, [], ◌∷◌, Option, Some, None, subst, refl, sym, ◌∙◌, arith, eq-eqb}
use Rattle.std.proofs.lemmas.Bool.{eqb-true}
use Rattle.history_object.specs.Carried.{AreBelow, IsCarriedTo, after_all, carry, going_on}
use Rattle.history_object.specs.Orders.{CallBegins, CallEnds, HasItBegun, NumberedEvent, RespectsTime}
use Rattle.history_object.proofs.MarkedStates.{IsLeft, IsMarked, marked}
use Rattle.history_object.proofs.Lists.{tells}

-- the order goes on from a configuration as time wants: each call that ends had its effect there, or stands in the
-- order behind none that had not begun
abbrev pub GoesOn : {C : Type 0} → (C → ℕ → Bool) → C → ℕ → List NumberedEvent → List ℕ → Type 0
GoesOn had c calls [] order = AreBelow calls order
GoesOn had c calls (CallBegins ∷ events) order = GoesOn had c (suc calls) events order
GoesOn had c calls (CallEnds i ∷ events) order = ((had c i ≡ true) ⊎ HasItBegun calls i order) × GoesOn had c calls events order

-- an effect marks its call
pub marks_it : {C : Type 0} → (after : C → ℕ → Option C) (had : C → ℕ → Bool) → IsMarked after had → (c d : C) (n i : ℕ) → after c n ≡ Some d → n ≡ i → had d i ≡ true
marks_it after had law c d n i e same = law c d n i e ∙ (let test : nat_eq n i ≡ true = eq-eqb n i same in rw test refl)

-- and leaves the marks of others
pub marks_stay : {C : Type 0} → (after : C → ℕ → Option C) (had : C → ℕ → Bool) → IsMarked after had → (c d : C) (n i : ℕ) → after c n ≡ Some d → had c i ≡ true → had d i ≡ true
marks_stay after had law c d n i e was = law c d n i e ∙ elim (tells (nat_eq n i)) [ inl test ↦ rw test refl | inr test ↦ rw test was ]

-- a call that is marked behind an effect was marked in front of it, or is the one
pub marks_from : {C : Type 0} → (after : C → ℕ → Option C) (had : C → ℕ → Bool) → IsMarked after had → (c d : C) (n i : ℕ) → after c n ≡ Some d → had d i ≡ true
    → (n ≡ i) ⊎ (had c i ≡ true)
marks_from after had law c d n i e is = let told : marked (had c) n i ≡ true = sym (law c d n i e) ∙ is in elim (tells (nat_eq n i)) [
  | inl test ↦ inl (eqb-true n i test)
  | inr test ↦ inr (rw test at told)
]

-- behind an effect the rest of the order goes on
pub goes_behind : {C : Type 0} → (after : C → ℕ → Option C) (had : C → ℕ → Bool) → IsMarked after had → (c d : C) (n calls : ℕ) (events : List NumberedEvent) (order : List ℕ)
    → after c n ≡ Some d → GoesOn had c calls events (n ∷ order) → GoesOn had d calls events order
goes_behind after had law c d n calls [] order e goes = goes.1
goes_behind after had law c d n calls (CallBegins ∷ events) order e goes = goes_behind after had law c d n (suc calls) events order e goes
goes_behind after had law c d n calls (CallEnds i ∷ events) order e goes = (
  elim goes.0 [
    | inl was ↦ inl (marks_stay after had law c d n i e was)
    | inr up ↦ elim up.1 [ inl same ↦ inl (marks_it after had law c d n i e same) | inr later ↦ inr later ]
  ],
  goes_behind after had law c d n calls events order e goes.1,
)

-- in front of the rest of an order stands the effect of a call that had begun
pub goes_in_front : {C : Type 0} → (after : C → ℕ → Option C) (had : C → ℕ → Bool) → IsMarked after had → (c d : C) (n calls : ℕ) (events : List NumberedEvent) (order : List ℕ)
    → after c n ≡ Some d → n < calls → GoesOn had d calls events order → GoesOn had c calls events (n ∷ order)
goes_in_front after had law c d n calls [] order e below goes = (below, goes)
goes_in_front after had law c d n calls (CallBegins ∷ events) order e below goes = goes_in_front after had law c d n (suc calls) events order e (omega (arith, below)) goes
goes_in_front after had law c d n calls (CallEnds i ∷ events) order e below goes = (
  elim goes.0 [
    | inl is ↦ elim (marks_from after had law c d n i e is) [ inl same ↦ inr (below, inl same) | inr was ↦ inl was ]
    | inr up ↦ inr (below, inr up)
  ],
  goes_in_front after had law c d n calls events order e below goes.1,
)

-- where a configuration is carried on, effects can be
carry_is_after : {C : Type 0} → (after : C → ℕ → Option C) (had : C → ℕ → Bool) (i n : ℕ) (c d : C) → carry after had i c n ≡ Some d → after c n ≡ Some d
carry_is_after after had i n c d e = elim (tells (had c i)) [
  | inl is ↦ (let none : None ≡ Some d = rw is at e in cc (none))
  | inr not ↦ rw not at e
]

-- an order that goes on behind a path, goes on with the path in front
abbrev pub HasOrder : {C : Type 0} → (C → ℕ → Option C) → (C → ℕ → Bool) → C → ℕ → List NumberedEvent → Type 0
HasOrder {C} after had c calls events = (order : List ℕ) × GoesOn had c calls events order × ((last : C) × (after_all after order c ≡ Some last))

path_in_front : {C : Type 0} → (after : C → ℕ → Option C) (had : C → ℕ → Bool) → IsMarked after had → (c m : C) (i calls : ℕ) (events : List NumberedEvent) (path : List ℕ)
    → AreBelow calls path → after_all (carry after had i) path c ≡ Some m → HasOrder after had m calls events → HasOrder after had c calls events
path_in_front after had law c m i calls events [] are e has = let same : m ≡ c = cc in subst (λ x. HasOrder after had x calls events) same has
path_in_front after had law c m i calls events (n ∷ path) are e has =
    elim (carry after had i c n) as (λ next. carry after had i c n ≡ next → going_on (after_all (carry after had i) path) next ≡ Some m → HasOrder after had c calls events) [
      | None ↦ λ is no. cc
      | Some d ↦ λ is yes. (
          let effect = carry_is_after after had i n c d is in
          let rest = path_in_front after had law d m i calls events path are.1 yes has in (
            n ∷ rest.0,
            goes_in_front after had law c d n calls events rest.0 effect are.0 rest.1,
            (rest.2.0, rw effect rest.2.1),
          ))
    ] refl e

-- where a configuration is left there is an order
pub sound : {C : Type 0} → (after : C → ℕ → Option C) (had : C → ℕ → Bool) → IsMarked after had → (calls : ℕ) (events : List NumberedEvent) (from c : C)
    → IsLeft after had calls events from c → HasOrder after had from calls events
sound after had law calls [] from c left = ([], tt, (from, refl))
sound after had law calls (CallBegins ∷ events) from c left = sound after had law (suc calls) events from c left
sound after had law calls (CallEnds i ∷ events) from c (next, (reach, it), left) =
    let rest = sound after had law calls events next c left in
    path_in_front after had law from next i calls (CallEnds i ∷ events) reach.0 reach.1.moves_are reach.1.leads (rest.0, (inl it, rest.1), rest.2)

-- a configuration that a path leads to, with an order from there
abbrev pub IsCarriedOn : {C : Type 0} → (C → ℕ → Option C) → (C → ℕ → Bool) → C → ℕ → ℕ → List NumberedEvent → Type 0
IsCarriedOn {C} after had c i calls events = (next : C) × IsCarriedTo after had calls i c next × HasOrder after had next calls events

-- where an order goes on with the call that ends in it, a configuration is carried to that call's effect
carried_up : {C : Type 0} → (after : C → ℕ → Option C) (had : C → ℕ → Bool) → IsMarked after had → (c last : C) (i calls : ℕ) (events : List NumberedEvent) (order : List ℕ)
    → had c i ≡ false → HasItBegun calls i order → GoesOn had c calls events order → after_all after order c ≡ Some last → IsCarriedOn after had c i calls events
carried_up after had law c last i calls events [] not up goes e = absurd up
carried_up after had law c last i calls events (n ∷ order) not up goes e =
    elim (after c n) as (λ next. after c n ≡ next → going_on (after_all after order) next ≡ Some last → IsCarriedOn after had c i calls events) [
      | None ↦ λ is no. cc
      | Some d ↦ λ is yes. (
          let effect : carry after had i c n ≡ Some d = rw not is in
          let goes' = goes_behind after had law c d n calls events order is goes in
          elim (tells (had d i)) [
            | inl has ↦ (d, ((n ∷ [], record { moves_are = (up.0, tt); leads = rw effect refl }), has), (order, goes', (last, yes)))
            | inr hasnt ↦ (
                let later : HasItBegun calls i order = elim up.1 [
                  | inl same ↦ (let has = marks_it after had law c d n i is same in let ne : ⊥ = cc (has, hasnt) in absurd ne)
                  | inr later ↦ later
                ] in
                let rest = carried_up after had law d last i calls events order hasnt later goes' yes in
                let reach = rest.1.0 in
                (rest.0, ((n ∷ reach.0, record { moves_are = (up.0, reach.1.moves_are); leads = rw effect reach.1.leads }), rest.1.1), rest.2))
          ])
    ] refl e

-- where there is an order some configuration is left
pub complete : {C : Type 0} → (after : C → ℕ → Option C) (had : C → ℕ → Bool) → IsMarked after had → (calls : ℕ) (events : List NumberedEvent) (from : C)
    → HasOrder after had from calls events → (c : C) × IsLeft after had calls events from c
complete after had law calls [] from has = (from, refl)
complete after had law calls (CallBegins ∷ events) from has = complete after had law (suc calls) events from has
complete after had law calls (CallEnds i ∷ events) from (order, goes, ends) = elim (tells (had from i)) [
  | inl it ↦ (let rest = complete after had law calls events from (order, goes.1, ends) in
      (rest.0, (from, (([], record { moves_are = tt; leads = refl }), it), rest.1)))
  | inr not ↦ (
      let up : HasItBegun calls i order = elim goes.0 [ inl it ↦ (let ne : ⊥ = cc (it, not) in absurd ne) | inr up ↦ up ] in
      let on = carried_up after had law from ends.0 i calls events order not up goes.1 ends.1 in
      let rest = complete after had law calls events on.0 on.2 in
      (rest.0, (on.0, on.1, rest.1)))
]

-- where no call had its effect, an order goes on just where it respects time
pub time_goes_on : {C : Type 0} → (had : C → ℕ → Bool) (c : C) → ((i : ℕ) → had c i ≡ false) → (calls : ℕ) (events : List NumberedEvent) (order : List ℕ)
    → RespectsTime calls events order → GoesOn had c calls events order
time_goes_on had c none calls [] order respects = respects
time_goes_on had c none calls (CallBegins ∷ events) order respects = time_goes_on had c none (suc calls) events order respects
time_goes_on had c none calls (CallEnds i ∷ events) order respects = (inr respects.0, time_goes_on had c none calls events order respects.1)

pub goes_on_in_time : {C : Type 0} → (had : C → ℕ → Bool) (c : C) → ((i : ℕ) → had c i ≡ false) → (calls : ℕ) (events : List NumberedEvent) (order : List ℕ)
    → GoesOn had c calls events order → RespectsTime calls events order
goes_on_in_time had c none calls [] order goes = goes
goes_on_in_time had c none calls (CallBegins ∷ events) order goes = goes_on_in_time had c none (suc calls) events order goes
goes_on_in_time had c none calls (CallEnds i ∷ events) order goes = (
  elim goes.0 [ inl it ↦ (let not = none i in let ne : ⊥ = cc (it, not) in absurd ne) | inr up ↦ up ],
  goes_on_in_time had c none calls events order goes.1,
)
