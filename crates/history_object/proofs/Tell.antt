-- Configurations tell whether an order of effects explains a history.
use Rattle.std.proofs.Common.{◌≡◌, inl, inr, ℕ, Bool, true, false, nat_eq, List, [], ◌∷◌, Option, Some, None, subst, refl, sym, ◌∙◌, ap, eq-eqb}
use Rattle.std.proofs.lemmas.Bool.{eqb-true}
use Rattle.history_object.specs.Carried.{after_all, going_on}
use Rattle.history_object.specs.Orders.{IsEachOnce, IsIn}
use Rattle.history_object.proofs.MarkedStates.{ConfigurationsTell, GrownIsInTime, IsMarked, MarkedState, begun_with, effect_on, has_done, marked, with_state}
use Rattle.history_object.proofs.InTime.{complete, goes_on_in_time, sound, time_goes_on}
use Rattle.history_object.proofs.Lists.{tells}

pub grown_is_in_time : {C : Type 0} → (after : C → ℕ → Option C) (had : C → ℕ → Bool) → GrownIsInTime after had
grown_is_in_time after had law events from none = (
  λ left. (let has = sound after had law 0 events from left.0 left.1 in (has.0, goes_on_in_time had from none 0 events has.0 has.1, has.2)),
  λ is. complete after had law 0 events from (is.0, time_goes_on had from none 0 events is.0 is.1, is.2),
)

-- none of the calls had its effect
abbrev NoneIsDone : (ℕ → Bool) → List ℕ → Type 0
NoneIsDone done order = (i : ℕ) → IsIn i order → done i ≡ false

-- the call that is marked, and the others
pub marked_it : (done : ℕ → Bool) (n : ℕ) → marked done n n ≡ true
marked_it done n = let test : nat_eq n n ≡ true = eq-eqb n n refl in rw test refl

marked_not : (done : ℕ → Bool) (n i : ℕ) → marked done n i ≡ false → done i ≡ false
marked_not done n i e = elim (tells (nat_eq n i)) [
  | inl test ↦ (let ne : true ≡ false = rw test at e in cc (ne))
  | inr test ↦ rw test at e
]

marked_other : (done : ℕ → Bool) (n i : ℕ) → (n ≡ i → ⊥) → done i ≡ false → marked done n i ≡ false
marked_other done n i other e = elim (tells (nat_eq n i)) [
  | inl test ↦ absurd (other (eqb-true n i test))
  | inr test ↦ rw test e
]

-- effects mark their calls
pub is_marked : {S : Type 0} → (effect : S → ℕ → Option S) → IsMarked (effect_on effect) has_done
is_marked effect c d n i e = elim (tells (c.done n)) [
  | inl was ↦ (let no : None ≡ Some d = rw was at e in cc (no))
  | inr not ↦ told (effect c.state n) (rw not at e)
]
  where
    told : (next : Option _) → with_state (marked c.done n) next ≡ Some d → d.done i ≡ marked c.done n i
    told None none = cc
    told (Some s) it = (let same : record { state = s; done = marked c.done n } ≡ d = cc in ap (λ (x : MarkedState _). x.done i) (sym same))

-- effects on configurations are effects on states, each call once
to_plain : {S : Type 0} → (effect : S → ℕ → Option S) (order : List ℕ) (c last : MarkedState S) → after_all (effect_on effect) order c ≡ Some last
    → NoneIsDone c.done order × IsEachOnce order × ((t : S) × (after_all effect order c.state ≡ Some t))
to_plain effect [] c last e = ((λ i no. absurd no), tt, (c.state, refl))
to_plain {S} effect (n ∷ order) c last e = elim (tells (c.done n)) [
  | inl was ↦ (let no : None ≡ Some last = rw was at e in cc (no))
  | inr not ↦
      elim (effect c.state n) as (λ next. going_on (after_all (effect_on effect) order) (with_state (marked c.done n) next) ≡ Some last
      → NoneIsDone c.done (n ∷ order) × IsEachOnce (n ∷ order) × ((t : S) × (going_on (after_all effect order) next ≡ Some t))) [
        | None ↦ λ no. cc
        | Some s ↦ λ yes. (
            let rest = to_plain effect order (record { state = s; done = marked c.done n }) last yes in (
              (λ i at. elim at [ inl same ↦ subst (λ k. c.done k ≡ false) same not | inr later ↦ marked_not c.done n i (rest.0 i later) ]),
              ((λ twice. (let no : true ≡ false = sym (marked_it c.done n) ∙ rest.0 n twice in let ne : ⊥ = cc (no) in ne)), rest.1),
              rest.2,
            ))
      ] (rw not at e)
]

from_plain : {S : Type 0} → (effect : S → ℕ → Option S) (order : List ℕ) (c : MarkedState S) (t : S) → NoneIsDone c.done order → IsEachOnce order
    → after_all effect order c.state ≡ Some t → (last : MarkedState S) × (after_all (effect_on effect) order c ≡ Some last)
from_plain effect [] c t none distinct e = (c, refl)
from_plain {S} effect (n ∷ order) c t none distinct e =
    let not : c.done n ≡ false = none n (inl refl) in
    rw not (elim (effect c.state n) as (λ next. going_on (after_all effect order) next ≡ Some t
    → (last : MarkedState S) × (going_on (after_all (effect_on effect) order) (with_state (marked c.done n) next) ≡ Some last)) [
      | None ↦ λ no. cc
      | Some s ↦ λ yes. from_plain effect order (record { state = s; done = marked c.done n }) t
          (λ i at. marked_other c.done n i (λ same. distinct.0 (subst (λ k. IsIn k order) (sym same) at)) (none i (inr at))) distinct.1 yes
    ] e)

pub configurations_tell : {S : Type 0} → (effect : S → ℕ → Option S) → ConfigurationsTell effect
configurations_tell effect start events =
    let both = grown_is_in_time (effect_on effect) has_done (is_marked effect) events (begun_with start) (λ i. refl) in (
      λ left. (let order = both.0 left in
          let plain = to_plain effect order.0 (begun_with start) order.2.0 order.2.1 in
          (order.0, (plain.1, order.1, plain.2))),
      λ explained. both.1 (
        explained.0,
        explained.1.1,
        from_plain effect explained.0 (begun_with start) explained.1.2.0 (λ i at. refl) explained.1.0 explained.1.2.1,
      ),
    )
