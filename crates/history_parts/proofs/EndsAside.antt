-- The end of a call, with stores that are set aside.
use Rattle.std.proofs.Common.{◌≡◌, ℕ, Bool, false, List, [], ◌∷◌, Option, None, length, slice_set, ap, refl, sym, subst, ◌∙◌}
use Rattle.history_object.specs.declared.configuration.Configuration.{Configuration}
use Rattle.history_object.specs.Carried.{IsCarriedTo, IsKept}
use Rattle.history_object.specs.Eager.{Serves}
use Rattle.history_object.specs.Parts.{AreLeft, OthersMaySwap}
use Rattle.history_object.specs.Reads.{AreReads}
use Rattle.history_object.specs.Standings.{CanPass, Ends, HasPassed, effect_at, forgot_at, had_effect}
use Rattle.history_object.proofs.Inside.{inside_carried, inside_plainly}
use Rattle.history_object.proofs.Leading.{leads_of, reached}
use Rattle.history_object.proofs.Serving.{serving_passes}
use Rattle.history_parts.specs.Products.{IsStored, product, products}
use Rattle.history_parts.specs.Aside.{AllPossible, AllSteady, IsApartFrom, IsPossible, IsSteady}
use Rattle.history_parts.proofs.Products.{in_product, kept_first, kept_later, of_product, same_both}
use Rattle.history_parts.proofs.Lifted.{apart_ended, covers_stored, leads_lift, possible_carried, possible_reached, stored_forgot, to_end_back, to_end_lift}

-- the configurations that are left at the end of a call serve for those in which the call had its effect, and the other
-- way round
pub record EndsAs {S C : Type 0} (effect : S → C → Option S) (pending : List (Option C)) (place : ℕ) (kept left : List (Configuration S)) : Type 0 where
  pub all : (c next : Configuration S) → IsKept kept c → IsCarriedTo (effect_at effect pending) had_effect (length pending) place c next
      → (d : Configuration S) × IsKept left d × Serves effect (slice_set pending place None) d (forgot_at next place)
  pub only : (d : Configuration S) → IsKept left d → (c : Configuration S) × (next : Configuration S) × IsKept kept c
      × IsCarriedTo (effect_at effect pending) had_effect (length pending) place c next × Serves effect (slice_set pending place None) (forgot_at next place) d

-- so it is at an end that carries a part on
pub ends_left : {S C : Type 0} (effect : S → C → Option S) (reads : S → C → Bool) (conflict : C → C → Bool) → AreReads effect reads → OthersMaySwap effect conflict
    → (pending : List (Option C)) (place : ℕ) (kept left : List (Configuration S)) → AreLeft effect reads conflict pending place kept left
    → EndsAs effect pending place kept left
ends_left {S} effect reads conflict law swap pending place kept left (met, (inside, part, has)) = record {
  all = λ c next is carried.
      let run = inside_carried effect reads conflict law swap pending inside place c next part carried in
      (forgot_at run.0 place, (has.exact (forgot_at run.0 place)).1 (c, run.0, is, run.1, refl), run.2);
  only = λ d is.
      let back = (has.exact d).0 is in
      let run = inside_plainly effect reads law pending inside place back.0 back.1 back.3 in
      (back.0, run.0, back.2, run.1, subst (λ (x : Configuration S). Serves effect (slice_set pending place None) (forgot_at run.0 place) x) back.4 run.2);
}

-- such an end passes
pub ends_pass : {S C : Type 0} (effect : S → C → Option S) (pending pending' : List (Option C)) (place : ℕ) (kept left : List (Configuration S))
    → pending' ≡ slice_set pending place None → EndsAs effect pending place kept left
    → HasPassed effect (Ends place) (record { pending = pending; kept = kept }) (record { pending = pending'; kept = left })
ends_pass effect pending pending' place kept left is ends events = (
  λ on.
      let d = ends.all on.0 on.2.0 on.1 on.2.1 in (
        d.0,
        d.1,
        subst (λ xs. CanPass effect xs d.0 events) (sym is)
            (serving_passes effect (slice_set pending place None) d.0 (forgot_at on.2.0 place) events d.2 on.2.2),
      ),
  λ on.
      let c = ends.only on.0 on.1 in
      let pass = subst (λ xs. CanPass effect xs on.0 events) is on.2 in
      (c.0, c.2, (c.1, c.3, serving_passes effect (slice_set pending place None) (forgot_at c.1 place) on.0 events c.4 pass)),
)

-- what can have its effect before the end can have it behind the end
pub possible_left : {S C : Type 0} (effect : S → C → Option S) (pending : List (Option C)) (place : ℕ) (kept left : List (Configuration S)) (lists : List (List C))
    → EndsAs effect pending place kept left → AllSteady effect lists → AllPossible effect kept lists → AllPossible effect left lists
possible_left {S} effect pending place kept left lists ends steady possible d calls call is is_calls is_call =
    let from = ends.only d is in
    let firm = steady calls call is_calls is_call in
    let there = (possible_carried effect pending call firm place from.0 from.1 from.3).0 (possible from.0 calls call from.2 is_calls is_call) in
    let serves = from.4 in
    let behind = (possible_reached effect (slice_set pending place None) call firm (forgot_at from.1 place) serves.0 serves.1).0 there in
    subst (λ (s : S). IsPossible effect s call) serves.2.states behind

-- ---- with one list of stores

module _ {S C : Type 0} (effect : S → C → Option S) (pending : List (Option C)) (place : ℕ) (kept left : List (Configuration S)) (stores : List C)
    (steady : (store : C) → IsKept stores store → IsSteady effect store) (apart : (store : C) → IsKept stores store → IsApartFrom effect pending store)
    (ends : EndsAs effect pending place kept left) where
  abbrev later : List (Option C)
  later = slice_set pending place None

  -- one that serves for another serves for it with the store
  serves_stored : (store : C) → IsKept stores store → (d x c' : Configuration S) → Serves effect later d x → IsStored effect store x c'
      → (d' : Configuration S) × IsStored effect store d d' × Serves effect later d' c'
  serves_stored store is d x c' (e, reach, covers) stored =
      let firm = steady store is in
      let free = apart_ended effect pending place store (apart store is) in
      let at_e : IsPossible effect e.state store = subst (λ (s : S). IsPossible effect s store) (sym covers.states) (c'.state, stored.0) in
      let at_d = (possible_reached effect later store firm d e reach).1 at_e in
      let d' : Configuration S = record { state = at_d.0; done = d.done } in
      let stored_d : IsStored effect store d d' = (at_d.1, refl) in
      let on = leads_lift effect later store firm free reach.0 d e d' (leads_of (effect_at effect later) reach.0 d e reach.1.leads) stored_d in
      (d', stored_d, (on.0, reached effect later reach.0 d' on.0 on.1, covers_stored effect later store e x on.0 c' covers on.2 stored))

  pub ends_product : EndsAs effect pending place (product effect kept stores) (product effect left stores)
  ends_product = record {
    all = λ c next is carried.
        let from = in_product effect kept stores c is in
        let store = from.1 in
        let back = to_end_back effect pending store (steady store from.3) (apart store from.3) place from.0 c next carried from.4 in
        let one = ends.all from.0 back.0 from.2 back.1 in
        let on = serves_stored store from.3 one.0 (forgot_at back.0 place) (forgot_at next place) one.2 (stored_forgot effect store back.0 next place back.2) in
        (on.0, of_product effect left stores on.0 one.0 store one.1 from.3 on.1, on.2);
    only = λ d is. only_there d (in_product effect left stores d is);
  }
    where
      only_there : (d : Configuration S) → ((x : Configuration S) × (store : C) × IsKept left x × IsKept stores store × IsStored effect store x d)
          → (c : Configuration S) × (next : Configuration S) × IsKept (product effect kept stores) c
          × IsCarriedTo (effect_at effect pending) had_effect (length pending) place c next × Serves effect later (forgot_at next place) d
      only_there d (x, store, is_x, is, stored) =
          let from = ends.only x is_x in
          let firm = steady store is in
          let free = apart store is in
          let on = serves_stored store is (forgot_at from.1 place) x d from.4 stored in
          let at_next : IsPossible effect from.1.state store = (on.0.state, on.1.0) in
          let at_c = (possible_carried effect pending store firm place from.0 from.1 from.3).1 at_next in
          let c : Configuration S = record { state = at_c.0; done = from.0.done } in
          let stored_c : IsStored effect store from.0 c = (at_c.1, refl) in
          let run = to_end_lift effect pending store firm free place from.0 from.1 c from.3 stored_c in
          let both = sym run.2.0 ∙ on.1.0 in
          let states : run.0.state ≡ on.0.state = cc (both) in
          let marks : (forgot_at run.0 place).done ≡ on.0.done = ap (λ (xs : List Bool). slice_set xs place false) run.2.1 ∙ sym on.1.1 in
          let same : forgot_at run.0 place ≡ on.0 = same_both (forgot_at run.0 place) on.0 states marks in (
            c,
            run.0,
            of_product effect kept stores c from.0 store from.2 is stored_c,
            run.1,
            subst (λ (y : Configuration S). Serves effect later y d) (sym same) on.2,
          )

-- ---- with all of them

pub ends_products : {S C : Type 0} (effect : S → C → Option S) (pending : List (Option C)) (place : ℕ) (kept left : List (Configuration S)) (lists : List (List C))
    → AllSteady effect lists → ((stores : List C) (store : C) → IsKept lists stores → IsKept stores store → IsApartFrom effect pending store)
    → EndsAs effect pending place kept left → EndsAs effect pending place (products effect kept lists) (products effect left lists)
ends_products effect pending place kept left [] steady apart ends = ends
ends_products effect pending place kept left (stores ∷ lists) steady apart ends =
    ends_products effect pending place (product effect kept stores) (product effect left stores) lists
    (λ more store is is_store. steady more store (kept_later lists stores more is) is_store)
    (λ more store is is_store. apart more store (kept_later lists stores more is) is_store)
    (ends_product effect pending place kept left stores (λ store is. steady stores store (kept_first lists stores) is)
    (λ store is. apart stores store (kept_first lists stores) is) ends)
