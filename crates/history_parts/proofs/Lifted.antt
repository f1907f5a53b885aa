-- Effects of pending calls before and after a store that is set aside.
use Rattle.std.proofs.Common.{◌≡◌, ◌↔◌, inl, inr, ℕ, zero, suc, Bool, true, false, List, [], ◌∷◌, Option, Some, None, length, slice_index_or, slice_set, ap, refl, sym, subst, ◌∙◌}
use Rattle.std.proofs.lemmas.Bool.Decides.{eqb_tells}
use Rattle.history_object.specs.declared.configuration.Configuration.{Configuration}
use Rattle.history_object.specs.Carried.{IsCarriedTo, IsReachable, carry}
use Rattle.history_object.specs.Eager.{Covers}
use Rattle.history_object.specs.Standings.{call_at, effect_at, forgot_at, had_effect}
use Rattle.history_object.proofs.Lists.{tells}
use Rattle.history_object.proofs.PlaceLists.{called_other}
use Rattle.history_object.proofs.Leading.{Leads, Step, leads_of, of_step, step_of}
use Rattle.history_object.proofs.Serving.{carry_below, carry_leads}
use Rattle.history_parts.specs.Products.{IsStored}
use Rattle.history_parts.specs.Aside.{IsApartFrom, IsPossible, IsSteady}

-- ---- whether a call can have its effect

pub possible_behind : {S C : Type 0} (effect : S → C → Option S) (pending : List (Option C)) (call : C) → IsSteady effect call → (path : List ℕ) (c d : Configuration S)
    → Leads (effect_at effect pending) path c d → IsPossible effect c.state call ↔ IsPossible effect d.state call
possible_behind {S} effect pending call steady [] c d is =
    (λ p. subst (λ (x : Configuration S). IsPossible effect x.state call) is p, λ p. subst (λ (x : Configuration S). IsPossible effect x.state call) (sym is) p)
possible_behind effect pending call steady (n ∷ path) c d (m, is, rest) =
    let step = step_of effect pending c n m is in
    let one = steady c.state m.state step.call step.leads in
    let on = possible_behind effect pending call steady path m d rest in
    (λ p. on.0 (one.0 p), λ p. one.1 (on.1 p))

-- a call stays apart from the others where one of them has ended
called_here : {C : Type 0} (xs : List (Option C)) (p : ℕ) (x : C) → call_at (slice_set xs p None) p ≡ Some x → ⊥
called_here [] p x h = cc (h)
called_here (y ∷ xs) zero x h = cc (h)
called_here (y ∷ xs) (suc p) x h = called_here xs p x h

pub apart_ended : {S C : Type 0} (effect : S → C → Option S) (pending : List (Option C)) (place : ℕ) (call : C) → IsApartFrom effect pending call
    → IsApartFrom effect (slice_set pending place None) call
apart_ended effect pending place call apart q other there = elim (eqb_tells place q) [
  | inl same ↦ absurd (called_here pending place other (subst (λ (k : ℕ). call_at (slice_set pending place None) k ≡ Some other) (sym same.1) there))
  | inr another ↦ apart q other (sym (called_other pending place q None another.1) ∙ there)
]

-- ---- one effect

-- configuration `c` without the store becomes `d`: so it does with the store
module _ {S C : Type 0} (effect : S → C → Option S) (pending : List (Option C)) (store : C) (steady : IsSteady effect store) (apart : IsApartFrom effect pending store) where
  pub same_had : (m c : Configuration S) (place : ℕ) → IsStored effect store m c → had_effect c place ≡ had_effect m place
  same_had m c place stored = ap (λ (xs : List Bool). slice_index_or xs place false) stored.1

  step_lift : (m m' c : Configuration S) (place : ℕ) → Step effect pending m place m' → IsStored effect store m c
      → (c' : Configuration S) × Step effect pending c place c' × IsStored effect store m' c'
  step_lift m m' c place step stored =
      let next = (steady m.state m'.state step.call step.leads).0 (c.state, stored.0) in
      let swap = (apart place step.call step.there).0 m.state m'.state next.0 step.leads next.1 in
      let both = sym swap.1 ∙ stored.0 in
      let same : swap.0 ≡ c.state = cc (both) in
      let c' : Configuration S = record { state = next.0; done = m'.done } in (
        c',
        record {
          fresh = same_had m c place stored ∙ step.fresh;
          call = step.call;
          there = step.there;
          leads = subst (λ (s : S). effect s step.call ≡ Some next.0) same swap.2;
          marked = step.marked ∙ ap (λ (xs : List Bool). slice_set xs place true) (sym stored.1);
        },
        (next.1, refl),
      )

  step_back : (m c c' : Configuration S) (place : ℕ) → Step effect pending c place c' → IsStored effect store m c
      → (m' : Configuration S) × Step effect pending m place m' × IsStored effect store m' c'
  step_back m c c' place step stored =
      let swap = (apart place step.call step.there).1 m.state c.state c'.state stored.0 step.leads in
      let m' : Configuration S = record { state = swap.0; done = c'.done } in (
        m',
        record {
          fresh = sym (same_had m c place stored) ∙ step.fresh;
          call = step.call;
          there = step.there;
          leads = swap.1;
          marked = step.marked ∙ ap (λ (xs : List Bool). slice_set xs place true) stored.1;
        },
        (swap.2, refl),
      )

  -- ---- paths

  pub leads_lift : (path : List ℕ) (m m' c : Configuration S) → Leads (effect_at effect pending) path m m' → IsStored effect store m c
      → (c' : Configuration S) × Leads (effect_at effect pending) path c c' × IsStored effect store m' c'
  leads_lift [] m m' c is stored = (c, refl, subst (λ (x : Configuration S). IsStored effect store x c) is stored)
  leads_lift (n ∷ path) m m' c (next, is, rest) stored =
      let one = step_lift m next c n (step_of effect pending m n next is) stored in
      let on = leads_lift path next m' one.0 rest one.2 in
      (on.0, (one.0, of_step effect pending c n one.0 one.1, on.1), on.2)

  carried_lift : (place : ℕ) (path : List ℕ) (m m' c : Configuration S) → Leads (carry (effect_at effect pending) had_effect place) path m m' → IsStored effect store m c
      → (c' : Configuration S) × Leads (carry (effect_at effect pending) had_effect place) path c c' × IsStored effect store m' c'
  carried_lift place [] m m' c is stored = (c, refl, subst (λ (x : Configuration S). IsStored effect store x c) is stored)
  carried_lift place (n ∷ path) m m' c (next, is, rest) stored = elim (tells (had_effect m place)) [
    | inl has ↦ (let none : None ≡ Some next = rw has at is in cc (none))
    | inr hasnt ↦ (
        let plain : effect_at effect pending m n ≡ Some next = rw hasnt at is in
        let one = step_lift m next c n (step_of effect pending m n next plain) stored in
        let on = carried_lift place path next m' one.0 rest one.2 in
        let hasnt' : had_effect c place ≡ false = same_had m c place stored ∙ hasnt in
        let first = of_step effect pending c n one.0 one.1 in
        (on.0, (one.0, rw hasnt' first, on.1), on.2))
  ]

  carried_back : (place : ℕ) (path : List ℕ) (m c c' : Configuration S) → Leads (carry (effect_at effect pending) had_effect place) path c c' → IsStored effect store m c
      → (m' : Configuration S) × Leads (carry (effect_at effect pending) had_effect place) path m m' × IsStored effect store m' c'
  carried_back place [] m c c' is stored = (m, refl, subst (λ (x : Configuration S). IsStored effect store m x) is stored)
  carried_back place (n ∷ path) m c c' (next, is, rest) stored = elim (tells (had_effect c place)) [
    | inl has ↦ (let none : None ≡ Some next = rw has at is in cc (none))
    | inr hasnt ↦ (
        let plain : effect_at effect pending c n ≡ Some next = rw hasnt at is in
        let one = step_back m c next n (step_of effect pending c n next plain) stored in
        let on = carried_back place path one.0 next c' rest one.2 in
        let hasnt' : had_effect m place ≡ false = sym (same_had m c place stored) ∙ hasnt in
        let first = of_step effect pending m n one.0 one.1 in
        (on.0, (one.0, rw hasnt' first, on.1), on.2))
  ]

  -- ---- up to the end of a call

  pub to_end_lift : (place : ℕ) (m m' c : Configuration S) → IsCarriedTo (effect_at effect pending) had_effect (length pending) place m m' → IsStored effect store m c
      → (c' : Configuration S) × IsCarriedTo (effect_at effect pending) had_effect (length pending) place c c' × IsStored effect store m' c'
  to_end_lift place m m' c (reach, had) stored =
      let on = carried_lift place reach.0 m m' c (leads_of (carry (effect_at effect pending) had_effect place) reach.0 m m' reach.1.leads) stored in
      (on.0, (carry_below effect pending place reach.0 c on.0 on.1, same_had m' on.0 place on.2 ∙ had), on.2)

  pub to_end_back : (place : ℕ) (m c c' : Configuration S) → IsCarriedTo (effect_at effect pending) had_effect (length pending) place c c' → IsStored effect store m c
      → (m' : Configuration S) × IsCarriedTo (effect_at effect pending) had_effect (length pending) place m m' × IsStored effect store m' c'
  to_end_back place m c c' (reach, had) stored =
      let on = carried_back place reach.0 m c c' (leads_of (carry (effect_at effect pending) had_effect place) reach.0 c c' reach.1.leads) stored in
      (on.0, (carry_below effect pending place reach.0 m on.0 on.1, sym (same_had on.0 c' place on.2) ∙ had), on.2)

-- whether it can have its effect, up to the end of a call
pub possible_carried : {S C : Type 0} (effect : S → C → Option S) (pending : List (Option C)) (call : C) → IsSteady effect call → (place : ℕ) (c d : Configuration S)
    → IsCarriedTo (effect_at effect pending) had_effect (length pending) place c d → IsPossible effect c.state call ↔ IsPossible effect d.state call
possible_carried effect pending call steady place c d (reach, had) =
    possible_behind effect pending call steady reach.0 c d
    (carry_leads (effect_at effect pending) had_effect place reach.0 c d (leads_of (carry (effect_at effect pending) had_effect place) reach.0 c d reach.1.leads))

pub possible_reached : {S C : Type 0} (effect : S → C → Option S) (pending : List (Option C)) (call : C) → IsSteady effect call → (c d : Configuration S)
    → IsReachable (effect_at effect pending) (length pending) c d → IsPossible effect c.state call ↔ IsPossible effect d.state call
possible_reached effect pending call steady c d reach =
    possible_behind effect pending call steady reach.0 c d (leads_of (effect_at effect pending) reach.0 c d reach.1.leads)

-- ---- the store behind a mark and behind a covering configuration

pub stored_forgot : {S C : Type 0} (effect : S → C → Option S) (store : C) (m c : Configuration S) (place : ℕ) → IsStored effect store m c
    → IsStored effect store (forgot_at m place) (forgot_at c place)
stored_forgot effect store m c place stored = (stored.0, ap (λ (xs : List Bool). slice_set xs place false) stored.1)

pub covers_stored : {S C : Type 0} (effect : S → C → Option S) (pending : List (Option C)) (store : C) (e d e' d' : Configuration S) → Covers effect pending e d
    → IsStored effect store e e' → IsStored effect store d d' → Covers effect pending e' d'
covers_stored {S} effect pending store e d e' d' covers stored_e stored_d =
    let both = sym stored_e.0 ∙ (ap (λ (s : S). effect s store) covers.states ∙ stored_d.0) in
    let had_e = λ (place : ℕ). ap (λ (xs : List Bool). slice_index_or xs place false) stored_e.1 in
    let had_d = λ (place : ℕ). ap (λ (xs : List Bool). slice_index_or xs place false) stored_d.1 in
    record {
      states = cc (both);
      long = ap (λ (xs : List Bool). length xs) stored_e.1 ∙ (covers.long ∙ sym (ap (λ (xs : List Bool). length xs) stored_d.1));
      marks = λ place. elim (covers.marks place) [
        | inl same ↦ inl (had_e place ∙ (same ∙ sym (had_d place)))
        | inr more ↦ inr (had_e place ∙ more.0, more.1)
      ];
    }
