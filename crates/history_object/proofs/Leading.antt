-- Effects one by one.
use Rattle.std.proofs.Common.{◌≡◌, ℕ, Bool, true, false, List, [], ◌∷◌, ◌++◌, Option, Some, None, length, slice_set, refl, sym, subst, inl, inr}
use Rattle.history_object.specs.declared.configuration.Configuration.{Configuration}
use Rattle.history_object.specs.Carried.{AreBelow, IsReachable, after_all, going_on}
use Rattle.history_object.specs.Standings.{call_at, effect_at, effect_of, had_effect, with_marks}
use Rattle.history_object.proofs.Lists.{tells}
use Rattle.history_object.proofs.PlaceLists.{called_within}

-- the call at the place has its effect, which leads from `c` to `d`
pub record Step {S C : Type 0} (effect : S → C → Option S) (pending : List (Option C)) (c : Configuration S) (place : ℕ) (d : Configuration S) : Type 0 where
  pub fresh : had_effect c place ≡ false
  pub call : C
  pub there : call_at pending place ≡ Some call
  pub leads : effect c.state call ≡ Some d.state
  pub marked : d.done ≡ slice_set c.done place true

step_marks : {S C : Type 0} → (effect : S → C → Option S) (pending : List (Option C)) (c : Configuration S) (n : ℕ) (d : Configuration S) (call : C) (next : Option S)
    → had_effect c n ≡ false → call_at pending n ≡ Some call → effect c.state call ≡ next → with_marks (slice_set c.done n true) next ≡ Some d
    → Step effect pending c n d
step_marks effect pending c n d call None fresh there is e = cc
step_marks {S} effect pending c n d call (Some s) fresh there is e =
    let made : Configuration S = record { state = s; done = slice_set c.done n true } in
    let same : made ≡ d = cc (e) in
    subst (λ x. Step effect pending c n x) same (record { fresh = fresh; call = call; there = there; leads = is; marked = refl })

step_call : {S C : Type 0} → (effect : S → C → Option S) (pending : List (Option C)) (c : Configuration S) (n : ℕ) (d : Configuration S) (found : Option C)
    → had_effect c n ≡ false → call_at pending n ≡ found → with_marks (slice_set c.done n true) (effect_of effect c.state found) ≡ Some d
    → Step effect pending c n d
step_call effect pending c n d None fresh there e = cc
step_call effect pending c n d (Some call) fresh there e = step_marks effect pending c n d call (effect c.state call) fresh there refl e

-- what leads to a configuration is such an effect
pub step_of : {S C : Type 0} → (effect : S → C → Option S) (pending : List (Option C)) (c : Configuration S) (n : ℕ) (d : Configuration S)
    → effect_at effect pending c n ≡ Some d → Step effect pending c n d
step_of effect pending c n d e = elim (tells (had_effect c n)) [
  | inl is ↦ (let none : None ≡ Some d = rw is at e in cc (none))
  | inr not ↦ (let e' : with_marks (slice_set c.done n true) (effect_of effect c.state (call_at pending n)) ≡ Some d = rw not at e in
      step_call effect pending c n d (call_at pending n) not refl e')
]

-- and such an effect leads there
pub of_step : {S C : Type 0} → (effect : S → C → Option S) (pending : List (Option C)) (c : Configuration S) (n : ℕ) (d : Configuration S)
    → Step effect pending c n d → effect_at effect pending c n ≡ Some d
of_step {S} effect pending c n d step =
    let made : effect_at effect pending c n ≡ Some (record { state = d.state; done = slice_set c.done n true }) =
    rw (step.fresh, step.there, step.leads) refl in
    subst (λ (xs : List Bool). effect_at effect pending c n ≡ Some (record { state = d.state; done = xs })) (sym step.marked) made

-- the effects in this order lead from the one to the other
abbrev pub Leads : {C : Type 0} → (C → ℕ → Option C) → List ℕ → C → C → Type 0
Leads after [] c d = c ≡ d
Leads {C} after (n ∷ path) c d = (m : C) × (after c n ≡ Some m) × Leads after path m d

pub leads_of : {C : Type 0} → (after : C → ℕ → Option C) (path : List ℕ) (c d : C) → after_all after path c ≡ Some d → Leads after path c d
leads_of after [] c d e = cc (e)
leads_of after (n ∷ path) c d e =
    elim (after c n) as (λ next. after c n ≡ next → going_on (after_all after path) next ≡ Some d → Leads after (n ∷ path) c d) [
      | None ↦ λ is no. cc
      | Some m ↦ λ is yes. (m, is, leads_of after path m d yes)
    ] refl e

pub of_leads : {C : Type 0} → (after : C → ℕ → Option C) (path : List ℕ) (c d : C) → Leads after path c d → after_all after path c ≡ Some d
of_leads after [] c d e = cc (e)
of_leads after (n ∷ path) c d (m, is, rest) = rw is (of_leads after path m d rest)

-- paths one after another
pub leads_on : {C : Type 0} → (after : C → ℕ → Option C) (path more : List ℕ) (c d e : C) → Leads after path c d → Leads after more d e → Leads after (path ++ more) c e
leads_on after [] more c d e is rest = subst (λ x. Leads after more x e) (sym is) rest
leads_on after (n ∷ path) more c d e (m, is, rest) on = (m, is, leads_on after path more m d e rest on)

-- only calls that are pending have effects
pub leads_below : {S C : Type 0} → (effect : S → C → Option S) (pending : List (Option C)) (path : List ℕ) (c d : Configuration S)
    → Leads (effect_at effect pending) path c d → AreBelow (length pending) path
leads_below effect pending [] c d is = tt
leads_below effect pending (n ∷ path) c d (m, is, rest) =
    let step = step_of effect pending c n m is in
    (called_within pending n step.call step.there, leads_below effect pending path m d rest)

-- a path makes its end reachable
pub reached : {S C : Type 0} → (effect : S → C → Option S) (pending : List (Option C)) (path : List ℕ) (c d : Configuration S)
    → Leads (effect_at effect pending) path c d → IsReachable (effect_at effect pending) (length pending) c d
reached effect pending path c d leads =
    (path, record { moves_are = leads_below effect pending path c d leads; leads = of_leads (effect_at effect pending) path c d leads })
