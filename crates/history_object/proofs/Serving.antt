-- A configuration that serves for another passes what the other can pass.
use Rattle.std.proofs.Common.{◌≡◌, ◌≢◌, inl, inr, ℕ, Bool, true, false, List, [], ◌∷◌, ◌++◌, Option, Some, None, length, slice_set, ap, refl, sym, ◌∙◌}
use Rattle.history_object.specs.declared.configuration.Configuration.{Configuration}
use Rattle.history_object.specs.Carried.{IsCarriedTo, IsReachable, carry}
use Rattle.history_object.specs.Standings.{Begins, Ends, IsFree, call_at, effect_at, forgot_at, found_call, had_effect}
use Rattle.history_object.proofs.Lists.{tells}
use Rattle.history_object.specs.Eager.{Serves, ServingPasses}
use Rattle.history_object.proofs.PlaceLists.{called_other, set_other, set_swap}
use Rattle.history_object.proofs.Leading.{Leads, Step, leads_below, leads_of, leads_on, of_leads, of_step, reached, step_of}
use Rattle.history_object.proofs.Covering.{covers_begun, covers_ended, covers_on}

-- a call that begins at a free place leaves what effects lead to
step_begun : {S C : Type 0} → (effect : S → C → Option S) (pending : List (Option C)) (p : ℕ) (call : C) (c : Configuration S) (n : ℕ) (d : Configuration S)
    → IsFree pending p → Step effect pending c n d → Step effect (slice_set pending p (Some call)) c n d
step_begun effect pending p call c n d free step =
    let none : call_at pending p ≡ None = ap (λ o. found_call o) free in
    let other : p ≢ n = λ e. (let both : None ≡ Some step.call = sym none ∙ (ap (λ k. call_at pending k) e ∙ step.there) in let ne : ⊥ = cc (both) in ne) in
    record {
      fresh = step.fresh;
      call = step.call;
      there = called_other pending p n (Some call) other ∙ step.there;
      leads = step.leads;
      marked = step.marked;
    }

leads_begun : {S C : Type 0} → (effect : S → C → Option S) (pending : List (Option C)) (p : ℕ) (call : C) (path : List ℕ) (c d : Configuration S)
    → IsFree pending p → Leads (effect_at effect pending) path c d → Leads (effect_at effect (slice_set pending p (Some call))) path c d
leads_begun effect pending p call [] c d free is = is
leads_begun effect pending p call (n ∷ path) c d free (m, is, rest) = (
  m,
  of_step effect (slice_set pending p (Some call)) c n m (step_begun effect pending p call c n m free (step_of effect pending c n m is)),
  leads_begun effect pending p call path m d free rest,
)

-- where the call that ends had its effect, the others may have theirs behind its end
step_ended : {S C : Type 0} → (effect : S → C → Option S) (pending : List (Option C)) (p : ℕ) (c : Configuration S) (n : ℕ) (d : Configuration S)
    → had_effect c p ≡ true → Step effect pending c n d
    → (had_effect d p ≡ true) × Step effect (slice_set pending p None) (forgot_at c p) n (forgot_at d p)
step_ended {S} effect pending p c n d had step =
    let other : p ≢ n = λ e. (let no : had_effect c p ≡ false = ap (λ k. had_effect c k) e ∙ step.fresh in let ne : ⊥ = cc (had, no) in ne) in
    let back : n ≢ p = λ e. other (sym e) in (
      ap (λ (xs : List Bool). had_effect (record { state = d.state; done = xs }) p) step.marked ∙ (set_other c.done n p true false back ∙ had),
      record {
        fresh = set_other c.done p n false false other ∙ step.fresh;
        call = step.call;
        there = called_other pending p n None other ∙ step.there;
        leads = step.leads;
        marked = ap (λ (xs : List Bool). slice_set xs p false) step.marked ∙ set_swap c.done n p true false back;
      },
    )

pub leads_ended : {S C : Type 0} → (effect : S → C → Option S) (pending : List (Option C)) (p : ℕ) (path : List ℕ) (c d : Configuration S)
    → had_effect c p ≡ true → Leads (effect_at effect pending) path c d
    → Leads (effect_at effect (slice_set pending p None)) path (forgot_at c p) (forgot_at d p)
leads_ended effect pending p [] c d had is = ap (λ x. forgot_at x p) is
leads_ended effect pending p (n ∷ path) c d had (m, is, rest) =
    let on = step_ended effect pending p c n m had (step_of effect pending c n m is) in (
      forgot_at m p,
      of_step effect (slice_set pending p None) (forgot_at c p) n (forgot_at m p) on.1,
      leads_ended effect pending p path m d on.0 rest,
    )

-- what effects up to the end of the call lead to, from where the rest of them leads on behind the end
abbrev pub IsCutAt : {S C : Type 0} → (S → C → Option S) → List (Option C) → ℕ → Configuration S → Configuration S → Type 0
IsCutAt {S} effect pending p c d = (m : Configuration S) × (front : List ℕ) × (back : List ℕ) × Leads (carry (effect_at effect pending) had_effect p) front c m
    × (had_effect m p ≡ true) × Leads (effect_at effect (slice_set pending p None)) back (forgot_at m p) (forgot_at d p)

-- effects are cut at that of a call
pub cut : {S C : Type 0} → (effect : S → C → Option S) (pending : List (Option C)) (p : ℕ) (path : List ℕ) (c d : Configuration S)
    → had_effect d p ≡ true → Leads (effect_at effect pending) path c d → IsCutAt effect pending p c d
cut effect pending p [] c d had is = (c, [], [], refl, ap (λ x. had_effect x p) is ∙ had, ap (λ x. forgot_at x p) is)
cut effect pending p (n ∷ path) c d had (m, is, rest) = elim (tells (had_effect c p)) [
  | inl has ↦ (c, [], n ∷ path, refl, has, leads_ended effect pending p (n ∷ path) c d has (m, is, rest))
  | inr hasnt ↦ (
      let on = cut effect pending p path m d had rest in
      (on.0, n ∷ on.1, on.2, (m, rw hasnt is, on.3), on.4, on.5))
]

pub carry_leads : {C : Type 0} → (after : C → ℕ → Option C) (had : C → ℕ → Bool) (p : ℕ) (path : List ℕ) (c d : C) → Leads (carry after had p) path c d → Leads after path c d
carry_leads after had p [] c d is = is
carry_leads after had p (n ∷ path) c d (m, is, rest) = elim (tells (had c p)) [
  | inl has ↦ (let none : None ≡ Some m = rw has at is in cc (none))
  | inr hasnt ↦ (m, rw hasnt at is, carry_leads after had p path m d rest)
]

pub carry_below : {S C : Type 0} → (effect : S → C → Option S) (pending : List (Option C)) (p : ℕ) (path : List ℕ) (c d : Configuration S)
    → Leads (carry (effect_at effect pending) had_effect p) path c d → IsReachable (carry (effect_at effect pending) had_effect p) (length pending) c d
carry_below effect pending p path c d leads = (
  path,
  record {
    moves_are = leads_below effect pending path c d (carry_leads (effect_at effect pending) had_effect p path c d leads);
    leads = of_leads (carry (effect_at effect pending) had_effect p) path c d leads;
  },
)

-- one that serves for the other at a begin serves behind it
pub serves_begun : {S C : Type 0} → (effect : S → C → Option S) (pending : List (Option C)) (p : ℕ) (call : C) (d c : Configuration S) → IsFree pending p
    → Serves effect pending d c → Serves effect (slice_set pending p (Some call)) d c
serves_begun effect pending p call d c free (e, reach, covers) =
    let leads = leads_begun effect pending p call reach.0 d e free (leads_of (effect_at effect pending) reach.0 d e reach.1.leads) in
    (e, reached effect (slice_set pending p (Some call)) reach.0 d e leads, covers_begun effect pending p call e c free covers)

-- and at an end
pub serves_ended : {S C : Type 0} → (effect : S → C → Option S) (pending : List (Option C)) (p : ℕ) (d c next : Configuration S) → Serves effect pending d c
    → IsCarriedTo (effect_at effect pending) had_effect (length pending) p c next
    → (m : Configuration S) × IsCarriedTo (effect_at effect pending) had_effect (length pending) p d m
    × Serves effect (slice_set pending p None) (forgot_at m p) (forgot_at next p)
serves_ended effect pending p d c next (e, reach, covers) (carried, had) =
    let after = effect_at effect pending in
    let first = leads_of after reach.0 d e reach.1.leads in
    let second = carry_leads after had_effect p carried.0 c next (leads_of (carry after had_effect p) carried.0 c next carried.1.leads) in
    let on = covers_on effect pending carried.0 e c next covers second in
    let has : had_effect on.0 p ≡ true = elim (on.3.marks p) [ inl same ↦ same ∙ had | inr more ↦ more.0 ] in
    let at = cut effect pending p (reach.0 ++ on.1) d on.0 has (leads_on after reach.0 on.1 d e on.0 first on.2) in (
      at.0,
      (carry_below effect pending p at.1 d at.0 at.3, at.4),
      (forgot_at on.0 p, reached effect (slice_set pending p None) at.2 (forgot_at at.0 p) (forgot_at on.0 p) at.5, covers_ended effect pending p on.0 next on.3),
    )

pub serving_passes : {S C : Type 0} → (effect : S → C → Option S) → ServingPasses effect
serving_passes effect pending d c [] serves pass = tt
serving_passes effect pending d c (Begins p call ∷ events) serves (free, pass) =
    (free, serving_passes effect (slice_set pending p (Some call)) d c events (serves_begun effect pending p call d c free serves) pass)
serving_passes effect pending d c (Ends p ∷ events) serves (next, carried, pass) =
    let on = serves_ended effect pending p d c next serves carried in
    (on.0, on.1, serving_passes effect (slice_set pending p None) (forgot_at on.0 p) (forgot_at next p) events on.2 pass)
