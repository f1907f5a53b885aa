-- Effects with all reads after each do what effects one by one do.
use Rattle.std.proofs.Common.{◌≡◌, inl, inr, ℕ, zero, suc, ◌+◌, ◌≤◌, Bool, true, false, List, [], ◌∷◌, ◌++◌, Option, Some, None, length, slice_set, ap, refl, subst, ◌∙◌, arith}
use Rattle.history_object.specs.declared.configuration.Configuration.{Configuration}
use Rattle.history_object.specs.Carried.{AreBelow, IsCarriedTo, carry}
use Rattle.history_object.specs.Reads.{AreReads}
use Rattle.history_object.specs.Eager.{AreReaders, Covers, Serves}
use Rattle.history_object.specs.Parts.{eager_at, reads_found, with_all_reads, with_read, with_reads}
use Rattle.history_object.specs.Standings.{call_at, effect_at, forgot_at, had_effect}
use Rattle.history_object.proofs.Lists.{tells}
use Rattle.history_object.proofs.PlaceLists.{called_within}
use Rattle.history_object.proofs.Leading.{Leads, leads_of, leads_on, of_leads, of_step, reached, step_of}
use Rattle.history_object.proofs.Covering.{covers_ended, covers_fresh, covers_had, covers_itself, covers_on, reads_cover}
use Rattle.history_object.proofs.Serving.{carry_below, carry_leads, cut, leads_ended}

-- effects of readers lead from the one to the other
abbrev pub ReadsLead : {S C : Type 0} → (S → C → Option S) → List (Option C) → Configuration S → Configuration S → Type 0
ReadsLead effect pending c d = (path : List ℕ) × AreReaders effect pending path × Leads (effect_at effect pending) path c d

readers_on : {S C : Type 0} → (effect : S → C → Option S) (pending : List (Option C)) (path more : List ℕ) → AreReaders effect pending path
    → AreReaders effect pending more → AreReaders effect pending (path ++ more)
readers_on effect pending [] more are too = too
readers_on effect pending (n ∷ path) more are too = (are.0, readers_on effect pending path more are.1 too)

-- a call that reads is a reader, and its effect marks it
read_leads : {S C : Type 0} → (effect : S → C → Option S) (reads : S → C → Bool) → AreReads effect reads → (pending : List (Option C)) (c : Configuration S) (n : ℕ) (found : Option C)
    → had_effect c n ≡ false → call_at pending n ≡ found → reads_found reads c.state found ≡ true
    → ReadsLead effect pending c (record { state = c.state; done = slice_set c.done n true })
read_leads effect reads law pending c n None fresh there is = cc (is)
read_leads {S} effect reads law pending c n (Some call) fresh there is =
    let both = law c.state call is in
    let next : Configuration S = record { state = c.state; done = slice_set c.done n true } in (
      n ∷ [],
      ((call, there, both.1), tt),
      (next, of_step effect pending c n next (record { fresh = fresh; call = call; there = there; leads = both.0; marked = refl }), refl),
    )

one_read : {S C : Type 0} → (effect : S → C → Option S) (reads : S → C → Bool) → AreReads effect reads → (pending : List (Option C)) (c : Configuration S) (n : ℕ)
    → ReadsLead effect pending c (with_read reads pending c n)
one_read effect reads law pending c n = elim (tells (had_effect c n)) [
  | inl had ↦ rw had ([], tt, refl)
  | inr fresh ↦ elim (tells (reads_found reads c.state (call_at pending n))) [
    | inl is ↦ rw (fresh, is) (read_leads effect reads law pending c n (call_at pending n) fresh refl is)
    | inr isnt ↦ rw (fresh, isnt) ([], tt, refl)
  ]
]

pub all_read : {S C : Type 0} → (effect : S → C → Option S) (reads : S → C → Bool) → AreReads effect reads → (pending : List (Option C)) (n : ℕ) (c : Configuration S)
    → ReadsLead effect pending c (with_reads reads pending n c)
all_read effect reads law pending zero c = ([], tt, refl)
all_read effect reads law pending (suc n) c =
    let front = all_read effect reads law pending n c in
    let last = one_read effect reads law pending (with_reads reads pending n c) n in (
      front.0 ++ last.0,
      readers_on effect pending front.0 last.0 front.1 last.1,
      leads_on (effect_at effect pending) front.0 last.0 c (with_reads reads pending n c) (with_read reads pending (with_reads reads pending n c) n) front.2 last.2,
    )

-- with the reads at one place more
pub reads_more : {S C : Type 0} → (reads : S → C → Bool) (pending : List (Option C)) (n m : ℕ) (c : Configuration S) → m ≡ n + 1
    → with_reads reads pending m c ≡ with_read reads pending (with_reads reads pending n c) n
reads_more reads pending n m c is = let e : m ≡ suc n = omega (arith, is) in ap (λ k. with_reads reads pending k c) e

-- an effect with all reads after it, one by one
eager_leads : {S C : Type 0} → (effect : S → C → Option S) (reads : S → C → Bool) → AreReads effect reads → (pending : List (Option C)) (c d : Configuration S) (n : ℕ) (next : Option (Configuration S))
    → effect_at effect pending c n ≡ next → with_all_reads reads pending next ≡ Some d → (path : List ℕ) × Leads (effect_at effect pending) path c d
eager_leads effect reads law pending c d n None is e = cc (e)
eager_leads effect reads law pending c d n (Some m) is e =
    let same : with_reads reads pending (length pending) m ≡ d = cc (e) in
    let more = all_read effect reads law pending (length pending) m in
    (n ∷ more.0, (m, is, subst (λ x. Leads (effect_at effect pending) more.0 m x) same more.2))

pub eager_path : {S C : Type 0} → (effect : S → C → Option S) (reads : S → C → Bool) → AreReads effect reads → (pending : List (Option C)) (path : List ℕ) (c d : Configuration S)
    → Leads (eager_at effect reads pending) path c d → (more : List ℕ) × Leads (effect_at effect pending) more c d
eager_path effect reads law pending [] c d is = ([], is)
eager_path effect reads law pending (n ∷ path) c d (m, is, rest) =
    let first = eager_leads effect reads law pending c m n (effect_at effect pending c n) refl is in
    let second = eager_path effect reads law pending path m d rest in
    (first.0 ++ second.0, leads_on (effect_at effect pending) first.0 second.0 c m d first.1 second.1)

-- what is carried with reads is, one by one, carried to one that serves for it
pub carried_plainly : {S C : Type 0} → (effect : S → C → Option S) (reads : S → C → Bool) → AreReads effect reads → (pending : List (Option C)) (p : ℕ) (c d : Configuration S)
    → IsCarriedTo (eager_at effect reads pending) had_effect (length pending) p c d
    → (m : Configuration S) × IsCarriedTo (effect_at effect pending) had_effect (length pending) p c m
    × Serves effect (slice_set pending p None) (forgot_at m p) (forgot_at d p)
carried_plainly effect reads law pending p c d (carried, had) =
    let eager = eager_at effect reads pending in
    let leads = carry_leads eager had_effect p carried.0 c d (leads_of (carry eager had_effect p) carried.0 c d carried.1.leads) in
    let plain = eager_path effect reads law pending carried.0 c d leads in
    let at = cut effect pending p plain.0 c d had plain.1 in (
      at.0,
      (carry_below effect pending p at.1 c at.0 at.3, at.4),
      (forgot_at d p, reached effect (slice_set pending p None) at.2 (forgot_at at.0 p) (forgot_at d p) at.5, covers_itself effect (slice_set pending p None) (forgot_at d p)),
    )

-- what a path of eager effects up to the end leads to
abbrev pub IsRunEagerly : {S C : Type 0} → (S → C → Option S) → (S → C → Bool) → List (Option C) → ℕ → Configuration S → Configuration S → Type 0
IsRunEagerly {S} effect reads pending p e next = (m : Configuration S)
    × ((path : List ℕ) × AreBelow (length pending) path × Leads (carry (eager_at effect reads pending) had_effect p) path e m)
    × (had_effect m p ≡ true) × Serves effect (slice_set pending p None) (forgot_at m p) (forgot_at next p)

run_had : {S C : Type 0} → (effect : S → C → Option S) (reads : S → C → Bool) (pending : List (Option C)) (p : ℕ) (path : List ℕ) (e c next : Configuration S)
    → had_effect e p ≡ true → Covers effect pending e c → Leads (effect_at effect pending) path c next → IsRunEagerly effect reads pending p e next
run_had effect reads pending p path e c next had covers leads =
    let on = covers_on effect pending path e c next covers leads in (
      e,
      ([], tt, refl),
      had,
      (
        forgot_at on.0 p,
        reached effect (slice_set pending p None) on.1 (forgot_at e p) (forgot_at on.0 p) (leads_ended effect pending p on.1 e on.0 had on.2),
        covers_ended effect pending p on.0 next on.3,
      ),
    )

run : {S C : Type 0} → (effect : S → C → Option S) (reads : S → C → Bool) → AreReads effect reads → (pending : List (Option C)) (p : ℕ) (path : List ℕ) (e c next : Configuration S)
    → had_effect next p ≡ true → Covers effect pending e c → Leads (effect_at effect pending) path c next → IsRunEagerly effect reads pending p e next
run effect reads law pending p [] e c next had covers is =
    let had' : had_effect c p ≡ true = ap (λ x. had_effect x p) is ∙ had in
    let has : had_effect e p ≡ true = elim (covers.marks p) [ inl same ↦ same ∙ had' | inr more ↦ more.0 ] in
    run_had effect reads pending p [] e c next has covers is
run {S} effect reads law pending p (n ∷ path) e c next had covers (c', is, rest) = elim (tells (had_effect e p)) [
  | inl has ↦ run_had effect reads pending p (n ∷ path) e c next has covers (c', is, rest)
  | inr hasnt ↦ (
      let step = step_of effect pending c n c' is in
      elim (tells (had_effect e n)) [
        | inl had_n ↦ run effect reads law pending p path e c' next had (covers_had effect pending e c c' n had_n covers step) rest
        | inr fresh ↦ (
            let one = covers_fresh effect pending e c c' n fresh covers step in
            let more = all_read effect reads law pending (length pending) one.0 in
            let e' : Configuration S = with_reads reads pending (length pending) one.0 in
            let covers' = reads_cover effect pending more.0 one.0 c' e' more.1 one.2 more.2 in
            let first : carry (eager_at effect reads pending) had_effect p e n ≡ Some e' = rw (hasnt, one.1) refl in
            let on = run effect reads law pending p path e' c' next had covers' rest in
            (on.0, (n ∷ on.1.0, (called_within pending n step.call step.there, on.1.1), (e', first, on.1.2)), on.2, on.3))
      ])
]

-- what is carried one by one is, with reads, carried to one that serves for it
pub carried_eagerly : {S C : Type 0} → (effect : S → C → Option S) (reads : S → C → Bool) → AreReads effect reads → (pending : List (Option C)) (p : ℕ) (c next : Configuration S)
    → IsCarriedTo (effect_at effect pending) had_effect (length pending) p c next
    → (m : Configuration S) × IsCarriedTo (eager_at effect reads pending) had_effect (length pending) p c m
    × Serves effect (slice_set pending p None) (forgot_at m p) (forgot_at next p)
carried_eagerly effect reads law pending p c next (carried, had) =
    let after = effect_at effect pending in
    let leads = carry_leads after had_effect p carried.0 c next (leads_of (carry after had_effect p) carried.0 c next carried.1.leads) in
    let on = run effect reads law pending p carried.0 c c next had (covers_itself effect pending c) leads in (
      on.0,
      ((on.1.0, record { moves_are = on.1.1; leads = of_leads (carry (eager_at effect reads pending) had_effect p) on.1.0 c on.0 on.1.2 }), on.2),
      on.3,
    )

-- no call reads at places without one
pub none_read : {S C : Type 0} → (reads : S → C → Bool) (pending : List (Option C)) (c : Configuration S) (places more : ℕ)
    → ((n : ℕ) → places ≤ n → call_at pending n ≡ None) → with_reads reads pending (more + places) c ≡ with_reads reads pending places c
none_read reads pending c places zero none = (let same : 0 + places ≡ places = omega arith in ap (λ n. with_reads reads pending n c) same)
none_read {S} reads pending c places (suc more) none =
    let next : suc more + places ≡ suc (more + places) = omega arith in
    ap (λ n. with_reads reads pending n c) next ∙ (none_here (with_reads reads pending (more + places) c) ∙ none_read reads pending c places more none)
  where
    none_here : (d : Configuration S) → with_read reads pending d (more + places) ≡ d
    none_here d = elim (tells (had_effect d (more + places))) [
      | inl had ↦ rw had refl
      | inr fresh ↦ rw (fresh, none (more + places) (omega arith)) refl
    ]
