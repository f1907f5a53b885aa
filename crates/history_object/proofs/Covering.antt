-- A configuration that covers another still does so behind effects, begins and ends.
use Rattle.std.proofs.Common.{◌≡◌, ◌≢◌, ◌⊎◌, inl, inr, ℕ, Bool, true, false, List, [], ◌∷◌, Option, Some, None, length, slice_set, ap, refl, sym, subst, ◌∙◌}
use Rattle.std.proofs.lemmas.Bool.Decides.{eqb_tells}
use Rattle.history_object.specs.declared.configuration.Configuration.{Configuration}
use Rattle.history_object.specs.Standings.{IsFree, call_at, effect_at, forgot_at, found_call, had_effect}
use Rattle.history_object.proofs.Lists.{tells}
use Rattle.history_object.specs.Eager.{AreReaders, Covers, IsReader}
use Rattle.history_object.proofs.PlaceLists.{called_other, length_set, set_here, set_other, unset_here}
use Rattle.history_object.proofs.Leading.{Leads, Step, of_step, step_of}

pub covers_itself : {S C : Type 0} → (effect : S → C → Option S) (pending : List (Option C)) (c : Configuration S) → Covers effect pending c c
covers_itself effect pending c = record { states = refl; long = refl; marks = λ p. inl refl }

-- a reader stays pending where another place changes
pub reader_stays : {S C : Type 0} → (effect : S → C → Option S) (pending : List (Option C)) (p q : ℕ) (v : Option C) → p ≢ q → IsReader effect pending q
    → IsReader effect (slice_set pending p v) q
reader_stays effect pending p q v other reader = (reader.0, called_other pending p q v other ∙ reader.1, reader.2)

-- at a begin
pub covers_begun : {S C : Type 0} → (effect : S → C → Option S) (pending : List (Option C)) (p : ℕ) (call : C) (d c : Configuration S) → IsFree pending p
    → Covers effect pending d c → Covers effect (slice_set pending p (Some call)) d c
covers_begun effect pending p call d c free covers = record {
  states = covers.states;
  long = covers.long;
  marks = λ q. elim (covers.marks q) [
    | inl same ↦ inl same
    | inr more ↦ (
        let none : call_at pending p ≡ None = ap (λ o. found_call o) free in
        let other : p ≢ q = λ e. (let both : None ≡ Some more.1.0 = sym none ∙ (ap (λ k. call_at pending k) e ∙ more.1.1) in let ne : ⊥ = cc (both) in ne) in
        inr (more.0, reader_stays effect pending p q (Some call) other more.1))
  ];
}

-- at an end
pub covers_ended : {S C : Type 0} → (effect : S → C → Option S) (pending : List (Option C)) (p : ℕ) (d c : Configuration S)
    → Covers effect pending d c → Covers effect (slice_set pending p None) (forgot_at d p) (forgot_at c p)
covers_ended effect pending p d c covers = record {
  states = covers.states;
  long = length_set d.done p false ∙ (covers.long ∙ sym (length_set c.done p false));
  marks = λ q. elim (eqb_tells p q) [
    | inl is ↦ inl (subst (λ k. had_effect (forgot_at d p) k ≡ had_effect (forgot_at c p) k) is.1 (unset_here d.done p ∙ sym (unset_here c.done p)))
    | inr other ↦ elim (covers.marks q) [
      | inl same ↦ inl (set_other d.done p q false false other.1 ∙ (same ∙ sym (set_other c.done p q false false other.1)))
      | inr more ↦ inr (set_other d.done p q false false other.1 ∙ more.0, reader_stays effect pending p q None other.1 more.1)
    ]
  ];
}

-- one more effect of the covered configuration: the other has it too, or had it
pub covers_fresh : {S C : Type 0} → (effect : S → C → Option S) (pending : List (Option C)) (e c c' : Configuration S) (n : ℕ) → had_effect e n ≡ false
    → Covers effect pending e c → Step effect pending c n c' → (e' : Configuration S) × (effect_at effect pending e n ≡ Some e') × Covers effect pending e' c'
covers_fresh {S} effect pending e c c' n fresh covers step =
    let e' : Configuration S = record { state = c'.state; done = slice_set e.done n true } in (
      e',
      of_step effect pending e n e' (record {
        fresh = fresh;
        call = step.call;
        there = step.there;
        leads = ap (λ s. effect s step.call) covers.states ∙ step.leads;
        marked = refl;
      }),
      record {
        states = refl;
        long = length_set e.done n true ∙ (covers.long ∙ sym (ap length step.marked ∙ length_set c.done n true));
        marks = λ q. subst (λ (xs : List Bool). (had_effect e' q ≡ had_effect (record { state = c'.state; done = xs }) q) ⊎ ((had_effect e' q ≡ true) × IsReader effect pending q)) (sym step.marked)
            (elim (eqb_tells n q) [
              | inl is ↦ inl (subst (λ k. had_effect e' k ≡ had_effect (record { state = c'.state; done = slice_set c.done n true }) k) is.1
                  (set_here e.done c.done n true false covers.long))
              | inr other ↦ elim (covers.marks q) [
                | inl same ↦ inl (set_other e.done n q true false other.1 ∙ (same ∙ sym (set_other c.done n q true false other.1)))
                | inr more ↦ inr (set_other e.done n q true false other.1 ∙ more.0, more.1)
              ]
            ]);
      },
    )

pub covers_had : {S C : Type 0} → (effect : S → C → Option S) (pending : List (Option C)) (e c c' : Configuration S) (n : ℕ) → had_effect e n ≡ true
    → Covers effect pending e c → Step effect pending c n c' → Covers effect pending e c'
covers_had {S} effect pending e c c' n had covers step =
    let reader : IsReader effect pending n = elim (covers.marks n) [
      | inl same ↦ (let ne : ⊥ = cc (same, had, step.fresh) in absurd ne)
      | inr more ↦ more.1
    ] in
    let is_call : reader.0 ≡ step.call = (let both : Some reader.0 ≡ Some step.call = sym reader.1 ∙ step.there in cc (both)) in
    let still : c'.state ≡ c.state = reader.2 c.state c'.state (ap (λ x. effect c.state x) is_call ∙ step.leads) in
    record {
      states = covers.states ∙ sym still;
      long = covers.long ∙ sym (ap length step.marked ∙ length_set c.done n true);
      marks = λ q. subst (λ (xs : List Bool). (had_effect e q ≡ had_effect (record { state = c'.state; done = xs }) q) ⊎ ((had_effect e q ≡ true) × IsReader effect pending q)) (sym step.marked)
          (elim (eqb_tells n q) [
            | inl is ↦ inr (subst (λ k. (had_effect e k ≡ true) × IsReader effect pending k) is.1 (had, reader))
            | inr other ↦ elim (covers.marks q) [
              | inl same ↦ inl (same ∙ sym (set_other c.done n q true false other.1))
              | inr more ↦ inr more
            ]
          ]);
    }

-- what covers a configuration, goes on to cover what effects lead to from that
pub covers_on : {S C : Type 0} → (effect : S → C → Option S) (pending : List (Option C)) (path : List ℕ) (e c c' : Configuration S)
    → Covers effect pending e c → Leads (effect_at effect pending) path c c'
    → (e' : Configuration S) × (more : List ℕ) × Leads (effect_at effect pending) more e e' × Covers effect pending e' c'
covers_on effect pending [] e c c' covers is = (e, [], refl, subst (λ x. Covers effect pending e x) is covers)
covers_on effect pending (n ∷ path) e c c' covers (m, is, rest) =
    let step = step_of effect pending c n m is in
    elim (tells (had_effect e n)) [
      | inl had ↦ covers_on effect pending path e m c' (covers_had effect pending e c m n had covers step) rest
      | inr fresh ↦ (
          let one = covers_fresh effect pending e c m n fresh covers step in
          let on = covers_on effect pending path one.0 m c' one.2 rest in
          (on.0, n ∷ on.1, (one.0, one.1, on.2), on.3))
    ]

-- more reads cover
covers_read : {S C : Type 0} → (effect : S → C → Option S) (pending : List (Option C)) (e c e' : Configuration S) (n : ℕ) → IsReader effect pending n
    → Covers effect pending e c → Step effect pending e n e' → Covers effect pending e' c
covers_read {S} effect pending e c e' n reader covers step =
    let is_call : reader.0 ≡ step.call = (let both : Some reader.0 ≡ Some step.call = sym reader.1 ∙ step.there in cc (both)) in
    let still : e'.state ≡ e.state = reader.2 e.state e'.state (ap (λ x. effect e.state x) is_call ∙ step.leads) in
    let set : Configuration S = record { state = e'.state; done = slice_set e.done n true } in
    record {
      states = still ∙ covers.states;
      long = (ap length step.marked ∙ length_set e.done n true) ∙ covers.long;
      marks = λ q. subst (λ (xs : List Bool). (had_effect (record { state = e'.state; done = xs }) q ≡ had_effect c q) ⊎ ((had_effect (record { state = e'.state; done = xs }) q ≡ true) × IsReader effect pending q)) (sym step.marked)
          (elim (eqb_tells n q) [
            | inl is ↦ subst (λ k. (had_effect set k ≡ had_effect c k) ⊎ ((had_effect set k ≡ true) × IsReader effect pending k)) is.1
                (elim (tells (had_effect set n)) [
                  | inl has ↦ inr (has, reader)
                  | inr hasnt ↦ elim (covers.marks n) [
                    | inl same ↦ inl (hasnt ∙ (sym step.fresh ∙ same))
                    | inr more ↦ (let ne : ⊥ = cc (more.0, step.fresh) in absurd ne)
                  ]
                ])
            | inr other ↦ elim (covers.marks q) [
              | inl same ↦ inl (set_other e.done n q true false other.1 ∙ same)
              | inr more ↦ inr (set_other e.done n q true false other.1 ∙ more.0, more.1)
            ]
          ]);
    }

pub reads_cover : {S C : Type 0} → (effect : S → C → Option S) (pending : List (Option C)) (path : List ℕ) (e c d : Configuration S) → AreReaders effect pending path
    → Covers effect pending e c → Leads (effect_at effect pending) path e d → Covers effect pending d c
reads_cover effect pending [] e c d are covers is = subst (λ x. Covers effect pending x c) is covers
reads_cover effect pending (n ∷ path) e c d are covers (m, is, rest) =
    reads_cover effect pending path m c d are.1 (covers_read effect pending e c m n are.0 covers (step_of effect pending e n m is)) rest
