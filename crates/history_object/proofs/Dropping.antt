-- Configurations that keep the marks of pending calls alone tell the same.
use Rattle.std.proofs.Common.{◌≡◌, ◌≢◌, ◌⊎◌, inl, inr, ℕ, suc, ◌<◌, ◌≤◌, Bool, true, false, nat_eq, List, [], ◌∷◌, Option, Some, None, subst, refl, sym, ◌∙◌, arith}
use Rattle.std.proofs.lemmas.Bool.Decides.{eqb_tells}
use Rattle.history_object.specs.Carried.{AreBelow, after_all, carry, going_on}
use Rattle.history_object.specs.Orders.{CallBegins, CallEnds, IsIn, NumberedEvent}
use Rattle.history_object.proofs.MarkedStates.{ArePending, DroppedMarksTell, EndsArePending, IsLeft, IsLeftDropped, MarkedState, begun_with, effect_on, forgot, has_done, marked, with_state, without, without_mark}
use Rattle.history_object.proofs.Lists.{tells}
use Rattle.history_object.proofs.Tell.{configurations_tell}

-- what an effect on a configuration is
record WasMade {S : Type 0} (effect : S → ℕ → Option S) (c d : MarkedState S) (n : ℕ) : Type 0 where
  pub not : c.done n ≡ false
  pub state : S
  pub leads : effect c.state n ≡ Some state
  pub is : d ≡ record { state = state; done = marked c.done n }

was_made : {S : Type 0} → (effect : S → ℕ → Option S) (c d : MarkedState S) (n : ℕ) → effect_on effect c n ≡ Some d → WasMade effect c d n
was_made {S} effect c d n e = elim (tells (c.done n)) [
  | inl was ↦ (let none : None ≡ Some d = rw was at e in cc (none))
  | inr not ↦ elim (effect c.state n) as (λ next. effect c.state n ≡ next → with_state (marked c.done n) next ≡ Some d → WasMade effect c d n) [
    | None ↦ λ is none. cc
    | Some s ↦ λ is it. record { not = not; state = s; leads = is; is = (let same : record { state = s; done = marked c.done n } ≡ d = cc in sym same) }
  ] refl (rw not at e)
]

makes : {S : Type 0} → (effect : S → ℕ → Option S) (c : MarkedState S) (n : ℕ) (s : S) → c.done n ≡ false → effect c.state n ≡ Some s
    → effect_on effect c n ≡ Some (record { state = s; done = marked c.done n })
makes effect c n s not leads = rw not (rw leads refl)

-- the two are one but for marks of calls that ended
record Agree {S : Type 0} (calls : ℕ) (pending : List ℕ) (c d : MarkedState S) : Type 0 where
  pub states : c.state ≡ d.state
  pub begun : (n : ℕ) → IsIn n pending → n < calls
  pub marks : (n : ℕ) → IsIn n pending → c.done n ≡ d.done n
  pub ended : (n : ℕ) → n < calls → IsIn n pending ⊎ (c.done n ≡ true)
  pub later : (n : ℕ) → calls ≤ n → (c.done n ≡ false) × (d.done n ≡ false)

-- also behind an effect
marked_both : (f g : ℕ → Bool) (n i : ℕ) → f i ≡ g i → marked f n i ≡ marked g n i
marked_both f g n i e = elim (tells (nat_eq n i)) [ inl is ↦ rw is refl | inr is ↦ rw is e ]

marked_stays : (f : ℕ → Bool) (n i : ℕ) → f i ≡ true → marked f n i ≡ true
marked_stays f n i e = elim (tells (nat_eq n i)) [ inl is ↦ rw is refl | inr is ↦ rw is e ]

marked_other : (f : ℕ → Bool) (n i : ℕ) → n ≢ i → f i ≡ false → marked f n i ≡ false
marked_other f n i other e = elim (eqb_tells n i) [ inl is ↦ absurd (other is.1) | inr is ↦ (let test : nat_eq n i ≡ false = is.0 in rw test e) ]

agree_behind : {S : Type 0} → (calls : ℕ) (pending : List ℕ) (c d : MarkedState S) (n : ℕ) (s : S) → n < calls → Agree calls pending c d
    → Agree calls pending (record { state = s; done = marked c.done n }) (record { state = s; done = marked d.done n })
agree_behind calls pending c d n s below agree = record {
  states = refl;
  begun = agree.begun;
  marks = λ i at. marked_both c.done d.done n i (agree.marks i at);
  ended = λ i lt. elim (agree.ended i lt) [ inl at ↦ inl at | inr was ↦ inr (marked_stays c.done n i was) ];
  later = λ i le. (
    marked_other c.done n i (λ same. omega (arith, below, le, same)) (agree.later i le).0,
    marked_other d.done n i (λ same. omega (arith, below, le, same)) (agree.later i le).1,
  );
}

-- at an end
pub in_without : (i n : ℕ) (pending : List ℕ) → IsIn n (without i pending) → IsIn n pending × (i ≢ n)
in_without i n [] at = absurd at
in_without i n (k ∷ pending) at = elim (eqb_tells k i) [
  | inl is ↦ (let test : nat_eq k i ≡ true = is.0 in let rest = in_without i n pending (rw test at at) in (inr rest.0, rest.1))
  | inr is ↦ (
      let test : nat_eq k i ≡ false = is.0 in
      let here : (k ≡ n) ⊎ IsIn n (without i pending) = rw test at at in
      elim here [
        | inl same ↦ (inl same, (λ e. is.1 (same ∙ sym e)))
        | inr later ↦ (let rest = in_without i n pending later in (inr rest.0, rest.1))
      ])
]

pub stays_in : (i n : ℕ) (pending : List ℕ) → IsIn n pending → i ≢ n → IsIn n (without i pending)
stays_in i n [] at other = absurd at
stays_in i n (k ∷ pending) at other = elim (eqb_tells k i) [
  | inl is ↦ (let test : nat_eq k i ≡ true = is.0 in rw test (elim at [ inl same ↦ absurd (other (sym is.1 ∙ same)) | inr later ↦ stays_in i n pending later other ]))
  | inr is ↦ (let test : nat_eq k i ≡ false = is.0 in rw test (elim at [ inl same ↦ inl same | inr later ↦ inr (stays_in i n pending later other) ]))
]

pub without_mark_other : (f : ℕ → Bool) (n i : ℕ) → n ≢ i → without_mark f n i ≡ f i
without_mark_other f n i other = elim (eqb_tells n i) [ inl is ↦ absurd (other is.1) | inr is ↦ (let test : nat_eq n i ≡ false = is.0 in rw test refl) ]

pub without_mark_not : (f : ℕ → Bool) (n i : ℕ) → f i ≡ false → without_mark f n i ≡ false
without_mark_not f n i e = elim (tells (nat_eq n i)) [ inl is ↦ rw is refl | inr is ↦ rw is e ]

agree_ended : {S : Type 0} → (calls : ℕ) (pending : List ℕ) (c d : MarkedState S) (i : ℕ) → Agree calls pending c d → c.done i ≡ true
    → Agree calls (without i pending) c (forgot d i)
agree_ended calls pending c d i agree had = record {
  states = agree.states;
  begun = λ n at. agree.begun n (in_without i n pending at).0;
  marks = λ n at. (let there = in_without i n pending at in agree.marks n there.0 ∙ sym (without_mark_other d.done i n there.1));
  ended = λ n lt. elim (agree.ended n lt) [
    | inl at ↦ elim (eqb_tells i n) [ inl is ↦ inr (subst (λ k. c.done k ≡ true) is.1 had) | inr is ↦ inl (stays_in i n pending at is.1) ]
    | inr was ↦ inr was
  ];
  later = λ n le. ((agree.later n le).0, without_mark_not d.done i n (agree.later n le).1);
}

-- at a begin
agree_begun : {S : Type 0} → (calls : ℕ) (pending : List ℕ) (c d : MarkedState S) → Agree calls pending c d → Agree (suc calls) (calls ∷ pending) c d
agree_begun calls pending c d agree = record {
  states = agree.states;
  begun = λ n at. elim at [ inl same ↦ omega (arith, same) | inr later ↦ (let lt = agree.begun n later in omega (arith, lt)) ];
  marks = λ n at. elim at [
    | inl same ↦ (let le : calls ≤ n = omega (arith, same) in (agree.later n le).0 ∙ sym (agree.later n le).1)
    | inr later ↦ agree.marks n later
  ];
  ended = λ n lt. elim (eqb_tells calls n) [
    | inl is ↦ inl (inl is.1)
    | inr is ↦ (let below : n < calls = grind (arith, lt, is.1) in elim (agree.ended n below) [ inl at ↦ inl (inr at) | inr was ↦ inr was ])
  ];
  later = λ n le. agree.later n (omega (arith, le));
}

-- a carried configuration is carried by an effect
carried_by : {S : Type 0} → (effect : S → ℕ → Option S) (i n : ℕ) (c d : MarkedState S) → carry (effect_on effect) has_done i c n ≡ Some d
    → (c.done i ≡ false) × (effect_on effect c n ≡ Some d)
carried_by effect i n c d e = elim (tells (c.done i)) [
  | inl is ↦ (let none : None ≡ Some d = rw is at e in cc (none))
  | inr not ↦ (not, rw not at e)
]

-- where a path leads to, from one that agrees
abbrev LeadsToo : {S : Type 0} → (S → ℕ → Option S) → ℕ → ℕ → List ℕ → List ℕ → MarkedState S → MarkedState S → Type 0
LeadsToo {S} effect i calls pending path m d = (e : MarkedState S) × ArePending pending path × (after_all (carry (effect_on effect) has_done i) path d ≡ Some e) × Agree calls pending m e

-- the same path leads on without the marks of calls that ended
path_without : {S : Type 0} → (effect : S → ℕ → Option S) (i calls : ℕ) (pending path : List ℕ) (c d m : MarkedState S) → IsIn i pending → Agree calls pending c d
    → AreBelow calls path → after_all (carry (effect_on effect) has_done i) path c ≡ Some m → LeadsToo effect i calls pending path m d
path_without effect i calls pending [] c d m at agree are e =
    let same : c ≡ m = cc in (d, tt, refl, subst (λ x. Agree calls pending x d) same agree)
path_without effect i calls pending (n ∷ path) c d m at agree are e =
    elim (carry (effect_on effect) has_done i c n) as (λ next. carry (effect_on effect) has_done i c n ≡ next
    → going_on (after_all (carry (effect_on effect) has_done i) path) next ≡ Some m → LeadsToo effect i calls pending (n ∷ path) m d) [
      | None ↦ λ is none. cc
      | Some x ↦ λ is it. (
          let by = carried_by effect i n c x is in
          let made = was_made effect c x n by.1 in
          let there : IsIn n pending = elim (agree.ended n are.0) [ inl there ↦ there | inr was ↦ (let ne : ⊥ = cc (was, made.not) in absurd ne) ] in
          let not_i : d.done i ≡ false = sym (agree.marks i at) ∙ by.0 in
          let not_n : d.done n ≡ false = sym (agree.marks n there) ∙ made.not in
          let leads = subst (λ s. effect s n ≡ Some made.state) agree.states made.leads in
          let effect_is = makes effect d n made.state not_n leads in
          let step : carry (effect_on effect) has_done i d n ≡ Some (record { state = made.state; done = marked d.done n }) = rw not_i effect_is in
          let on = subst (λ y. Agree calls pending y (record { state = made.state; done = marked d.done n })) (sym made.is)
          (agree_behind calls pending c d n made.state are.0 agree) in
          let rest = path_without effect i calls pending path x (record { state = made.state; done = marked d.done n }) m at on are.1 it in
          (rest.0, (there, rest.1), rw step rest.2, rest.3))
    ] refl e

-- and the other way round
abbrev LeadsBack : {S : Type 0} → (S → ℕ → Option S) → ℕ → ℕ → List ℕ → List ℕ → MarkedState S → MarkedState S → Type 0
LeadsBack {S} effect i calls pending path m c = (e : MarkedState S) × AreBelow calls path × (after_all (carry (effect_on effect) has_done i) path c ≡ Some e) × Agree calls pending e m

path_with : {S : Type 0} → (effect : S → ℕ → Option S) (i calls : ℕ) (pending path : List ℕ) (c d m : MarkedState S) → IsIn i pending → Agree calls pending c d
    → ArePending pending path → after_all (carry (effect_on effect) has_done i) path d ≡ Some m → LeadsBack effect i calls pending path m c
path_with effect i calls pending [] c d m at agree are e =
    let same : d ≡ m = cc in (c, tt, refl, subst (λ x. Agree calls pending c x) same agree)
path_with effect i calls pending (n ∷ path) c d m at agree are e =
    elim (carry (effect_on effect) has_done i d n) as (λ next. carry (effect_on effect) has_done i d n ≡ next
    → going_on (after_all (carry (effect_on effect) has_done i) path) next ≡ Some m → LeadsBack effect i calls pending (n ∷ path) m c) [
      | None ↦ λ is none. cc
      | Some x ↦ λ is it. (
          let by = carried_by effect i n d x is in
          let made = was_made effect d x n by.1 in
          let below = agree.begun n are.0 in
          let not_i : c.done i ≡ false = agree.marks i at ∙ by.0 in
          let not_n : c.done n ≡ false = agree.marks n are.0 ∙ made.not in
          let leads = subst (λ s. effect s n ≡ Some made.state) (sym agree.states) made.leads in
          let effect_is = makes effect c n made.state not_n leads in
          let step : carry (effect_on effect) has_done i c n ≡ Some (record { state = made.state; done = marked c.done n }) = rw not_i effect_is in
          let on = subst (λ y. Agree calls pending (record { state = made.state; done = marked c.done n }) y) (sym made.is)
          (agree_behind calls pending c d n made.state below agree) in
          let rest = path_with effect i calls pending path (record { state = made.state; done = marked c.done n }) x m at on are.1 it in
          (rest.0, (below, rest.1), rw step rest.2, rest.3))
    ] refl e

-- what is left where all marks are kept, is left where marks are dropped
without_marks : {S : Type 0} → (effect : S → ℕ → Option S) (calls : ℕ) (pending : List ℕ) (events : List NumberedEvent) (c d last : MarkedState S) → Agree calls pending c d
    → EndsArePending calls pending events → IsLeft (effect_on effect) has_done calls events c last
    → (x : MarkedState S) × IsLeftDropped (effect_on effect) has_done forgot calls pending events d x
without_marks effect calls pending [] c d last agree ends left = (d, refl)
without_marks effect calls pending (CallBegins ∷ events) c d last agree ends left =
    without_marks effect (suc calls) (calls ∷ pending) events c d last (agree_begun calls pending c d agree) ends left
without_marks effect calls pending (CallEnds i ∷ events) c d last agree ends (next, (reach, it), left) =
    let on = path_without effect i calls pending reach.0 c d next ends.0 agree reach.1.moves_are reach.1.leads in
    let rest = without_marks effect calls (without i pending) events next (forgot on.0 i) last (agree_ended calls pending next on.0 i on.3 it) ends.1 left in
    (rest.0, (on.0, (reach.0, on.1, on.2, sym (on.3.marks i ends.0) ∙ it), rest.1))

with_marks : {S : Type 0} → (effect : S → ℕ → Option S) (calls : ℕ) (pending : List ℕ) (events : List NumberedEvent) (c d last : MarkedState S) → Agree calls pending c d
    → EndsArePending calls pending events → IsLeftDropped (effect_on effect) has_done forgot calls pending events d last
    → (x : MarkedState S) × IsLeft (effect_on effect) has_done calls events c x
with_marks effect calls pending [] c d last agree ends left = (c, refl)
with_marks effect calls pending (CallBegins ∷ events) c d last agree ends left =
    with_marks effect (suc calls) (calls ∷ pending) events c d last (agree_begun calls pending c d agree) ends left
with_marks effect calls pending (CallEnds i ∷ events) c d last agree ends (next, (path, are, leads, it), left) =
    let on = path_with effect i calls pending path c d next ends.0 agree are leads in
    let had : on.0.done i ≡ true = on.3.marks i ends.0 ∙ it in
    let rest = with_marks effect calls (without i pending) events on.0 (forgot next i) last (agree_ended calls pending on.0 next i on.3 had) ends.1 left in
    (rest.0, (on.0, ((path, record { moves_are = on.1; leads = on.2 }), had), rest.1))

-- at first they agree
agree_first : {S : Type 0} → (start : S) → Agree 0 [] (begun_with start) (begun_with start)
agree_first start = record {
  states = refl;
  begun = λ n at. absurd at;
  marks = λ n at. absurd at;
  ended = λ n lt. absurd (omega (arith, lt));
  later = λ n le. (refl, refl);
}

pub dropped_marks_tell : {S : Type 0} → (effect : S → ℕ → Option S) → DroppedMarksTell effect
dropped_marks_tell effect start events ends =
    let both = configurations_tell effect start events in (
      λ left. both.0 (with_marks effect 0 [] events (begun_with start) (begun_with start) left.0 (agree_first start) ends left.1),
      λ explained. (let left = both.1 explained in
          without_marks effect 0 [] events (begun_with start) (begun_with start) left.0 (agree_first start) ends left.1),
    )
