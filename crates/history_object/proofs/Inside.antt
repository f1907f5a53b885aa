-- Effects outside of a part may wait until behind an end inside.
use Rattle.std.proofs.Common.{◌≡◌, ◌≢◌, inl, inr, ℕ, zero, suc, ◌<◌, Bool, true, false, List, [], ◌∷◌, ◌++◌, Option, Some, None, length, replicate, slice_set, ap, refl, sym, subst, ◌∙◌, arith}
use Rattle.std.proofs.lemmas.Bool.Decides.{eqb_tells}
use Rattle.history_object.specs.declared.configuration.Configuration.{Configuration}
use Rattle.history_object.specs.Carried.{AreBelow, IsCarriedTo, carry}
use Rattle.history_object.specs.Standings.{effect_at, forgot_at, had_effect}
use Rattle.history_object.proofs.Lists.{tells}
use Rattle.history_object.specs.Reads.{AreReads}
use Rattle.history_object.specs.Eager.{Covers, Serves}
use Rattle.history_object.specs.Parts.{HasAllOf, IsPart, IsPartOf, OthersMaySwap, eager_at, part_at, with_reads}
use Rattle.history_object.specs.Marks.{is_marked}
use Rattle.history_object.proofs.PlaceLists.{called_within, set_other, set_swap}
use Rattle.history_object.proofs.Leading.{Leads, Step, leads_of, leads_on, of_leads, of_step, reached, step_of}
use Rattle.history_object.proofs.Covering.{covers_ended, covers_fresh, covers_had, covers_itself, covers_on, reads_cover}
use Rattle.history_object.proofs.Eagerly.{all_read, carried_plainly}
use Rattle.history_object.proofs.Serving.{carry_leads, leads_ended}

-- each place is inside of the part, or each outside
abbrev pub AreSo : (ℕ → Bool) → Bool → List ℕ → Type 0
AreSo inside so [] = Unit {0}
AreSo inside so (n ∷ path) = (inside n ≡ so) × AreSo inside so path

differ : (inside : ℕ → Bool) (n p : ℕ) → inside n ≡ false → inside p ≡ true → n ≢ p
differ inside n p out is e = (let same : inside n ≡ inside p = ap inside e in let ne : ⊥ = cc (same, out, is) in ne)

-- an effect outside and then one inside, the other way round
swapped : {S C : Type 0} → (effect : S → C → Option S) (conflict : C → C → Bool) (pending : List (Option C)) (inside : ℕ → Bool) → OthersMaySwap effect conflict → IsPart conflict pending inside → (n q : ℕ) (c d e : Configuration S)
    → inside n ≡ false → inside q ≡ true → Step effect pending c n d → Step effect pending d q e
    → (m : Configuration S) × Step effect pending c q m × Step effect pending m n e
swapped {S} effect conflict pending inside law part n q c d e out is first second =
    let other = differ inside n q out is in
    let back : q ≢ n = λ k. other (sym k) in
    let swap = law first.call second.call (part q is n first.call second.call out first.there second.there) c.state d.state e.state first.leads second.leads in
    let m : Configuration S = record { state = swap.0; done = slice_set c.done q true } in (
      m,
      record {
        fresh = sym (set_other c.done n q true false other) ∙ (sym (ap (λ (xs : List Bool). had_effect (record { state = d.state; done = xs }) q) first.marked) ∙ second.fresh);
        call = second.call;
        there = second.there;
        leads = swap.1;
        marked = refl;
      },
      record {
        fresh = set_other c.done q n true false back ∙ first.fresh;
        call = first.call;
        there = first.there;
        leads = swap.2;
        marked = second.marked ∙ (ap (λ (xs : List Bool). slice_set xs q true) first.marked ∙ set_swap c.done n q true true other);
      },
    )

-- an effect outside, behind effects inside
pushed : {S C : Type 0} → (effect : S → C → Option S) (conflict : C → C → Bool) (pending : List (Option C)) (inside : ℕ → Bool) → OthersMaySwap effect conflict → IsPart conflict pending inside → (n : ℕ) (path : List ℕ) (c d e : Configuration S)
    → inside n ≡ false → AreSo inside true path → Step effect pending c n d → Leads (effect_at effect pending) path d e
    → (m : Configuration S) × Leads (effect_at effect pending) path c m × Step effect pending m n e
pushed effect conflict pending inside law part n [] c d e out are first is = (c, refl, subst (λ x. Step effect pending c n x) is first)
pushed effect conflict pending inside law part n (q ∷ path) c d e out are first (d', is, rest) =
    let swap = swapped effect conflict pending inside law part n q c d d' out are.0 first (step_of effect pending d q d' is) in
    let on = pushed effect conflict pending inside law part n path swap.0 d' e out are.1 swap.2 rest in
    (on.0, (swap.0, of_step effect pending c q swap.0 swap.1, on.1), on.2)

-- first the effects inside, then those outside
abbrev pub IsSorted : {S C : Type 0} → (S → C → Option S) → List (Option C) → (ℕ → Bool) → Configuration S → Configuration S → Type 0
IsSorted {S} effect pending inside c e = (m : Configuration S) × (front : List ℕ) × (back : List ℕ) × AreSo inside true front × AreSo inside false back
    × Leads (effect_at effect pending) front c m × Leads (effect_at effect pending) back m e

sorted : {S C : Type 0} → (effect : S → C → Option S) (conflict : C → C → Bool) (pending : List (Option C)) (inside : ℕ → Bool) → OthersMaySwap effect conflict → IsPart conflict pending inside → (path : List ℕ) (c e : Configuration S)
    → Leads (effect_at effect pending) path c e → IsSorted effect pending inside c e
sorted effect conflict pending inside law part [] c e is = (c, [], [], tt, tt, refl, is)
sorted effect conflict pending inside law part (n ∷ path) c e (d, is, rest) =
    let on = sorted effect conflict pending inside law part path d e rest in
    elim (tells (inside n)) [
      | inl within ↦ (on.0, n ∷ on.1, on.2, (within, on.3), on.4, (d, is, on.5), on.6)
      | inr out ↦ (
          let push = pushed effect conflict pending inside law part n on.1 c d on.0 out on.3 (step_of effect pending c n d is) on.5 in
          (push.0, on.1, n ∷ on.2, on.3, (out, on.4), push.1, (on.0, of_step effect pending push.0 n on.0 push.2, on.6)))
    ]

-- effects outside leave the mark of a call inside
had_before : {S C : Type 0} → (effect : S → C → Option S) (pending : List (Option C)) (inside : ℕ → Bool) (p : ℕ) (path : List ℕ) (c d : Configuration S)
    → inside p ≡ true → AreSo inside false path → Leads (effect_at effect pending) path c d → had_effect d p ≡ true → had_effect c p ≡ true
had_before effect pending inside p [] c d is are same had = ap (λ x. had_effect x p) same ∙ had
had_before {S} effect pending inside p (n ∷ path) c d is are (m, leads, rest) had =
    let step = step_of effect pending c n m leads in
    let had' = had_before effect pending inside p path m d is are.1 rest had in
    sym (set_other c.done n p true false (differ inside n p are.0 is)) ∙ (sym (ap (λ (xs : List Bool). had_effect (record { state = m.state; done = xs }) p) step.marked) ∙ had')

-- what a path of eager effects inside, up to the end, leads to, with the rest of the plain path behind
abbrev pub IsRunInside : {S C : Type 0} → (S → C → Option S) → (S → C → Bool) → List (Option C) → (ℕ → Bool) → ℕ → Configuration S → Configuration S → Type 0
IsRunInside {S} effect reads pending inside p e next = (m : Configuration S)
    × ((path : List ℕ) × AreBelow (length pending) path × Leads (carry (part_at effect reads pending inside) had_effect p) path e m)
    × (had_effect m p ≡ true) × Serves effect (slice_set pending p None) (forgot_at m p) (forgot_at next p)

inside_had : {S C : Type 0} → (effect : S → C → Option S) (reads : S → C → Bool) (pending : List (Option C)) (inside : ℕ → Bool) (p : ℕ) (path : List ℕ) (e c next : Configuration S)
    → had_effect e p ≡ true → Covers effect pending e c → Leads (effect_at effect pending) path c next → IsRunInside effect reads pending inside p e next
inside_had effect reads pending inside p path e c next had covers leads =
    let on = covers_on effect pending path e c next covers leads in (
      e,
      ([], tt, refl),
      had,
      (
        forgot_at on.0 p,
        reached effect (slice_set pending p None) on.1 (forgot_at e p) (forgot_at on.0 p) (leads_ended effect pending p on.1 e on.0 had on.2),
        covers_ended effect pending p on.0 next on.3,
      ),
    )

-- first inside up to the end, then the rest
inside_run : {S C : Type 0} → (effect : S → C → Option S) (reads : S → C → Bool) → AreReads effect reads → (pending : List (Option C)) (inside : ℕ → Bool) (p : ℕ) (path more : List ℕ)
    (e c m next : Configuration S) → AreSo inside true path → had_effect m p ≡ true → Covers effect pending e c → Leads (effect_at effect pending) path c m
    → Leads (effect_at effect pending) more m next → IsRunInside effect reads pending inside p e next
inside_run effect reads law pending inside p [] more e c m next are had covers is rest =
    let had' : had_effect c p ≡ true = ap (λ x. had_effect x p) is ∙ had in
    let has : had_effect e p ≡ true = elim (covers.marks p) [ inl same ↦ same ∙ had' | inr extra ↦ extra.0 ] in
    inside_had effect reads pending inside p more e c next has covers (subst (λ x. Leads (effect_at effect pending) more x next) (sym is) rest)
inside_run {S} effect reads law pending inside p (n ∷ path) more e c m next are had covers (c', is, rest) back = elim (tells (had_effect e p)) [
  | inl has ↦ inside_had effect reads pending inside p ((n ∷ path) ++ more) e c next has covers
      (leads_on (effect_at effect pending) (n ∷ path) more c m next (c', is, rest) back)
  | inr hasnt ↦ (
      let step = step_of effect pending c n c' is in
      elim (tells (had_effect e n)) [
        | inl had_n ↦ inside_run effect reads law pending inside p path more e c' m next are.1 had (covers_had effect pending e c c' n had_n covers step) rest back
        | inr fresh ↦ (
            let one = covers_fresh effect pending e c c' n fresh covers step in
            let extra = all_read effect reads law pending (length pending) one.0 in
            let e' : Configuration S = with_reads reads pending (length pending) one.0 in
            let covers' = reads_cover effect pending extra.0 one.0 c' e' extra.1 one.2 extra.2 in
            let first : carry (part_at effect reads pending inside) had_effect p e n ≡ Some e' = rw (hasnt, are.0, one.1) refl in
            let on = inside_run effect reads law pending inside p path more e' c' m next are.1 had covers' rest back in
            (on.0, (n ∷ on.1.0, (called_within pending n step.call step.there, on.1.1), (e', first, on.1.2)), on.2, on.3))
      ])
]

-- an eager effect inside is an eager effect
eager_inside : {S C : Type 0} → (effect : S → C → Option S) (reads : S → C → Bool) (pending : List (Option C)) (inside : ℕ → Bool) (p : ℕ) (path : List ℕ) (c d : Configuration S)
    → Leads (carry (part_at effect reads pending inside) had_effect p) path c d → Leads (carry (eager_at effect reads pending) had_effect p) path c d
eager_inside effect reads pending inside p [] c d is = is
eager_inside effect reads pending inside p (n ∷ path) c d (m, is, rest) = elim (tells (had_effect c p)) [
  | inl has ↦ (let none : None ≡ Some m = rw has at is in cc (none))
  | inr hasnt ↦ elim (tells (inside n)) [
    | inl within ↦ (m, rw hasnt (rw (hasnt, within) at is), eager_inside effect reads pending inside p path m d rest)
    | inr out ↦ (let none : None ≡ Some m = rw (hasnt, out) at is in cc (none))
  ]
]

-- at the end of a call, effects inside a part that has this call are enough
pub inside_carried : {S C : Type 0} → (effect : S → C → Option S) (reads : S → C → Bool) (conflict : C → C → Bool) → AreReads effect reads → OthersMaySwap effect conflict
    → (pending : List (Option C)) (inside : ℕ → Bool) (p : ℕ) (c next : Configuration S) → IsPartOf conflict pending p inside
    → IsCarriedTo (effect_at effect pending) had_effect (length pending) p c next
    → (m : Configuration S) × IsCarriedTo (part_at effect reads pending inside) had_effect (length pending) p c m
    × Serves effect (slice_set pending p None) (forgot_at m p) (forgot_at next p)
inside_carried effect reads conflict law swap pending inside p c next part carried =
    let after = effect_at effect pending in
    let leads = carry_leads after had_effect p carried.0.0 c next (leads_of (carry after had_effect p) carried.0.0 c next carried.0.1.leads) in
    let sort = sorted effect conflict pending inside swap part.apart carried.0.0 c next leads in
    let had = had_before effect pending inside p sort.2 sort.0 next part.own sort.4 sort.6 carried.1 in
    let on = inside_run effect reads law pending inside p sort.1 sort.2 c c sort.0 next sort.3 had (covers_itself effect pending c) sort.5 sort.6 in (
      on.0,
      ((on.1.0, record { moves_are = on.1.1; leads = of_leads (carry (part_at effect reads pending inside) had_effect p) on.1.0 c on.0 on.1.2 }), on.2),
      on.3,
    )

-- and they lead nowhere else
pub inside_plainly : {S C : Type 0} → (effect : S → C → Option S) (reads : S → C → Bool) → AreReads effect reads
    → (pending : List (Option C)) (inside : ℕ → Bool) (p : ℕ) (c next : Configuration S)
    → IsCarriedTo (part_at effect reads pending inside) had_effect (length pending) p c next
    → (m : Configuration S) × IsCarriedTo (effect_at effect pending) had_effect (length pending) p c m
    × Serves effect (slice_set pending p None) (forgot_at m p) (forgot_at next p)
inside_plainly effect reads law pending inside p c next carried =
    let inner = carry (part_at effect reads pending inside) had_effect p in
    let outer = carry (eager_at effect reads pending) had_effect p in
    let leads = eager_inside effect reads pending inside p carried.0.0 c next (leads_of inner carried.0.0 c next carried.0.1.leads) in
    carried_plainly effect reads law pending p c next
    ((carried.0.0, record { moves_are = carried.0.1.moves_are; leads = of_leads outer carried.0.0 c next leads }), carried.1)

-- how many places aren't marked
pub unmarked_places : List Bool → ℕ
unmarked_places [] = 0
unmarked_places (true ∷ marks) = unmarked_places marks
unmarked_places (false ∷ marks) = suc (unmarked_places marks)

-- a place that is marked is one less of them
pub one_less : (marks : List Bool) (p : ℕ) → p < length marks → is_marked marks p ≡ false → unmarked_places (slice_set marks p true) < unmarked_places marks
unfolding unmarked_places
one_less [] p lt is = absurd (omega (arith, lt))
one_less (true ∷ marks) zero lt is = (let no : true ≡ false = is in cc (no))
one_less (false ∷ marks) zero lt is =
    let now : unmarked_places (slice_set (false ∷ marks) zero true) ≡ unmarked_places marks = refl in
    let was : unmarked_places (false ∷ marks) ≡ suc (unmarked_places marks) = refl in
    omega (arith, now, was)
one_less (true ∷ marks) (suc p) lt is = one_less marks p (omega (arith, lt)) is
one_less (false ∷ marks) (suc p) lt is =
    let less = one_less marks p (omega (arith, lt)) is in
    let now : unmarked_places (slice_set (false ∷ marks) (suc p) true) ≡ suc (unmarked_places (slice_set marks p true)) = refl in
    let was : unmarked_places (false ∷ marks) ≡ suc (unmarked_places marks) = refl in
    omega (arith, less, now, was)

-- what is all inside stays so while more is marked
pub all_stay : {C : Type 0} → (conflict : C → C → Bool) (pending : List (Option C)) (q : ℕ) (marks marks' : List Bool)
    → ((n : ℕ) → is_marked marks n ≡ true → is_marked marks' n ≡ true) → HasAllOf conflict pending q (is_marked marks) → HasAllOf conflict pending q (is_marked marks')
all_stay conflict pending q marks marks' stay all p a b out there here = elim (tells (is_marked marks p)) [
  | inl is ↦ (let ne : ⊥ = cc (stay p is, out) in absurd ne)
  | inr isnt ↦ all p a b isnt there here
]

-- the places that were looked at, and one more
pub looked_more : {C : Type 0} → (conflict : C → C → Bool) (pending : List (Option C)) (looked marks marks' : List Bool) (next : ℕ)
    → ((n : ℕ) → is_marked marks n ≡ true → is_marked marks' n ≡ true) → HasAllOf conflict pending next (is_marked marks')
    → ((q : ℕ) → is_marked looked q ≡ true → HasAllOf conflict pending q (is_marked marks))
    → (q : ℕ) → is_marked (slice_set looked next true) q ≡ true → HasAllOf conflict pending q (is_marked marks')
looked_more conflict pending looked marks marks' next stay all were q is = elim (eqb_tells next q) [
  | inl same ↦ subst (λ k. HasAllOf conflict pending k (is_marked marks')) same.1 all
  | inr other ↦ all_stay conflict pending q marks marks' stay (were q (sym (set_other looked next q true false other.1) ∙ is))
]

-- a place that is marked stays marked
pub marked_stays : (marks : List Bool) (p n : ℕ) → is_marked marks n ≡ true → is_marked (slice_set marks p true) n ≡ true
marked_stays [] p n is = is
marked_stays (x ∷ marks) zero zero is = refl
marked_stays (x ∷ marks) zero (suc n) is = is
marked_stays (x ∷ marks) (suc p) zero is = is
marked_stays (x ∷ marks) (suc p) (suc n) is = marked_stays marks p n is

-- where nothing is marked
pub none_marked : (n q : ℕ) → is_marked (replicate n false) q ≡ false
none_marked zero q = refl
none_marked (suc n) zero = refl
none_marked (suc n) (suc q) = none_marked n q
