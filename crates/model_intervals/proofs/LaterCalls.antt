-- Calls that begin after the ends of those that have ended don't change whether these can be completed.
use Rattle.std.proofs.Common.{◌≡◌, ◌⊎◌, ℕ, zero, suc, ◌<◌, ◌≤◌, inl, inr, Bool, true, false, List, [], ◌∷◌, ◌++◌, map, arith, refl, sym, subst, ◌∙◌, ap}
use Rattle.std.specs.List.Sorted.{IsPermutation}
use Rattle.std.proofs.lemmas.Bool.Decides.{eqb_tells}
use Rattle.std.proofs.lemmas.List.Sorted.{IsPermutation-cons, IsPermutation-refl, IsPermutation-sym, IsPermutation-trans}
use Rattle.model_history.specs.Recorded.{IsRecorded, Recorded, RecordedRuns, any_allocator, nothing_recorded}
use Rattle.model_intervals.specs.Completions.{EndsBefore, EndsBy, HasCompletion, IsFirstWrong, picked}
use Rattle.model_intervals.specs.CompletionLaws.{BeginLater, FirstWrongStays, LaterCallsAreFree}
use Rattle.model_intervals.specs.Intervals.{Call, IsLinearizable}
use Rattle.model_intervals.specs.OverlappingCalls.{IsAt}
use Rattle.model_intervals.proofs.Lists.{Every, Has, Pairs, has_every, has_out, tells}
use Rattle.model_intervals.proofs.OnePicked.{picks_at, picks_either, with, with_it, with_one, with_other, without, without_it, without_other}
use Rattle.model_intervals.proofs.Permuted.{has_permuted}
use Rattle.model_intervals.proofs.Picked.{picked_from, picked_to, rank}
use Rattle.model_intervals.proofs.Picks.{Picks, first_picked}
use Rattle.model_intervals.proofs.Places.{all_pairs_from, every_from_places, has_from_place, pairs_from}

-- ---- the places of two lists

at_front : (calls more : List Call) (i : ℕ) (a : Call) → IsAt calls i a → IsAt (calls ++ more) i a
at_front [] more zero a is = cc is
at_front [] more (suc i) a is = cc is
at_front (call ∷ calls) more zero a is = is
at_front (call ∷ calls) more (suc i) a is = at_front calls more i a is

-- a place is in front or behind
at_either : (calls more : List Call) (i : ℕ) (a : Call) → IsAt (calls ++ more) i a → IsAt calls i a ⊎ ((j : ℕ) × IsAt more j a)
at_either [] more i a is = inr (i, is)
at_either (call ∷ calls) more zero a is = inl is
at_either (call ∷ calls) more (suc i) a is = at_either calls more i a is

same_at : (calls : List Call) (i : ℕ) (a b : Call) → IsAt calls i a → IsAt calls i b → a ≡ b
same_at calls i a b here there = cc (here, there)

-- ---- what is picked

pub picked_none : (calls : List Call) → picked (λ i. false) calls ≡ []
picked_none [] = refl
picked_none (call ∷ calls) = picked_none calls

-- what is picked of two lists is picked of each of them
picked_append : (taken : ℕ → Bool) (calls more : List Call) → (later : ℕ → Bool) × (picked taken (calls ++ more) ≡ picked taken calls ++ picked later more)
picked_append taken [] more = (taken, refl)
picked_append taken (call ∷ calls) more =
    let rest = picked_append (λ j. taken (suc j)) calls more in
    (rest.0, elim (tells (taken 0)) [ inl on ↦ rw on (ap (λ l. call ∷ l) rest.1) | inr off ↦ rw off rest.1 ])

-- the places of the list alone
abbrev within : (ℕ → Bool) → List Call → ℕ → Bool
within taken [] i = false
within taken (call ∷ calls) zero = taken 0
within taken (call ∷ calls) (suc i) = within (λ j. taken (suc j)) calls i

picked_within : (taken : ℕ → Bool) (calls more : List Call) → picked (within taken calls) (calls ++ more) ≡ picked taken calls
picked_within taken [] more = picked_none more
picked_within taken (call ∷ calls) more =
    let rest = picked_within (λ j. taken (suc j)) calls more in elim (tells (taken 0)) [ inl on ↦ rw on (ap (λ l. call ∷ l) rest) | inr off ↦ rw off rest ]

within_there : (taken : ℕ → Bool) (calls : List Call) (i : ℕ) (a : Call) → IsAt calls i a → within taken calls i ≡ taken i
within_there taken [] zero a is = cc is
within_there taken [] (suc i) a is = cc is
within_there taken (call ∷ calls) zero a is = refl
within_there taken (call ∷ calls) (suc i) a is = within_there (λ j. taken (suc j)) calls i a is

-- ---- an order up to the first of the later calls

-- the back call didn't end before the front one began
abbrev InTime : Call → Call → Type 0
InTime front back = back.end < front.begin → ⊥

-- the front of an order, which has picked calls alone. Any other picked call is behind one of the later calls `more`
record HasFront (taken : ℕ → Bool) (calls more order : List Call) : Type 0 where
  pub front : List Call
  pub back : List Call
  pub is : order ≡ front ++ back
  pub kept : ℕ → Bool
  pub same : IsPermutation front (picked kept calls)
  pub among : (i : ℕ) → kept i ≡ true → taken i ≡ true
  pub others : (i : ℕ) (a : Call) → IsAt calls i a → taken i ≡ true → (kept i ≡ true) ⊎ ((m : Call) × Has (λ c. c ≡ m) more × InTime m a)

-- an element that is chosen is there
picks_has : (x : Call) (rest xs : List Call) → Picks x rest xs → Has (λ c. c ≡ x) xs
picks_has x rest [] picks = absurd picks
picks_has x rest (y ∷ ys) picks = elim picks [ inl here ↦ inl here.0 | inr later ↦ inr (picks_has x later.0 ys later.2) ]

has_front_part : (x : Call) (xs ys : List Call) → Has (λ c. c ≡ x) xs → Has (λ c. c ≡ x) (xs ++ ys)
has_front_part x [] ys has = absurd has
has_front_part x (y ∷ xs) ys has = elim has [ inl here ↦ inl here | inr later ↦ inr (has_front_part x xs ys later) ]

-- a picked call is among those that are picked
picked_has : (taken : ℕ → Bool) (calls : List Call) (i : ℕ) (a : Call) → IsAt calls i a → taken i ≡ true → Has (λ c. c ≡ a) (picked taken calls)
picked_has taken calls i a is on = has_from_place (λ c. c ≡ a) (picked taken calls) (rank taken i) a (picked_to taken calls i a is on) refl

every_has : (P : Call → Type 0) (xs : List Call) (x : Call) → Every P xs → Has (λ c. c ≡ x) xs → P x
every_has P xs x every has = has_out (λ c. P x) (P x) xs (λ c p. p) (has_every (λ c. c ≡ x) P (λ c. P x) xs (λ c same p. subst P same p) has every)

front_of : (taken : ℕ → Bool) (calls more order : List Call) → IsPermutation order (picked taken calls ++ more) → Pairs InTime order → HasFront taken calls more order
front_of taken calls more [] same time = record {
  front = [];
  back = [];
  is = refl;
  kept = λ i. false;
  same = subst (λ xs. IsPermutation [] xs) (sym (picked_none calls)) (IsPermutation-refl []);
  among = λ i on. absurd (cc on);
  others = λ i a at on. absurd (has_permuted (λ c. c ≡ a) (picked taken calls ++ more) [] (IsPermutation-sym [] (picked taken calls ++ more) same)
      (has_front_part a (picked taken calls) more (picked_has taken calls i a at on)));
}
front_of taken calls more (x ∷ order) same time =
    let first = first_picked x order (picked taken calls ++ more) same in
    elim (picks_either (picked taken calls) more x first.0 first.1) [
      | inr late ↦ record {
        front = [];
        back = x ∷ order;
        is = refl;
        kept = λ i. false;
        same = subst (λ xs. IsPermutation [] xs) (sym (picked_none calls)) (IsPermutation-refl []);
        among = λ i on. absurd (cc on);
        others = λ i a at on. inr (
          x,
          picks_has x late.0 more late.1,
          every_has (InTime x) order a time.0
              (has_permuted (λ c. c ≡ a) first.0 order (IsPermutation-sym order first.0 first.2)
              (subst (λ xs. Has (λ c. c ≡ a) xs) (sym late.2) (has_front_part a (picked taken calls) late.0 (picked_has taken calls i a at on)))),
        );
      }
      | inl own ↦ (
          let at = picks_at taken calls x own.0 own.1 in
          let left : first.0 ≡ picked (without at.place taken) calls ++ more = own.2 ∙ ap (λ xs. xs ++ more) at.leaves in
          let rest = front_of (without at.place taken) calls more order (subst (λ xs. IsPermutation order xs) left first.2) time.1 in
          one_more at.place at.there at.on rest.front rest.back rest.is rest.kept rest.same rest.among rest.others)
    ]
  where
    one_more : (place : ℕ) → IsAt calls place x → taken place ≡ true → (front back : List Call) → order ≡ front ++ back → (kept : ℕ → Bool) → IsPermutation front (picked kept calls)
        → ((i : ℕ) → kept i ≡ true → without place taken i ≡ true)
        → ((i : ℕ) (a : Call) → IsAt calls i a → without place taken i ≡ true → (kept i ≡ true) ⊎ ((m : Call) × Has (λ c. c ≡ m) more × InTime m a))
        → HasFront taken calls more (x ∷ order)
    one_more place there on front back is kept same among others = record {
      front = x ∷ front;
      back = back;
      is = ap (λ xs. x ∷ xs) is;
      kept = with place kept;
      same = IsPermutation-trans (x ∷ front) (x ∷ picked kept calls) (picked (with place kept) calls) (IsPermutation-cons x front (picked kept calls) same)
          (with_one kept calls place x there off);
      among = λ i on'. elim (eqb_tells i place) [
        | inl here ↦ subst (λ (n : ℕ). taken n ≡ true) (sym here.1) on
        | inr apart ↦ sym (without_other place i taken apart.1) ∙ among i (sym (with_other place i kept apart.1) ∙ on')
      ];
      others = λ i a at on'. elim (eqb_tells i place) [
        | inl here ↦ inl (subst (λ (n : ℕ). with place kept n ≡ true) (sym here.1) (with_it place kept))
        | inr apart ↦ elim (others i a at (without_other place i taken apart.1 ∙ on')) [
          | inl still ↦ inl (with_other place i kept apart.1 ∙ still)
          | inr behind ↦ inr behind
        ]
      ];
    }
      where
        off : kept place ≡ false
        off = elim (tells (kept place)) [
          | inr not ↦ not
          | inl again ↦ absurd (let clash : true ≡ false = sym (among place again) ∙ without_it place taken in cc clash)
        ]

-- ---- completions

-- the front of what was recorded
runs_front : (r n : Recorded) (front back : List Call) → RecordedRuns any_allocator r (map (λ (c : Call). c.entry) (front ++ back)) n
    → (k : Recorded) × RecordedRuns any_allocator r (map (λ (c : Call). c.entry) front) k
runs_front r n [] back runs = (r, refl)
runs_front r n (c ∷ front) back runs = let rest = runs_front runs.0 n front back runs.2 in (rest.0, (runs.0, runs.1, rest.1))

every_front : (P : Call → Type 0) (front back : List Call) → Every P (front ++ back) → Every P front
every_front P [] back every = tt
every_front P (c ∷ front) back every = (every.0, every_front P front back every.1)

pairs_front : (front back : List Call) → Pairs InTime (front ++ back) → Pairs InTime front
pairs_front [] back pairs = tt
pairs_front (c ∷ front) back pairs = (every_front (InTime c) front back pairs.0, pairs_front front back pairs.1)

module _ (calls more : List Call) (ended : ℕ → Type 0) (later : BeginLater calls more ended) where
  pub completed_before : HasCompletion (calls ++ more) ended → HasCompletion calls ended
  completed_before completion =
      let order = completion.explained.0 in
      let explains = completion.explained.1 in
      let split = picked_append completion.taken calls more in
      let pairs = pairs_from InTime order explains.in_time in
      let cut = front_of completion.taken calls (picked split.0 more) order (subst (λ xs. IsPermutation order xs) split.1 explains.same) pairs in
      let front_pairs = pairs_front cut.front cut.back (subst (λ xs. Pairs InTime xs) cut.is pairs) in
      let legal = runs_front (nothing_recorded any_allocator) explains.end cut.front cut.back
      (subst (λ xs. IsRecorded any_allocator (map (λ (c : Call). c.entry) xs) explains.end) cut.is explains.legal) in
      record {
        taken = cut.kept;
        all_ended = λ i over.
            let call = later i over in
            elim (cut.others i call.0 call.1 (completion.all_ended i over)) [
              | inl kept ↦ kept
              | inr behind ↦ absurd (behind.2 (every_has (λ m. call.0.end < m.begin) (picked split.0 more) behind.0
                  (every_from_places (λ m. call.0.end < m.begin) (picked split.0 more) (λ k m at. let p = picked_from split.0 more k m at in call.2 p.place m p.there)) behind.1))
            ];
        explained = (cut.front, record { same = cut.same; in_time = all_pairs_from InTime cut.front front_pairs; end = legal.0; legal = legal.1 });
      }

  pub completed_after : HasCompletion calls ended → HasCompletion (calls ++ more) ended
  completed_after completion = record {
    taken = within completion.taken calls;
    all_ended = λ i over. let call = later i over in within_there completion.taken calls i call.0 call.1 ∙ completion.all_ended i over;
    explained = subst (λ xs. IsLinearizable xs) (sym (picked_within completion.taken calls more)) completion.explained;
  }

pub later_calls_are_free : LaterCallsAreFree
later_calls_are_free calls more ended later = (completed_after calls more (λ i. ended i ≡ true) later, completed_before calls more (λ i. ended i ≡ true) later)

-- ---- the first wrong call

-- a completion is one for fewer calls that have ended
pub fewer_ended : (calls : List Call) (ended ended' : ℕ → Type 0) → ((i : ℕ) → ended' i → ended i) → HasCompletion calls ended → HasCompletion calls ended'
fewer_ended calls ended ended' among completion =
    record { taken = completion.taken; all_ended = λ i over. completion.all_ended i (among i over); explained = completion.explained }

module _ (calls more : List Call) (place : ℕ) (last : Call) (there : IsAt calls place last)
    (behind : (j : ℕ) (b : Call) → IsAt more j b → (last.end < b.begin) × (b.begin ≤ b.end)) where
  -- the calls up to this one are the same
  by_more : (i : ℕ) → EndsBy calls place i → EndsBy (calls ++ more) place i
  by_more i (a, b, at_a, at_b, order) = (a, b, at_front calls more i a at_a, at_front calls more place b at_b, order)

  before_more : (i : ℕ) → EndsBefore calls place i → EndsBefore (calls ++ more) place i
  before_more i (a, b, at_a, at_b, order) = (a, b, at_front calls more i a at_a, at_front calls more place b at_b, order)

  -- no later call is one of them
  none_later : (j : ℕ) (a b : Call) → IsAt more j a → IsAt (calls ++ more) place b → a.end ≤ b.end → ⊥
  none_later j a b at_a at_b le =
      let one = same_at (calls ++ more) place b last at_b (at_front calls more place last there) in
      let le' : a.end ≤ last.end = subst (λ (c : Call). a.end ≤ c.end) one le in
      let late = behind j a at_a in let first = late.0 in let takes = late.1 in omega (arith, le', first, takes)

  to_by : (i : ℕ) → EndsBy (calls ++ more) place i → EndsBy calls place i
  to_by i (a, b, at_a, at_b, order) = elim (at_either calls more i a at_a) [
    | inl front ↦ (
      a,
      last,
      front,
      there,
      subst (λ (c : Call). (a.end < c.end) ⊎ ((a.end ≡ c.end) × (i ≤ place))) (same_at (calls ++ more) place b last at_b (at_front calls more place last there)) order,
    )
    | inr back ↦ absurd (none_later back.0 a b back.1 at_b (elim order [ inl less ↦ omega (arith, less) | inr same ↦ let e = same.0 in omega (arith, e) ]))
  ]

  to_before : (i : ℕ) → EndsBefore (calls ++ more) place i → EndsBefore calls place i
  to_before i (a, b, at_a, at_b, order) = elim (at_either calls more i a at_a) [
    | inl front ↦ (
      a,
      last,
      front,
      there,
      subst (λ (c : Call). (a.end < c.end) ⊎ ((a.end ≡ c.end) × (i < place))) (same_at (calls ++ more) place b last at_b (at_front calls more place last there)) order,
    )
    | inr back ↦ absurd (none_later back.0 a b back.1 at_b (elim order [ inl less ↦ omega (arith, less) | inr same ↦ let e = same.0 in omega (arith, e) ]))
  ]

  later_by : BeginLater calls more (EndsBy calls place)
  later_by i (a, b, at_a, at_b, order) = (
    a,
    at_a,
    λ j d at_d.
        let one = same_at calls place b last at_b there in
        let order' = subst (λ (c : Call). (a.end < c.end) ⊎ ((a.end ≡ c.end) × (i ≤ place))) one order in
        let first = (behind j d at_d).0 in
        elim order' [ inl less ↦ omega (arith, less, first) | inr same ↦ let e = same.0 in omega (arith, e, first) ],
  )

  later_before : BeginLater calls more (EndsBefore calls place)
  later_before i (a, b, at_a, at_b, order) = (
    a,
    at_a,
    λ j d at_d.
        let one = same_at calls place b last at_b there in
        let order' = subst (λ (c : Call). (a.end < c.end) ⊎ ((a.end ≡ c.end) × (i < place))) one order in
        let first = (behind j d at_d).0 in
        elim order' [ inl less ↦ omega (arith, less, first) | inr same ↦ let e = same.0 in omega (arith, e, first) ],
  )

  stays : IsFirstWrong calls place → IsFirstWrong (calls ++ more) place
  stays wrong = record {
    before = fewer_ended (calls ++ more) (EndsBefore calls place) (EndsBefore (calls ++ more) place) to_before
        (completed_after calls more (EndsBefore calls place) later_before wrong.before);
    none = λ completion. wrong.none (completed_before calls more (EndsBy calls place) later_by
        (fewer_ended (calls ++ more) (EndsBy (calls ++ more) place) (EndsBy calls place) by_more completion));
  }

  was : IsFirstWrong (calls ++ more) place → IsFirstWrong calls place
  was wrong = record {
    before = completed_before calls more (EndsBefore calls place) later_before
        (fewer_ended (calls ++ more) (EndsBefore (calls ++ more) place) (EndsBefore calls place) before_more wrong.before);
    none = λ completion. wrong.none (fewer_ended (calls ++ more) (EndsBy calls place) (EndsBy (calls ++ more) place) to_by
        (completed_after calls more (EndsBy calls place) later_by completion));
  }

pub first_wrong_stays : FirstWrongStays
first_wrong_stays calls more place last there behind = (stays calls more place last there behind, was calls more place last there behind)
