-- Where an order explains calls and others that begin later, some configuration is left.
use Rattle.std.proofs.Common.{◌≡◌, ◌⊎◌, inl, inr, ℕ, ◌<◌, List, [], ◌∷◌, ◌++◌, Option, Some, length, map, slice_get, option_map, ap, subst, sym, ◌∙◌, arith, length-append}
use Rattle.std.specs.List.Sorted.{IsPermutation}
use Rattle.std.proofs.lemmas.Bool.Decides.{eqb_tells}
use Rattle.std.proofs.lemmas.List.Sorted.{IsPermutation-sym}
use Rattle.std.proofs.lemmas.Option.{slice_get-map, slice_get_within}
use Rattle.history_object.specs.Carried.{AreBelow, after_all}
use Rattle.history_object.specs.Orders.{CallBegins, CallEnds, EndsBefore, HasEnded, IsEachOnce, IsIn, NumberedEvent}
use Rattle.history_object.specs.Placed.{numbered_effect}
use Rattle.history_object.specs.Standings.{effect_of}
use Rattle.history_object.proofs.Lists.{get_either, get_front}
use Rattle.history_object.proofs.Pairs.{Every, Pairs, all_pairs_from, pairs_from}
use Rattle.history_object.proofs.Pairwise.{time_is_pairwise}
use Rattle.history_object.proofs.Placing.{judge_explains}
use Rattle.history_object.specs.TimedCalls.{ExplainsTimed, Timed}
use Rattle.history_object.specs.Following.{HasSome, IsJudgeOf, TimedStanding}
use Rattle.history_object.specs.TimedLaws.{AreLater}
use Rattle.history_object.proofs.Explained.{same_states, take_time}
use Rattle.history_object.proofs.Fronts.{front_leads, has_front, leads_hold, pairs_front, pairs_within, every_front, same_after}
use Rattle.history_object.proofs.Listed.{AreAt, at_has, get_within, in_listed, listed, listed_at, listed_once, pairs_back}
use Rattle.history_object.proofs.Moved.{is_moved}
use Rattle.history_object.proofs.NumberLists.{every_in, every_is_below, in_either, once_front}

-- a call ended or it didn't
ended_or_not : (events : List NumberedEvent) (i : ℕ) → HasEnded events i ⊎ (HasEnded events i → ⊥)
ended_or_not [] i = inr (λ never. never)
ended_or_not (CallBegins ∷ events) i = ended_or_not events i
ended_or_not (CallEnds k ∷ events) i = elim (eqb_tells k i) [
  | inl same ↦ inl (inl same.1)
  | inr other ↦ elim (ended_or_not events i) [ inl later ↦ inl (inr later) | inr not ↦ inr (λ either. elim either [ inl now ↦ other.1 now | inr later ↦ not later ]) ]
]

-- the calls at these places may stand in this order
abbrev pub AreApart : {C : Type 0} → List (Timed C) → ℕ → ℕ → Type 0
AreApart {C} calls m n = (a b : Timed C) → slice_get calls m ≡ Some a → slice_get calls n ≡ Some b → b.end < a.begin → ⊥

pub apart_at : {C : Type 0} → (calls : List (Timed C)) (m n : ℕ) (a b : Timed C) → slice_get calls m ≡ Some a → slice_get calls n ≡ Some b → (b.end < a.begin → ⊥)
    → AreApart calls m n
apart_at {C} calls m n a b at_m at_n apart x y at_x at_y later =
    let first : Some a ≡ Some x = sym at_m ∙ at_x in
    let second : Some b ≡ Some y = sym at_n ∙ at_y in
    let one : a ≡ x = cc (first) in
    let two : b ≡ y = cc (second) in
    apart (subst (λ (z : Timed C). z.end < a.begin) (sym two) (subst (λ (z : Timed C). y.end < z.begin) (sym one) later))

-- an order of calls as an order of their places
record HasNumbers {C : Type 0} (calls order : List (Timed C)) : Type 0 where
  pub numbers : List ℕ
  pub at : AreAt calls numbers order
  pub once : IsEachOnce numbers
  pub all : (i : ℕ) → i < length calls → IsIn i numbers

has_numbers : {C : Type 0} → (calls order : List (Timed C)) → IsPermutation order calls → HasNumbers calls order
has_numbers calls order same =
    let moved = is_moved calls order (IsPermutation-sym order calls same) in
    record {
      numbers = listed moved.to 0 order;
      at = listed_at moved.to calls order 0 (λ i j e. (let is : i ≡ j = omega (arith, e) in ap (λ k. slice_get order k) is ∙ moved.there j));
      once = listed_once moved.to order 0 (λ i j e. sym (moved.back i) ∙ (ap moved.from e ∙ moved.back j));
      all = λ i lt. (
          let call = get_within calls i lt in
          let there : slice_get order (moved.from i) ≡ Some call.0 = moved.there (moved.from i) ∙ (ap (λ k. slice_get calls k) (moved.forth i) ∙ call.1) in
          let within = slice_get_within order (moved.from i) call.0 there in
          subst (λ k. IsIn k (listed moved.to 0 order)) (moved.forth i) (in_listed moved.to order 0 (moved.from i) (omega arith) (omega (arith, within))));
    }

-- the effects of calls that stand in front of others
effect_in_front : {S C : Type 0} → (effect : S → C → Option S) (calls more : List (Timed C)) (state : S) (n : ℕ) → n < length calls
    → numbered_effect effect (map (λ timed. timed.call) (calls ++ more)) state n ≡ numbered_effect effect (map (λ timed. timed.call) calls) state n
effect_in_front {S} {C} effect calls more state n lt =
    let call = get_within calls n lt in
    let there = slice_get-map (λ (t : Timed C). t.call) calls n ∙ ap (λ o. option_map (λ (t : Timed C). t.call) o) call.1 in
    let there' = slice_get-map (λ (t : Timed C). t.call) (calls ++ more) n
    ∙ ap (λ o. option_map (λ (t : Timed C). t.call) o) (get_front calls more n call.0 call.1) in
    ap (λ o. effect_of effect state o) (there' ∙ sym there)

module _ {S C : Type 0} (effect : S → C → Option S) (start : S) (calls more : List (Timed C)) (judge : TimedStanding S C) (is : IsJudgeOf effect start calls judge)
    (later : AreLater calls judge more) where
  -- a call that stands in front of one that ended is no later one
  ahead : (n e : ℕ) → ((x : Timed C) × (slice_get (calls ++ more) n ≡ Some x)) → AreApart (calls ++ more) n e → HasEnded is.events e → n < length calls
  ahead n e has apart ended =
      let call = get_within calls e (is.have_begun e ended) in
      elim (get_either calls more n has.0 has.1) [
        | inl here ↦ slice_get_within calls n has.0 here
        | inr there ↦ absurd (apart has.0 call.0 has.1 (get_front calls more e call.0 call.1)
            (later e there.0 call.0 has.0 call.1 ((is.ended e call.0 call.1).0 ended) there.1))
      ]

  -- and of two of the calls, the later one isn't in front
  not_behind : (m n : ℕ) → AreApart (calls ++ more) m n → m < length calls → n < length calls → EndsBefore 0 is.events n m → ⊥
  not_behind m n apart lt lt' ends =
      let a = get_within calls m lt in
      let b = get_within calls n lt' in
      apart a.0 b.0 (get_front calls more m a.0 a.1) (get_front calls more n b.0 b.1) ((is.before n m b.0 a.0 b.1 a.1).0 ends).1

  pub some_is_left : (order : List (Timed C)) → ExplainsTimed effect start (calls ++ more) order → HasSome effect judge
  some_is_left order explains =
      let has = has_numbers (calls ++ more) order explains.same in
      let cut = has_front (λ i. HasEnded is.events i) (ended_or_not is.events) has.numbers in
      let pairs : Pairs (AreApart (calls ++ more)) has.numbers =
      pairs_back (AreApart (calls ++ more)) (λ front back. back.end < front.begin → ⊥) (calls ++ more) has.numbers order
      (apart_at (calls ++ more)) has.at (pairs_from (λ front back. back.end < front.begin → ⊥) order explains.in_time) in
      let front_pairs = pairs_front (AreApart (calls ++ more)) cut.front cut.back (subst (λ ns. Pairs (AreApart (calls ++ more)) ns) cut.is pairs) in
      let elements = every_front (λ n. (x : Timed C) × (slice_get (calls ++ more) n ≡ Some x)) cut.front cut.back
      (subst (λ ns. Every (λ n. (x : Timed C) × (slice_get (calls ++ more) n ≡ Some x)) ns) cut.is (at_has (calls ++ more) has.numbers order has.at)) in
      let below = leads_hold (λ i. HasEnded is.events i) (AreApart (calls ++ more)) (λ n. n < length calls) (λ n. (x : Timed C) × (slice_get (calls ++ more) n ≡ Some x))
      cut.front is.have_begun ahead cut.leads front_pairs elements in
      let once = once_front cut.front cut.back (subst (λ ns. IsEachOnce ns) cut.is has.once) in
      let all_ended : (i : ℕ) → HasEnded is.events i → IsIn i cut.front =
      λ i ended. (
      let lt = is.have_begun i ended in
      let among = has.all i (simp length-append (omega (arith, lt))) in
      elim (in_either i cut.front cut.back (subst (λ ns. IsIn i ns) cut.is among)) [
        | inl here ↦ here
        | inr behind ↦ absurd (every_in (λ n. HasEnded is.events n → ⊥) cut.back i cut.none behind ended)
      ]) in
      let times = all_pairs_from (λ front back. EndsBefore 0 is.events back front → ⊥) cut.front
      (pairs_within (AreApart (calls ++ more)) (λ front back. EndsBefore 0 is.events back front → ⊥) (λ n. n < length calls) cut.front not_behind front_pairs below) in
      let begun = subst (λ n. AreBelow n cut.front) (sym is.all_begun) (every_is_below (length calls) cut.front below) in
      let respects = (time_is_pairwise is.events cut.front (take_time effect start calls judge is) once).1 (begun, all_ended, times) in
      let states = same_states effect (calls ++ more) has.numbers order start has.at ∙ explains.answers in
      let middle = front_leads (numbered_effect effect (map (λ (t : Timed C). t.call) (calls ++ more))) cut.front cut.back start explains.last
      (subst (λ ns. after_all (numbered_effect effect (map (λ (t : Timed C). t.call) (calls ++ more))) ns start ≡ Some explains.last) cut.is states) in
      let answers = sym (same_after (numbered_effect effect (map (λ (t : Timed C). t.call) (calls ++ more))) (numbered_effect effect (map (λ (t : Timed C). t.call) calls))
      (λ n. n < length calls) cut.front start (λ s n lt. effect_in_front effect calls more s n lt) below) ∙ middle.1 in
      (judge_explains effect start (map (λ (t : Timed C). t.call) calls) is.events is.placed judge.standing is.are_placed is.have_passed).1
      (cut.front, (once, respects, (middle.0, answers)))
