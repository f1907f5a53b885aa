-- Where no call is pending, an order of the numbers of calls is one of the calls.
use Rattle.std.proofs.Common.{◌≡◌, ℕ, suc, ◌+◌, ◌<◌, ◌≤◌, inl, inr, List, [], ◌∷◌, Option, Some, None, length, map, slice_get, option_and_then, option_map, ap, subst, refl, sym, ◌∙◌, arith}
use Rattle.std.proofs.lemmas.Option.{slice_get-map}
use Rattle.history_object.specs.Carried.{AreBelow, after_all, going_on}
use Rattle.history_object.specs.Orders.{EndsBefore, IsIn, TakeTime}
use Rattle.history_object.specs.Placed.{numbered_effect}
use Rattle.history_object.specs.Standings.{effect_of}
use Rattle.history_object.proofs.Pairs.{all_pairs_from, pairs_from}
use Rattle.history_object.proofs.Pairwise.{time_is_pairwise}
use Rattle.history_object.proofs.Placing.{judge_explains}
use Rattle.history_object.specs.TimedCalls.{ExplainsTimed, Timed, state_behind}
use Rattle.history_object.specs.Following.{HasSome, IsJudgeOf, IsOpen, TimedStanding}
use Rattle.history_object.proofs.Events.{before_is_ended}
use Rattle.history_object.proofs.Listed.{AreAt, elements_at, get_within, in_listed, listed, listed_at, listed_once, orders_at, pairs_to}
use Rattle.history_object.proofs.NumberLists.{same_numbers}

-- effects in an order of numbers are effects in the order of their calls
pub same_states : {S C : Type 0} → (effect : S → C → Option S) (calls : List (Timed C)) (ns : List ℕ) (order : List (Timed C)) (state : S) → AreAt calls ns order
    → after_all (numbered_effect effect (map (λ timed. timed.call) calls)) ns state ≡ state_behind effect state order
same_states effect calls [] [] state at = refl
same_states effect calls [] (x ∷ order) state at = absurd at
same_states effect calls (n ∷ ns) [] state at = absurd at
same_states {S} {C} effect calls (n ∷ ns) (x ∷ order) state at =
    let there : slice_get (map (λ (t : Timed C). t.call) calls) n ≡ Some x.call =
    slice_get-map (λ (t : Timed C). t.call) calls n ∙ ap (λ o. option_map (λ (t : Timed C). t.call) o) at.0 in
    let first : numbered_effect effect (map (λ (t : Timed C). t.call) calls) state n ≡ effect state x.call = ap (λ o. effect_of effect state o) there in
    ap (λ o. going_on (after_all (numbered_effect effect (map (λ (t : Timed C). t.call) calls)) ns) o) first
    ∙ on (after_all (numbered_effect effect (map (λ (t : Timed C). t.call) calls)) ns) (λ s. state_behind effect s order) (effect state x.call)
    (λ s. same_states effect calls ns order s at.1)
  where
    on : (f g : S → Option S) (next : Option S) → ((s : S) → f s ≡ g s) → going_on f next ≡ option_and_then g next
    on f g None same = refl
    on f g (Some s) same = same s

in_below : (calls : ℕ) (ns : List ℕ) (i : ℕ) → AreBelow calls ns → IsIn i ns → i < calls
in_below calls [] i below at = absurd at
in_below calls (n ∷ ns) i below at = elim at [ inl same ↦ subst (λ k. k < calls) same below.0 | inr later ↦ in_below calls ns i below.1 later ]

pub listed_below : {X : Type 0} → (xs : List X) (k n i : ℕ) → k + length xs ≤ n → IsIn i (listed (λ m. m) k xs) → i < n
listed_below [] k n i le at = absurd at
listed_below (x ∷ xs) k n i le at = elim at [ inl same ↦ omega (arith, le, same) | inr later ↦ listed_below xs (suc k) n i (omega (arith, le)) later ]

module _ {S C : Type 0} (effect : S → C → Option S) (start : S) (calls : List (Timed C)) (judge : TimedStanding S C) (is : IsJudgeOf effect start calls judge) where
  -- no call ended before it began
  pub take_time : TakeTime is.events
  take_time i ends =
      let call = get_within calls i (is.have_begun i (before_is_ended 0 is.events i i ends)) in
      let later = ((is.before i i call.0 call.0 call.1 call.1).0 ends).1 in
      let time = is.take_time i call.0 call.1 in
      omega (arith, later, time)

  pub explained : HasSome effect judge → ((number : ℕ) → IsOpen judge number → ⊥) → (order : List (Timed C)) × ExplainsTimed effect start calls order
  explained some none =
      let numbers = (judge_explains effect start (map (λ (t : Timed C). t.call) calls) is.events is.placed judge.standing is.are_placed is.have_passed).0 some in
      let once = numbers.1.0 in
      let pairwise = (time_is_pairwise is.events numbers.0 take_time once).0 numbers.1.1 in
      let below = subst (λ n. AreBelow n numbers.0) is.all_begun pairwise.0 in
      let order = elements_at calls numbers.0 below in
      let all : (i : ℕ) → i < length calls → IsIn i numbers.0 =
      λ i lt. (let call = get_within calls i lt in pairwise.1 i ((is.ended i call.0 call.1).1 (none call.0.number))) in
      let listed_calls = listed_at (λ n. n) calls calls 0 (λ i j e. (let same : i ≡ j = omega (arith, e) in ap (λ k. slice_get calls k) same)) in (
        order.0,
        record {
          same = orders_at calls numbers.0 (listed (λ n. n) 0 calls) order.0 calls
              (same_numbers numbers.0 (listed (λ n. n) 0 calls) once (listed_once (λ n. n) calls 0 (λ i j e. e))
              (λ i at. in_listed (λ n. n) calls 0 i (omega arith) (let lt = in_below (length calls) numbers.0 i below at in omega (arith, lt)))
              (λ i at. all i (listed_below calls 0 (length calls) i (omega arith) at)))
              order.1 listed_calls;
          in_time = all_pairs_from (λ front back. back.end < front.begin → ⊥) order.0
              (pairs_to (λ front back. EndsBefore 0 is.events back front → ⊥) (λ front back. back.end < front.begin → ⊥) calls numbers.0 order.0
              (λ m n a b at_m at_n apart later. apart ((is.before n m b a at_n at_m).1 (none b.number, later))) order.1
              (pairs_from (λ front back. EndsBefore 0 is.events back front → ⊥) numbers.0 pairwise.2));
          last = numbers.1.2.0;
          answers = sym (same_states effect calls numbers.0 order.0 start order.1) ∙ numbers.1.2.1;
        },
      )
