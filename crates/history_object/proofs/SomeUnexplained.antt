-- Where an order explains the calls that have ended and some pending ones, some configuration is left.
use Rattle.std.proofs.Common.{◌≡◌, ℕ, ◌<◌, Bool, List, Option, Some, length, map, slice_get, ap, subst, sym, ◌∙◌}
use Rattle.std.proofs.lemmas.List.Sorted.{IsPermutation-sym}
use Rattle.std.proofs.lemmas.Option.{slice_get_within}
use Rattle.history_object.specs.Carried.{AreBelow}
use Rattle.history_object.specs.Following.{HasSome, IsJudgeOf, TimedStanding}
use Rattle.history_object.specs.Orders.{EndsBefore, HasEnded, IsIn}
use Rattle.history_object.specs.TimedCalls.{ExplainsTimed, Timed}
use Rattle.history_object.specs.TimedLaws.{AreTaken, those_taken}
use Rattle.history_object.proofs.Explained.{same_states, take_time}
use Rattle.history_object.proofs.Listed.{at_has, get_within, pairs_back}
use Rattle.history_object.proofs.Moved.{is_moved}
use Rattle.history_object.proofs.NumberLists.{every_is_below}
use Rattle.history_object.proofs.OrderExplains.{place_of_number, places_of, places_once}
use Rattle.history_object.proofs.Pairs.{Pairs, all_pairs_from, every_weaker, pairs_from}
use Rattle.history_object.proofs.Fronts.{pairs_within}
use Rattle.history_object.proofs.Pairwise.{time_is_pairwise}
use Rattle.history_object.proofs.Placing.{judge_explains}
use Rattle.history_object.proofs.TakenPlaces.{among, kept_number, kept_passes, own_in_order}
use Rattle.history_object.proofs.Unexplained.{AreApart, apart_at}

module _ {S C : Type 0} (effect : S → C → Option S) (start : S) (calls : List (Timed C)) (judge : TimedStanding S C) (is : IsJudgeOf effect start calls judge)
    (taken : ℕ → Bool) (are : AreTaken calls judge taken) where
  -- of two calls the later one isn't in front
  not_behind : (m n : ℕ) → AreApart calls m n → m < length calls → n < length calls → EndsBefore 0 is.events n m → ⊥
  not_behind m n apart lt lt' ends =
      let a = get_within calls m lt in
      let b = get_within calls n lt' in
      apart a.0 b.0 a.1 b.1 ((is.before n m b.0 a.0 b.1 a.1).0 ends).1

  pub left_if_explained : (order : List (Timed C)) → ExplainsTimed effect start (those_taken taken calls) order → HasSome effect judge
  left_if_explained order explains =
      let test = λ (t : Timed C). taken t.number in
      let moved = is_moved (those_taken taken calls) order (IsPermutation-sym order (those_taken taken calls) explains.same) in
      let at = places_of calls order (λ x kept. (among test calls x (moved.to kept.0, sym (moved.there kept.0) ∙ kept.1)).0) in
      let once = places_once calls at.0 order at.1 (own_in_order test calls order is.own explains.same) in
      let below = every_weaker (λ n. (x : Timed C) × (slice_get calls n ≡ Some x)) (λ n. n < length calls) at.0 (λ n has. slice_get_within calls n has.0 has.1)
      (at_has calls at.0 order at.1) in
      let all_ended : (i : ℕ) → HasEnded is.events i → IsIn i at.0 =
      λ i ended. (
      let call = get_within calls i (is.have_begun i ended) in
      let kept = kept_passes test calls call.0 (i, call.1) (are i call.0 call.1 ((is.ended i call.0 call.1).0 ended)) in
      let there : slice_get order (moved.from kept.0) ≡ Some call.0 = moved.there (moved.from kept.0) ∙ (ap (λ k. slice_get (those_taken taken calls) k) (moved.forth kept.0) ∙ kept.1) in
      let found = place_of_number calls at.0 order call.0.number at.1 (kept_number order (moved.from kept.0) call.0 there) in
      subst (λ k. IsIn k at.0) (is.own found.0 i found.1 call.0 found.3 call.1 found.4) found.2) in
      let pairs : Pairs (AreApart calls) at.0 =
      pairs_back (AreApart calls) (λ front back. back.end < front.begin → ⊥) calls at.0 order (apart_at calls) at.1
      (pairs_from (λ front back. back.end < front.begin → ⊥) order explains.in_time) in
      let times = all_pairs_from (λ front back. EndsBefore 0 is.events back front → ⊥) at.0
      (pairs_within (AreApart calls) (λ front back. EndsBefore 0 is.events back front → ⊥) (λ n. n < length calls) at.0 not_behind pairs below) in
      let begun = subst (λ n. AreBelow n at.0) (sym is.all_begun) (every_is_below (length calls) at.0 below) in
      let respects = (time_is_pairwise is.events at.0 (take_time effect start calls judge is) once).1 (begun, all_ended, times) in
      let states = same_states effect calls at.0 order start at.1 ∙ explains.answers in
      (judge_explains effect start (map (λ (t : Timed C). t.call) calls) is.events is.placed judge.standing is.are_placed is.have_passed).1
      (at.0, (once, respects, (explains.last, states)))
