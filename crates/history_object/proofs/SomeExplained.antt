-- Where some configuration is left, an order of the calls that have ended and of some pending ones.
use Rattle.std.proofs.Common.{◌≡◌, ℕ, ◌<◌, Bool, List, Some, map, slice_get, ap, subst, sym, ◌∙◌, arith, Option}
use Rattle.std.specs.List.{filter}
use Rattle.history_object.specs.Carried.{AreBelow}
use Rattle.history_object.specs.Following.{HasSome, IsJudgeOf, TimedStanding}
use Rattle.history_object.specs.OrderedJudges.{numbers_of}
use Rattle.history_object.specs.Orders.{EndsBefore, IsIn}
use Rattle.history_object.specs.TimedCalls.{ExplainsTimed, Timed}
use Rattle.history_object.specs.TimedLaws.{AreTaken, those_taken}
use Rattle.history_object.proofs.Explained.{same_states, take_time}
use Rattle.history_object.proofs.Listed.{elements_at, orders_at, pairs_to}
use Rattle.history_object.proofs.NumberLists.{same_numbers}
use Rattle.history_object.proofs.OrderExplains.{number_at_place, place_of_number}
use Rattle.history_object.proofs.Pairs.{all_pairs_from, pairs_from}
use Rattle.history_object.proofs.Pairwise.{time_is_pairwise}
use Rattle.history_object.proofs.Placing.{judge_explains}
use Rattle.history_object.proofs.TakenPlaces.{in_if_is, is_in, is_in_if, is_passing, passing_at, passing_in, passing_once, places_from}

module _ {S C : Type 0} (effect : S → C → Option S) (start : S) (calls : List (Timed C)) (judge : TimedStanding S C) (is : IsJudgeOf effect start calls judge) where
  pub some_explained : HasSome effect judge → (taken : ℕ → Bool) × AreTaken calls judge taken × (order : List (Timed C)) × ExplainsTimed effect start (those_taken taken calls) order
  some_explained some =
      let numbers = (judge_explains effect start (map (λ (t : Timed C). t.call) calls) is.events is.placed judge.standing is.are_placed is.have_passed).0 some in
      let once = numbers.1.0 in
      let pairwise = (time_is_pairwise is.events numbers.0 (take_time effect start calls judge is) once).0 numbers.1.1 in
      let below = subst (λ n. AreBelow n numbers.0) is.all_begun pairwise.0 in
      let order = elements_at calls numbers.0 below in
      let taken = λ (n : ℕ). is_in n (numbers_of order.0) in
      let test = λ (t : Timed C). taken t.number in (
        taken,
        λ i timed at closed. (
            let there = number_at_place calls numbers.0 order.0 i order.1 (pairwise.1 i ((is.ended i timed at).1 closed)) in
            let both : Some there.0 ≡ Some timed = sym there.1 ∙ at in
            let same : there.0 ≡ timed = cc both in
            is_in_if timed.number (numbers_of order.0) (subst (λ (x : Timed C). IsIn x.number (numbers_of order.0)) same there.2)),
        order.0,
        record {
          same = orders_at calls numbers.0 (places_from test 0 calls) order.0 (filter test calls)
              (same_numbers numbers.0 (places_from test 0 calls) once (passing_once test calls 0)
              (λ i at. let there = number_at_place calls numbers.0 order.0 i order.1 at in
              passing_in test calls 0 i i there.0 (omega arith) there.1 (is_in_if there.0.number (numbers_of order.0) there.2))
              (λ i at. let h = is_passing test calls 0 i at in
              let found = place_of_number calls numbers.0 order.0 h.element.number order.1 (in_if_is h.element.number (numbers_of order.0) h.passes) in
              let one : found.0 ≡ h.at = is.own found.0 h.at found.1 h.element found.3 h.there found.4 in
              let here : found.0 ≡ i = (let e = h.is in omega (arith, one, e)) in
              subst (λ k. IsIn k numbers.0) here found.2))
              order.1 (passing_at test calls calls 0 (λ i j e. (let same : i ≡ j = omega (arith, e) in ap (λ k. slice_get calls k) same)));
          in_time = all_pairs_from (λ front back. back.end < front.begin → ⊥) order.0
              (pairs_to (λ front back. EndsBefore 0 is.events back front → ⊥) (λ front back. back.end < front.begin → ⊥) calls numbers.0 order.0
              (λ m n a b at_m at_n apart later.
              apart ((is.before n m b a at_n at_m).1 ((λ opened. let overlaps = is.overlap n m b a at_n at_m opened in omega (arith, overlaps, later)), later))) order.1
              (pairs_from (λ front back. EndsBefore 0 is.events back front → ⊥) numbers.0 pairwise.2));
          last = numbers.1.2.0;
          answers = sym (same_states effect calls numbers.0 order.0 start order.1) ∙ numbers.1.2.1;
        },
      )
