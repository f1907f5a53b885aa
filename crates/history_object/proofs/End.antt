-- A judge follows a call to its end.
use Rattle.std.proofs.Common.{◌≡◌, ◌≢◌, ◌↔◌, inl, inr, ℕ, ◌<◌, List, [], ◌∷◌, ◌++◌, Option, Some, None, slice_get, slice_set, ap, subst, refl, sym, ◌∙◌, arith}
use Rattle.std.proofs.lemmas.Bool.Decides.{eqb_tells}
use Rattle.std.proofs.lemmas.Option.{slice_get_within}
use Rattle.history_object.specs.Orders.{CallEnds, EndsBefore, HasEnded}
use Rattle.history_object.specs.Placed.{none_taken}
use Rattle.history_object.specs.Standings.{Ends, HasPassed}
use Rattle.history_object.specs.TimedCalls.{Timed}
use Rattle.history_object.specs.Following.{IsJudgeOf, IsNumberOf, IsOpen, TimedStanding, taken_behind}
use Rattle.history_object.proofs.Begin.{number_set}
use Rattle.history_object.proofs.Events.{before_end, before_stays, begun_end, ended_before_end, ended_last, ended_stays, passed_more, placed_end, taken_end}

-- the call that has a place where a number is
abbrev pub HasCall : {C : Type 0} → List (Timed C) → Option (Option ℕ) → ℕ → Type 0
HasCall {C} calls x number = (i : ℕ) × (timed : Timed C) × (x ≡ Some (Some i)) × (slice_get calls i ≡ Some timed) × (timed.number ≡ number)

pub call_of_number : {C : Type 0} → (calls : List (Timed C)) (x y : Option (Option ℕ)) (number : ℕ) → IsNumberOf calls x y → y ≡ Some (Some number) → HasCall calls x number
call_of_number calls None None number is here = cc
call_of_number calls None (Some y) number is here = absurd is
call_of_number calls (Some None) None number is here = absurd is
call_of_number calls (Some None) (Some None) number is here = cc
call_of_number calls (Some None) (Some (Some y)) number is here = absurd is
call_of_number calls (Some (Some i)) None number is here = absurd is
call_of_number calls (Some (Some i)) (Some None) number is here = absurd is
call_of_number calls (Some (Some i)) (Some (Some y)) number is here = let same : y ≡ number = cc (here) in (i, is.0, refl, is.1, is.2 ∙ same)

-- each call that is pending is one of the calls
pub open_is_call : {S C : Type 0} → (effect : S → C → Option S) (start : S) (calls : List (Timed C)) (judge : TimedStanding S C) → IsJudgeOf effect start calls judge
    → (number : ℕ) → IsOpen judge number → (i : ℕ) × (timed : Timed C) × (slice_get calls i ≡ Some timed) × (timed.number ≡ number)
open_is_call effect start calls judge is number at =
    let found = call_of_number calls (slice_get (taken_behind 0 none_taken is.placed) at.0) (slice_get judge.numbers at.0) number (is.numbered at.0) at.1 in
    (found.0, found.1, found.3, found.4)

-- what a judge before an end and the one after it have to do with each other
pub record HasFinished {S C : Type 0} (effect : S → C → Option S) (number : ℕ) (judge judge' : TimedStanding S C) : Type 0 where
  pub place : ℕ
  pub here : slice_get judge.numbers place ≡ Some (Some number)
  pub numbers : judge'.numbers ≡ slice_set judge.numbers place None
  pub passed : HasPassed effect (Ends place) judge.standing judge'.standing
  pub open_now : (n : ℕ) → IsOpen judge' n ↔ (IsOpen judge n × (n ≢ number))

module _ {S C : Type 0} (effect : S → C → Option S) (start : S) (calls : List (Timed C)) (number : ℕ) (judge judge' : TimedStanding S C)
    (is : IsJudgeOf effect start calls judge) (has : HasFinished effect number judge judge') where
  the_call : HasCall calls (slice_get (taken_behind 0 none_taken is.placed) has.place) number
  the_call =
      call_of_number calls (slice_get (taken_behind 0 none_taken is.placed) has.place) (slice_get judge.numbers has.place) number (is.numbered has.place) has.here

  numbered_now : (q : ℕ) → IsNumberOf calls (slice_get (taken_behind 0 none_taken (is.placed ++ Ends has.place ∷ [])) q) (slice_get judge'.numbers q)
  numbered_now q =
      let taken = taken_behind 0 none_taken is.placed in
      let found = the_call in
      let set = number_set calls taken judge.numbers has.place q None None (slice_get_within taken has.place (Some found.0) found.2)
      (slice_get_within judge.numbers has.place (Some number) has.here) tt (is.numbered q) in
      subst (λ xs. IsNumberOf calls (slice_get xs q) (slice_get judge'.numbers q)) (sym (taken_end 0 none_taken is.placed has.place))
      (subst (λ ys. IsNumberOf calls (slice_get (slice_set taken has.place None) q) (slice_get ys q)) (sym has.numbers) set)

  -- the number is that of one call
  is_the_call : (i : ℕ) (x : Timed C) → slice_get calls i ≡ Some x → x.number ≡ number → the_call.0 ≡ i
  is_the_call i x at same = is.own the_call.0 i the_call.1 x the_call.3 at (the_call.4 ∙ sym same)

  is_closed : (x : Timed C) → the_call.1 ≡ x → IsOpen judge' x.number → ⊥
  is_closed x same open' = ((has.open_now x.number).0 open').1 (ap (λ y. y.number) (sym same) ∙ the_call.4)

  the_same : (i : ℕ) (x : Timed C) → slice_get calls i ≡ Some x → the_call.0 ≡ i → the_call.1 ≡ x
  the_same i x at same = let both : Some the_call.1 ≡ Some x = sym the_call.3 ∙ (ap (λ k. slice_get calls k) same ∙ at) in cc (both)

  was_open : IsOpen judge the_call.1.number
  was_open = (has.place, has.here ∙ ap (λ n. Some (Some n)) (sym the_call.4))

  -- another call is pending just where it was
  closed_before : (i : ℕ) (x : Timed C) → slice_get calls i ≡ Some x → the_call.0 ≢ i → (IsOpen judge' x.number → ⊥) → IsOpen judge x.number → ⊥
  closed_before i x at other closed was = closed ((has.open_now x.number).1 (was, λ same. other (is_the_call i x at same)))

  ended_now : (i : ℕ) (x : Timed C) → slice_get calls i ≡ Some x → HasEnded (is.events ++ CallEnds the_call.0 ∷ []) i ↔ (IsOpen judge' x.number → ⊥)
  ended_now i x at = (
    λ ended. elim (ended_before_end is.events the_call.0 i ended) [
      | inl same ↦ is_closed x (the_same i x at same)
      | inr was ↦ (λ open'. (is.ended i x at).0 was ((has.open_now x.number).0 open').0)
    ],
    λ closed. elim (eqb_tells the_call.0 i) [
      | inl same ↦ ended_last is.events the_call.0 i same.1
      | inr other ↦ ended_stays is.events (CallEnds the_call.0 ∷ []) i ((is.ended i x at).1 (closed_before i x at other.1 closed))
    ],
  )

  before_now : (i j : ℕ) (a b : Timed C) → slice_get calls i ≡ Some a → slice_get calls j ≡ Some b
      → EndsBefore 0 (is.events ++ CallEnds the_call.0 ∷ []) i j ↔ ((IsOpen judge' a.number → ⊥) × (a.end < b.begin))
  before_now i j a b at_i at_j = (
    λ ends. elim (before_end 0 the_call.0 is.events i j ends) [
      | inl last ↦ (
          let within = slice_get_within calls j b at_j in
          let all = is.all_begun in
          absurd (omega (arith, within, all, last.1)))
      | inr was ↦ (let told = (is.before i j a b at_i at_j).0 was in ((λ open'. told.0 ((has.open_now a.number).0 open').0), told.1))
    ],
    λ told. elim (eqb_tells the_call.0 i) [
      | inl same ↦ (
          let overlap = is.overlap the_call.0 j the_call.1 b the_call.3 at_j was_open in
          let first : the_call.1 ≡ a = the_same i a at_i same.1 in
          let later : the_call.1.end < b.begin = subst (λ y. y.end < b.begin) (sym first) told.1 in
          absurd (omega (arith, overlap, later)))
      | inr other ↦ before_stays 0 is.events (CallEnds the_call.0 ∷ []) i j ((is.before i j a b at_i at_j).1 (closed_before i a at_i other.1 told.0, told.1))
    ],
  )

  pub follows_end : IsJudgeOf effect start calls judge'
  follows_end = record {
    events = is.events ++ CallEnds the_call.0 ∷ [];
    placed = is.placed ++ Ends has.place ∷ [];
    are_placed = placed_end _ 0 none_taken is.events is.placed has.place the_call.0 is.are_placed the_call.2;
    have_passed = passed_more effect is.placed (Ends has.place) _ judge.standing judge'.standing is.have_passed has.passed;
    all_begun = begun_end 0 the_call.0 is.events ∙ is.all_begun;
    have_begun = λ i ended. elim (ended_before_end is.events the_call.0 i ended) [
      | inl same ↦ (let lt = slice_get_within calls the_call.0 the_call.1 the_call.3 in omega (arith, lt, same))
      | inr was ↦ is.have_begun i was
    ];
    numbered = numbered_now;
    own = is.own;
    take_time = is.take_time;
    overlap = λ i j a b at_i at_j open'. is.overlap i j a b at_i at_j ((has.open_now a.number).0 open').0;
    ended = ended_now;
    before = before_now;
  }
