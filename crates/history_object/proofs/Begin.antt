-- A judge follows a call that begins.
use Rattle.std.proofs.Common.{◌≡◌, ◌↔◌, ◌⊎◌, inl, inr, ℕ, suc, ◌<◌, ◌≤◌, List, [], ◌∷◌, ◌++◌, Option, Some, None, length, map, slice_get, slice_set, ap, subst, refl, sym, ◌∙◌, arith, length-append}
use Rattle.std.proofs.lemmas.Bool.Decides.{eqb_tells}
use Rattle.std.proofs.lemmas.List.{length-map, map-append}
use Rattle.std.proofs.lemmas.Option.{slice_get_within}
use Rattle.history_object.specs.Orders.{CallBegins, EndsBefore, HasEnded}
use Rattle.history_object.specs.Placed.{ArePlaced, none_taken}
use Rattle.history_object.specs.Standings.{Begins, HasPassed}
use Rattle.history_object.proofs.Lists.{get_added, get_front, get_grown}
use Rattle.history_object.specs.TimedCalls.{Timed}
use Rattle.history_object.specs.Following.{CanBegin, IsJudgeOf, IsNumberOf, IsOpen, TimedStanding, taken_behind}
use Rattle.history_object.proofs.Events.{before_begin, before_is_ended, before_stays, begun_begin, ended_before_begin, ended_is_before, ended_stays, passed_more, placed_begin, placed_more, taken_begin}
use Rattle.history_object.proofs.Places.{get_set_here, get_set_other}

-- a place keeps the number of its call where calls are added
pub number_stays : {C : Type 0} → (calls more : List (Timed C)) (x y : Option (Option ℕ)) → IsNumberOf calls x y → IsNumberOf (calls ++ more) x y
number_stays calls more None None is = tt
number_stays calls more None (Some y) is = absurd is
number_stays calls more (Some None) None is = absurd is
number_stays calls more (Some None) (Some None) is = tt
number_stays calls more (Some None) (Some (Some y)) is = absurd is
number_stays calls more (Some (Some i)) None is = absurd is
number_stays calls more (Some (Some i)) (Some None) is = absurd is
number_stays calls more (Some (Some i)) (Some (Some y)) is = (is.0, get_front calls more i is.0 is.1, is.2)

-- where a place has no number, no call has it
pub free_taken : {C : Type 0} → (calls : List (Timed C)) (x y : Option (Option ℕ)) → IsNumberOf calls x y → y ≡ Some None → x ≡ Some None
free_taken calls None None is free = cc
free_taken calls None (Some y) is free = absurd is
free_taken calls (Some None) y is free = refl
free_taken calls (Some (Some i)) None is free = absurd is
free_taken calls (Some (Some i)) (Some None) is free = absurd is
free_taken calls (Some (Some i)) (Some (Some y)) is free = cc

-- what is set at one place of both
pub number_set : {C : Type 0} → (calls : List (Timed C)) (taken numbers : List (Option ℕ)) (p q : ℕ) (v w : Option ℕ) → p < length taken → p < length numbers
    → IsNumberOf calls (Some v) (Some w) → IsNumberOf calls (slice_get taken q) (slice_get numbers q)
    → IsNumberOf calls (slice_get (slice_set taken p v) q) (slice_get (slice_set numbers p w) q)
number_set calls taken numbers p q v w lt lt' new was = elim (eqb_tells p q) [
  | inl is ↦ subst (λ k. IsNumberOf calls (slice_get (slice_set taken p v) k) (slice_get (slice_set numbers p w) k)) is.1
      (subst (λ x. IsNumberOf calls x (slice_get (slice_set numbers p w) p)) (sym (get_set_here taken p v lt))
      (subst (λ y. IsNumberOf calls (Some v) y) (sym (get_set_here numbers p w lt')) new))
  | inr is ↦ subst (λ x. IsNumberOf calls x (slice_get (slice_set numbers p w) q)) (sym (get_set_other taken p q v is.1))
      (subst (λ y. IsNumberOf calls (slice_get taken q) y) (sym (get_set_other numbers p q w is.1)) was)
]

-- what a judge before a begin and the one after it have to do with each other
pub record HasBegun {S C : Type 0} (effect : S → C → Option S) (timed : Timed C) (judge judge' : TimedStanding S C) : Type 0 where
  pub place : ℕ
  pub free : slice_get judge.numbers place ≡ Some None
  pub numbers : judge'.numbers ≡ slice_set judge.numbers place (Some timed.number)
  pub passed : HasPassed effect (Begins place timed.call) judge.standing judge'.standing
  pub open_now : (n : ℕ) → IsOpen judge' n ↔ ((n ≡ timed.number) ⊎ IsOpen judge n)

-- one of the calls, or the one that begins
is_old_or_new : {C : Type 0} → (calls : List (Timed C)) (timed x : Timed C) (i : ℕ) → slice_get (calls ++ timed ∷ []) i ≡ Some x
    → (slice_get calls i ≡ Some x) ⊎ ((i ≡ length calls) × (x ≡ timed))
is_old_or_new calls timed x i h = get_grown calls timed i x h

module _ {S C : Type 0} (effect : S → C → Option S) (start : S) (calls : List (Timed C)) (timed : Timed C) (judge judge' : TimedStanding S C)
    (is : IsJudgeOf effect start calls judge) (can : CanBegin calls judge timed) (has : HasBegun effect timed judge judge') where
  -- a call of before is pending just where it was
  still_open : (i : ℕ) (x : Timed C) → slice_get calls i ≡ Some x → IsOpen judge' x.number → IsOpen judge x.number
  still_open i x at open' = elim ((has.open_now x.number).0 open') [ inl same ↦ absurd (can.own i x at same) | inr was ↦ was ]

  new_open : (x : Timed C) → x ≡ timed → IsOpen judge' x.number
  new_open x same = (has.open_now x.number).1 (inl (ap (λ y. y.number) same))

  new_ended : HasEnded is.events (length calls) → ⊥
  new_ended ended = let lt = is.have_begun (length calls) ended in omega (arith, lt)

  longer : length (calls ++ timed ∷ []) ≡ suc (length calls)
  longer = simp length-append (omega arith)

  placed_now : ArePlaced (map (λ t. t.call) (calls ++ timed ∷ [])) 0 none_taken (is.events ++ CallBegins ∷ []) (is.placed ++ Begins has.place timed.call ∷ [])
  placed_now =
      let free : slice_get (taken_behind 0 none_taken is.placed) has.place ≡ Some None =
      free_taken calls (slice_get (taken_behind 0 none_taken is.placed) has.place) (slice_get judge.numbers has.place) (is.numbered has.place) has.free in
      let there : slice_get (map (λ (t : Timed C). t.call) calls ++ timed.call ∷ []) (length calls) ≡ Some timed.call =
      subst (λ n. slice_get (map (λ (t : Timed C). t.call) calls ++ timed.call ∷ []) n ≡ Some timed.call) (length-map calls (λ (t : Timed C). t.call))
      (get_added (map (λ (t : Timed C). t.call) calls) timed.call) in
      let more = placed_more (map (λ (t : Timed C). t.call) calls) (timed.call ∷ []) 0 none_taken is.events is.placed is.are_placed in
      subst (λ cs. ArePlaced cs 0 none_taken (is.events ++ CallBegins ∷ []) (is.placed ++ Begins has.place timed.call ∷ []))
      (sym (map-append (λ (t : Timed C). t.call) calls (timed ∷ [])))
      (placed_begin (map (λ (t : Timed C). t.call) calls ++ timed.call ∷ []) 0 none_taken is.events is.placed has.place timed.call more free
      (subst (λ n. slice_get (map (λ (t : Timed C). t.call) calls ++ timed.call ∷ []) n ≡ Some timed.call) (sym is.all_begun) there))

  numbered_now : (q : ℕ) → IsNumberOf (calls ++ timed ∷ []) (slice_get (taken_behind 0 none_taken (is.placed ++ Begins has.place timed.call ∷ [])) q) (slice_get judge'.numbers q)
  numbered_now q =
      let taken = taken_behind 0 none_taken is.placed in
      let free : slice_get taken has.place ≡ Some None = free_taken calls (slice_get taken has.place) (slice_get judge.numbers has.place) (is.numbered has.place) has.free in
      let taken_is : taken_behind 0 none_taken (is.placed ++ Begins has.place timed.call ∷ []) ≡ slice_set taken has.place (Some (length calls)) =
      taken_begin (map (λ (t : Timed C). t.call) calls) 0 none_taken is.events is.placed has.place timed.call is.are_placed
      ∙ ap (λ n. slice_set taken has.place (Some n)) is.all_begun in
      let here : IsNumberOf (calls ++ timed ∷ []) (Some (Some (length calls))) (Some (Some timed.number)) = (timed, get_added calls timed, refl) in
      let set = number_set (calls ++ timed ∷ []) taken judge.numbers has.place q (Some (length calls)) (Some timed.number) (slice_get_within taken has.place None free)
      (slice_get_within judge.numbers has.place None has.free) here
      (number_stays calls (timed ∷ []) (slice_get taken q) (slice_get judge.numbers q) (is.numbered q)) in
      subst (λ xs. IsNumberOf (calls ++ timed ∷ []) (slice_get xs q) (slice_get judge'.numbers q)) (sym taken_is)
      (subst (λ ys. IsNumberOf (calls ++ timed ∷ []) (slice_get (slice_set taken has.place (Some (length calls))) q) (slice_get ys q)) (sym has.numbers) set)

  own_now : (i j : ℕ) (a b : Timed C) → slice_get (calls ++ timed ∷ []) i ≡ Some a → slice_get (calls ++ timed ∷ []) j ≡ Some b → a.number ≡ b.number → i ≡ j
  own_now i j a b at_i at_j same = elim (is_old_or_new calls timed a i at_i) [
    | inl old ↦ elim (is_old_or_new calls timed b j at_j) [
      | inl old' ↦ is.own i j a b old old' same
      | inr new' ↦ absurd (can.own i a old (same ∙ ap (λ y. y.number) new'.1))
    ]
    | inr new ↦ elim (is_old_or_new calls timed b j at_j) [
      | inl old' ↦ absurd (can.own j b old' (sym same ∙ ap (λ y. y.number) new.1))
      | inr new' ↦ new.0 ∙ sym new'.0
    ]
  ]

  time_now : (i : ℕ) (x : Timed C) → slice_get (calls ++ timed ∷ []) i ≡ Some x → x.begin ≤ x.end
  time_now i x at = elim (is_old_or_new calls timed x i at) [
    | inl old ↦ is.take_time i x old
    | inr new ↦ subst (λ y. y.begin ≤ y.end) (sym new.1) can.takes_time
  ]

  overlap_now : (i j : ℕ) (a b : Timed C) → slice_get (calls ++ timed ∷ []) i ≡ Some a → slice_get (calls ++ timed ∷ []) j ≡ Some b → IsOpen judge' a.number → b.begin ≤ a.end
  overlap_now i j a b at_i at_j open' = elim (is_old_or_new calls timed a i at_i) [
    | inl old ↦ elim (is_old_or_new calls timed b j at_j) [
      | inl old' ↦ is.overlap i j a b old old' (still_open i a old open')
      | inr new' ↦ subst (λ y. y.begin ≤ a.end) (sym new'.1) (can.before_ends i a old (still_open i a old open'))
    ]
    | inr new ↦ subst (λ y. b.begin ≤ y.end) (sym new.1) (elim (is_old_or_new calls timed b j at_j) [
      | inl old' ↦ (let earlier = can.in_order j b old' in let time = can.takes_time in omega (arith, earlier, time))
      | inr new' ↦ subst (λ y. y.begin ≤ timed.end) (sym new'.1) can.takes_time
    ])
  ]

  ended_now : (i : ℕ) (x : Timed C) → slice_get (calls ++ timed ∷ []) i ≡ Some x → HasEnded (is.events ++ CallBegins ∷ []) i ↔ (IsOpen judge' x.number → ⊥)
  ended_now i x at = elim (is_old_or_new calls timed x i at) [
    | inl old ↦ (
      λ ended open'. (is.ended i x old).0 (ended_before_begin is.events i ended) (still_open i x old open'),
      λ closed. ended_stays is.events (CallBegins ∷ []) i ((is.ended i x old).1 (λ was. closed ((has.open_now x.number).1 (inr was)))),
    )
    | inr new ↦ (
      λ ended. absurd (new_ended (subst (λ k. HasEnded is.events k) new.0 (ended_before_begin is.events i ended))),
      λ closed. absurd (closed (new_open x new.1)),
    )
  ]

  before_now : (i j : ℕ) (a b : Timed C) → slice_get (calls ++ timed ∷ []) i ≡ Some a → slice_get (calls ++ timed ∷ []) j ≡ Some b
      → EndsBefore 0 (is.events ++ CallBegins ∷ []) i j ↔ ((IsOpen judge' a.number → ⊥) × (a.end < b.begin))
  before_now i j a b at_i at_j = elim (is_old_or_new calls timed a i at_i) [
    | inl old ↦ elim (is_old_or_new calls timed b j at_j) [
      | inl old' ↦ (
        λ ends. (let told = (is.before i j a b old old').0 (before_begin 0 is.events i j ends) in ((λ open'. told.0 (still_open i a old open')), told.1)),
        λ told. before_stays 0 is.events (CallBegins ∷ []) i j ((is.before i j a b old old').1 ((λ was. told.0 ((has.open_now a.number).1 (inr was))), told.1)),
      )
      | inr new' ↦ (
        λ ends. (
            let closed = (is.ended i a old).0 (before_is_ended 0 is.events i j (before_begin 0 is.events i j ends)) in
            ((λ open'. closed (still_open i a old open')), subst (λ y. a.end < y.begin) (sym new'.1) (can.after_ended i a old closed))),
        λ told. (
            let ended = (is.ended i a old).1 (λ was. told.0 ((has.open_now a.number).1 (inr was))) in
            let all = is.all_begun in
            before_stays 0 is.events (CallBegins ∷ []) i j (ended_is_before 0 is.events i j ended (omega (arith, all, new'.0)))),
      )
    ]
    | inr new ↦ (
      λ ends. absurd (new_ended (subst (λ k. HasEnded is.events k) new.0 (before_is_ended 0 is.events i j (before_begin 0 is.events i j ends)))),
      λ told. absurd (told.0 (new_open a new.1)),
    )
  ]

  pub follows_begin : IsJudgeOf effect start (calls ++ timed ∷ []) judge'
  follows_begin = record {
    events = is.events ++ CallBegins ∷ [];
    placed = is.placed ++ Begins has.place timed.call ∷ [];
    are_placed = placed_now;
    have_passed = passed_more effect is.placed (Begins has.place timed.call) _ judge.standing judge'.standing is.have_passed has.passed;
    all_begun = begun_begin 0 is.events ∙ (ap suc is.all_begun ∙ sym longer);
    have_begun = λ i ended. (let lt = is.have_begun i (ended_before_begin is.events i ended) in let long = longer in omega (arith, lt, long));
    numbered = numbered_now;
    own = own_now;
    take_time = time_now;
    overlap = overlap_now;
    ended = ended_now;
    before = before_now;
  }
