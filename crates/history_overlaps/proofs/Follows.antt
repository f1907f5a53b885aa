-- The judge of one object, while calls begin and end.
use Rattle.std.proofs.Common.{◌≡◌, ◌≢◌, ◌↔◌, ℕ, zero, suc, ◌+◌, ◌<◌, ◌≤◌, ◌⊎◌, inl, inr, true, false, List, [], ◌∷◌, ◌++◌, length, map, arith, refl, sym, subst, ◌∙◌, ap, Option, Some, None, option_map, slice_get}
use Rattle.std.proofs.lemmas.Bool.Decides.{eqb_tells}
use Rattle.std.proofs.lemmas.List.{append-nil, map-append}
use Rattle.std.proofs.lemmas.Option.{slice_get-map}
use Rattle.model_intervals.specs.Intervals.{Call}
use Rattle.model_intervals.specs.Objects.{ExplainsAccesses}
use Rattle.model_intervals.specs.OverlappingCalls.{IsAt}
use Rattle.history_object.specs.declared.access.Access.{Access}
use Rattle.history_object.specs.ObjectBytes.{effect, first_state}
use Rattle.history_object.specs.Following.{CanBegin, HasSome, IsCallOf, IsJudgeOf, IsOpen}
use Rattle.history_object.specs.TimedCalls.{ExplainsTimed, Timed}
use Rattle.history_object.proofs.End.{open_is_call}
use Rattle.history_object.proofs.Explained.{explained}
use Rattle.history_object.proofs.Unexplained.{some_is_left}
use Rattle.history_overlaps.specs.Accesses.{PlacedCall, access_of, is_access_of, placed_from, timed_accesses, timed_of}
use Rattle.history_overlaps.specs.Judges.{AccessJudge, IsFollowed}
use Rattle.history_overlaps.specs.Lives.{BeginFrom}
use Rattle.history_overlaps.specs.Queues.{HasEnded, IsWaiting, MayBegin, key_of}
use Rattle.history_overlaps.specs.declared.objects.NewObject.{NewObject}
use Rattle.history_overlaps.specs.declared.pending.Pending.{Pending}
use Rattle.history_overlaps.proofs.AccessOrders.{accesses_explained, placed_append, placed_at, tells, timed_explained}
use Rattle.history_overlaps.proofs.CallPlaces.{at_below, at_end, at_front, at_one, at_same}

-- ---- the calls of the judge by their places

-- what is at a place of a list that is mapped
mapped_at : {X Y : Type 0} (f : X → Y) (xs : List X) (k : ℕ) (y : Y) → slice_get (map f xs) k ≡ Some y → (x : X) × (slice_get xs k ≡ Some x) × (f x ≡ y)
mapped_at {X} {Y} f xs k y is = found (slice_get xs k) refl (sym (slice_get-map f xs k) ∙ is)
  where
    found : (o : Option X) → slice_get xs k ≡ o → option_map f (slice_get xs k) ≡ Some y → (x : X) × (slice_get xs k ≡ Some x) × (f x ≡ y)
    found None none at = absurd (let at' = subst (λ (o : Option X). option_map f o ≡ Some y) none at in cc at')
    found (Some x) some at = (x, some, let at' = subst (λ (o : Option X). option_map f o ≡ Some y) some at in cc at')

-- a call of the judge is an access at its place
pub timed_at : (cell address : ℕ) (calls : List Call) (k : ℕ) (timed : Timed Access) → slice_get (timed_accesses cell address calls) k ≡ Some timed
    → (i : ℕ) × (a : Call) × IsAt calls i a × (is_access_of cell a ≡ true) × (timed ≡ timed_of address (record { place = i; call = a }))
timed_at cell address calls k timed is =
    let found = mapped_at (timed_of address) (placed_from 0 cell calls) k timed is in
    let placed = placed_at 0 cell calls k found.0 found.1 in
    let here : found.0.place ≡ placed.at = (let e = placed.place_is in omega (arith, e)) in
    (placed.at, found.0.call, placed.there, placed.accesses, sym found.2 ∙ ap (λ (n : ℕ). timed_of address (record { place = n; call = found.0.call })) here)

-- an access is a call of the judge
pub access_timed : (place cell : ℕ) (calls : List Call) (i : ℕ) (a : Call) → IsAt calls i a → is_access_of cell a ≡ true
    → (k : ℕ) × (slice_get (placed_from place cell calls) k ≡ Some (record { place = place + i; call = a }))
access_timed place cell [] zero a is access = cc
access_timed place cell [] (suc i) a is access = cc
access_timed place cell (call ∷ calls) zero a is access =
    let same : call ≡ a = cc is in
    let access' = subst (λ (b : Call). is_access_of cell b ≡ true) (sym same) access in
    let first : placed_from place cell (call ∷ calls) ≡ record { place = place; call = call } ∷ placed_from (suc place) cell calls = rw access' refl in (
      0,
      subst (λ (l : List PlacedCall). slice_get l 0 ≡ Some (record { place = place + 0; call = a })) (sym first)
          (ap (λ (b : Call). Some (record { place = place; call = b })) same ∙ ap (λ (n : ℕ). Some (record { place = n; call = a })) (omega arith)),
    )
access_timed place cell (call ∷ calls) (suc i) a is access =
    let later = access_timed (suc place) cell calls i a is access in
    let at = later.1 ∙ ap (λ (n : ℕ). Some (record { place = n; call = a })) (omega arith) in
    elim (tells (is_access_of cell call)) [
      | inl here ↦
          let first : placed_from place cell (call ∷ calls) ≡ record { place = place; call = call } ∷ placed_from (suc place) cell calls = rw here refl in
          (suc later.0, subst (λ (l : List PlacedCall). slice_get l (suc later.0) ≡ Some (record { place = place + suc i; call = a })) (sym first) at)
      | inr other ↦
          let first : placed_from place cell (call ∷ calls) ≡ placed_from (suc place) cell calls = rw other refl in
          (later.0, subst (λ (l : List PlacedCall). slice_get l later.0 ≡ Some (record { place = place + suc i; call = a })) (sym first) at)
    ]

-- the accesses with one more call
pub placed_one : (cell : ℕ) (calls : List Call) (call : Call) → is_access_of cell call ≡ true
    → placed_from 0 cell (calls ++ call ∷ []) ≡ placed_from 0 cell calls ++ record { place = length calls; call = call } ∷ []
placed_one cell calls call access = placed_append 0 cell calls (call ∷ []) ∙ ap (λ l. placed_from 0 cell calls ++ l) (
    let first : placed_from (0 + length calls) cell (call ∷ []) ≡ record { place = 0 + length calls; call = call } ∷ [] = rw access refl in
    first ∙ ap (λ (n : ℕ). record { place = n; call = call } ∷ []) (omega arith))

pub placed_other : (cell : ℕ) (calls : List Call) (call : Call) → is_access_of cell call ≡ false → placed_from 0 cell (calls ++ call ∷ []) ≡ placed_from 0 cell calls
placed_other cell calls call other = placed_append 0 cell calls (call ∷ [])
    ∙ ap (λ l. placed_from 0 cell calls ++ l) (let none : placed_from (0 + length calls) cell (call ∷ []) ≡ [] = rw other refl in none)
    ∙ append-nil (placed_from 0 cell calls)

-- ---- calls begin

-- a new judge follows where there was no access
pub follow_first : (calls : List Call) (waits : ℕ → Option Pending) (object : NewObject) (judge : AccessJudge) → placed_from 0 object.cell calls ≡ []
    → IsJudgeOf effect (first_state object.len) [] judge → HasSome effect judge → ((number : ℕ) → IsOpen judge number → ⊥) → IsFollowed calls waits object judge
follow_first calls waits object judge none follows some none_open = record {
  follows = subst (λ xs. IsJudgeOf effect (first_state object.len) (map (timed_of object.address) xs) judge) (sym none) follows;
  some = some;
  is_open = λ i a is access. absurd (
      let found = access_timed 0 object.cell calls i a is access in
      let at = subst (λ (l : List PlacedCall). slice_get l found.0 ≡ Some (record { place = 0 + i; call = a })) none found.1 in nothing found.0 at);
  is_call = λ i other is. absurd (none_open i (is.0, is.1));
}
  where
    nothing : {p : PlacedCall} (k : ℕ) → slice_get [] k ≡ Some p → ⊥
    nothing zero at = cc at
    nothing (suc k) at = cc at

module _ (calls : List Call) (call : Call) (waits waits' : ℕ → Option Pending) (object : NewObject) (may : MayBegin calls waits call)
    (stays : (i : ℕ) (a : Call) → IsAt calls i a → IsWaiting waits a i ↔ IsWaiting waits' a i) where
  -- another call begins
  pub follow_other : (judge : AccessJudge) → IsFollowed calls waits object judge → is_access_of object.cell call ≡ false
      → IsFollowed (calls ++ call ∷ []) waits' object judge
  follow_other judge h other = record {
    follows = subst (λ xs. IsJudgeOf effect (first_state object.len) (map (timed_of object.address) xs) judge) (sym (placed_other object.cell calls call other)) h.follows;
    some = h.some;
    is_open = λ i a is access. elim (at_one calls call i a is) [
      | inl old ↦ let o = h.is_open i a old access in let s = stays i a old in (λ opened. s.0 (o.0 opened), λ w. o.1 (s.1 w))
      | inr new ↦ absurd (let no = subst (λ (b : Call). is_access_of object.cell b ≡ false) new.1 other in cc (no, access))
    ];
    is_call = λ i access is. let own = h.is_call i access is in (own.0, at_front calls (call ∷ []) i own.0 own.1, own.2);
  }

  -- an access may begin at the judge
  pub access_may_begin : (judge : AccessJudge) → IsFollowed calls waits object judge → is_access_of object.cell call ≡ true
      → CanBegin (timed_accesses object.cell object.address calls) judge (timed_of object.address (record { place = length calls; call = call }))
  access_may_begin judge h access = record {
    own = λ k other is same. let t = timed_at object.cell object.address calls k other is in
        let e = ap (λ (x : Timed Access). x.number) t.4 in let below = at_below calls t.0 t.1 t.2 in omega (arith, e, same, below);
    takes_time = may.takes_time;
    in_order = λ k other is. let t = timed_at object.cell object.address calls k other is in
        subst (λ (x : Timed Access). x.begin ≤ call.begin) (sym t.4) (may.last t.0 t.1 t.2);
    after_ended = λ k other is closed. let t = timed_at object.cell object.address calls k other is in
        subst (λ (x : Timed Access). x.end < call.begin) (sym t.4) (may.behind t.0 t.1 (over t.0 t.1 t.2 t.3
        (subst (λ (x : Timed Access). IsOpen judge x.number → ⊥) t.4 closed)) t.2);
    before_ends = λ k other is opened. let t = timed_at object.cell object.address calls k other is in
        subst (λ (x : Timed Access). call.begin ≤ x.end) (sym t.4) (may.within t.0 t.1 t.2 ((h.is_open t.0 t.1 t.2 t.3).0
        (subst (λ (x : Timed Access). IsOpen judge x.number) t.4 opened)));
  }
    where
      over : (i : ℕ) (a : Call) → IsAt calls i a → is_access_of object.cell a ≡ true → (IsOpen judge i → ⊥) → HasEnded calls waits i
      over i a is access closed = by_case (waits (key_of a i)) refl
        where
          by_case : (w : Option Pending) → waits (key_of a i) ≡ w → HasEnded calls waits i
          by_case None none = (a, is, none)
          by_case (Some p) some = absurd (closed ((h.is_open i a is access).1 (p, some)))

  -- it has begun
  pub follow_access : (judge judge' : AccessJudge) (pending : Pending) → IsFollowed calls waits object judge → is_access_of object.cell call ≡ true
      → IsJudgeOf effect (first_state object.len)
      (timed_accesses object.cell object.address calls ++ timed_of object.address (record { place = length calls; call = call }) ∷ []) judge'
      → HasSome effect judge' → ((n : ℕ) → IsOpen judge' n ↔ ((n ≡ length calls) ⊎ IsOpen judge n))
      → ((n : ℕ) (other : Access) → IsCallOf judge' n other → ((n ≡ length calls) × (other ≡ access_of object.address call.entry.command call.entry.reply)) ⊎ IsCallOf judge n other)
      → waits' (key_of call (length calls)) ≡ Some pending
      → IsFollowed (calls ++ call ∷ []) waits' object judge'
  follow_access judge judge' pending h access follows some opens calls_are now = record {
    follows = subst (λ xs. IsJudgeOf effect (first_state object.len) xs judge')
        (sym (ap (λ xs. map (timed_of object.address) xs) (placed_one object.cell calls call access)
        ∙ map-append (timed_of object.address) (placed_from 0 object.cell calls) (record { place = length calls; call = call } ∷ []))) follows;
    some = some;
    is_open = λ i a is access'. elim (at_one calls call i a is) [
      | inl old ↦ let o = h.is_open i a old access' in let s = stays i a old in (
        λ opened. elim ((opens i).0 opened) [
          | inl new ↦ absurd (let below = at_below calls i a old in omega (arith, new, below))
          | inr before ↦ s.0 (o.0 before)
        ],
        λ w. (opens i).1 (inr (o.1 (s.1 w))),
      )
      | inr new ↦ (
        λ opened. (pending, subst (λ (b : Call). waits' (key_of b i) ≡ Some pending) new.1 (subst (λ (n : ℕ). waits' (key_of call n) ≡ Some pending) (sym new.0) now)),
        λ w. (opens i).1 (inl new.0),
      )
    ];
    is_call = λ i other is. elim (calls_are i other is) [
      | inl new ↦ (call, subst (λ (n : ℕ). IsAt (calls ++ call ∷ []) n call) (sym new.0) (at_end calls call), new.1)
      | inr old ↦ let own = h.is_call i other old in (own.0, at_front calls (call ∷ []) i own.0 own.1, own.2)
    ];
  }

-- ---- calls end

module _ (calls : List Call) (waits waits' : ℕ → Option Pending) (p : ℕ) (ending : Call) (object : NewObject) (there : IsAt calls p ending)
    (waited : IsWaiting waits ending p) (ended : IsWaiting waits' ending p → ⊥)
    (others : (i : ℕ) (a : Call) → IsAt calls i a → i ≢ p → IsWaiting waits a i ↔ IsWaiting waits' a i) where
  -- another call ends
  pub follow_other_end : (judge : AccessJudge) → IsFollowed calls waits object judge → is_access_of object.cell ending ≡ false → IsFollowed calls waits' object judge
  follow_other_end judge h other = record {
    follows = h.follows;
    some = h.some;
    is_open = λ i a is access. elim (eqb_tells i p) [
      | inl same ↦ absurd (
          let this = at_same calls p ending a there (subst (λ (q : ℕ). IsAt calls q a) same.1 is) in
          let no = subst (λ (b : Call). is_access_of object.cell b ≡ false) this other in cc (no, access))
      | inr apart ↦ let o = h.is_open i a is access in let s = others i a is apart.1 in (λ opened. s.0 (o.0 opened), λ w. o.1 (s.1 w))
    ];
    is_call = h.is_call;
  }

  -- the end of an access
  pub follow_end : (judge judge' : AccessJudge) → IsFollowed calls waits object judge
      → IsJudgeOf effect (first_state object.len) (timed_accesses object.cell object.address calls) judge' → HasSome effect judge'
      → ((n : ℕ) → IsOpen judge' n ↔ (IsOpen judge n × (n ≢ p))) → ((n : ℕ) (access : Access) → IsCallOf judge' n access → IsCallOf judge n access)
      → IsFollowed calls waits' object judge'
  follow_end judge judge' h follows some opens calls_are = record {
    follows = follows;
    some = some;
    is_open = λ i a is access. elim (eqb_tells i p) [
      | inl same ↦ (
        λ opened. absurd (((opens i).0 opened).1 same.1),
        λ w. absurd (
            let this = at_same calls p ending a there (subst (λ (q : ℕ). IsAt calls q a) same.1 is) in
            ended (subst (λ (b : Call). IsWaiting waits' b p) (sym this) (subst (λ (q : ℕ). IsWaiting waits' a q) same.1 w))),
      )
      | inr apart ↦ let o = h.is_open i a is access in let s = others i a is apart.1 in (
        λ opened. s.0 (o.0 ((opens i).0 opened).0),
        λ w. (opens i).1 (o.1 (s.1 w), apart.1),
      )
    ];
    is_call = λ i access is. h.is_call i access (calls_are i access is);
  }

-- ---- what the judge tells

-- where no access waits, some order explains the accesses
pub idle_explained : (calls : List Call) (waits : ℕ → Option Pending) (object : NewObject) (judge : AccessJudge)
    → IsFollowed calls waits object judge
    → ((i : ℕ) (a : Call) → IsAt calls i a → is_access_of object.cell a ≡ true → IsWaiting waits a i → ⊥)
    → (own : List Call) × ExplainsAccesses calls object.cell object.len object.address own
idle_explained calls waits object judge h idle =
    let timed = timed_accesses object.cell object.address calls in
    let none : (n : ℕ) → IsOpen judge n → ⊥ = (λ n opened.
    let found = open_is_call effect (first_state object.len) timed judge h.follows n opened in
    let t = timed_at object.cell object.address calls found.0 found.1 found.2 in
    let number : n ≡ t.0 = sym found.3 ∙ ap (λ (x : Timed Access). x.number) t.4 in
    idle t.0 t.1 t.2 t.3 ((h.is_open t.0 t.1 t.2 t.3).0 (subst (λ (m : ℕ). IsOpen judge m) number opened))) in
    let order = explained effect (first_state object.len) timed judge h.follows h.some none in
    accesses_explained object.address object.cell object.len calls order.0 order.1

-- where no configuration is left, no order explains them, whatever calls begin later
pub none_explained : (calls more : List Call) (waits : ℕ → Option Pending) (object : NewObject) (judge : AccessJudge)
    → IsJudgeOf effect (first_state object.len) (timed_accesses object.cell object.address calls) judge
    → (HasSome effect judge → ⊥)
    → ((i : ℕ) (a : Call) → IsAt calls i a → is_access_of object.cell a ≡ true → (IsOpen judge i → ⊥) → HasEnded calls waits i)
    → (moment : ℕ) → ((i : ℕ) (a : Call) → HasEnded calls waits i → IsAt calls i a → a.end < moment) → BeginFrom moment more
    → (own : List Call) → ExplainsAccesses (calls ++ more) object.cell object.len object.address own → ⊥
none_explained calls more waits object judge follows gone over moment past later own explains =
    let timed = timed_accesses object.cell object.address calls in
    let order = timed_explained object.address object.cell object.len (calls ++ more) own explains in
    let split : timed_accesses object.cell object.address (calls ++ more) ≡ timed ++ map (timed_of object.address) (placed_from (0 + length calls) object.cell more)
    = ap (λ xs. map (timed_of object.address) xs) (placed_append 0 object.cell calls more)
    ∙ map-append (timed_of object.address) (placed_from 0 object.cell calls) (placed_from (0 + length calls) object.cell more) in
    gone (some_is_left effect (first_state object.len) timed (map (timed_of object.address) (placed_from (0 + length calls) object.cell more)) judge follows
    (λ i j call behind at closed at_more.
    let t = timed_at object.cell object.address calls i call at in
    let ended = over t.0 t.1 t.2 t.3 (subst (λ (x : Timed Access). IsOpen judge x.number → ⊥) t.4 closed) in
    let early : call.end < moment = subst (λ (x : Timed Access). x.end < moment) (sym t.4) (past t.0 t.1 ended t.2) in
    let found = mapped_at (timed_of object.address) (placed_from (0 + length calls) object.cell more) j behind at_more in
    let placed = placed_at (0 + length calls) object.cell more j found.0 found.1 in
    let from = later placed.at found.0.call placed.there in
    let late : moment ≤ behind.begin = subst (λ (x : Timed Access). moment ≤ x.begin) found.2 from in
    omega (arith, early, late))
    order.0 (subst (λ xs. ExplainsTimed effect (first_state object.len) xs order.0) split order.1))
