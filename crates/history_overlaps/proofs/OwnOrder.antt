-- The order of an object's accesses that a judge has found.
use Rattle.std.proofs.Common.{◌≡◌, ℕ, zero, suc, ◌+◌, ◌<◌, ◌≤◌, ◌^◌, ◌⊎◌, ◌↔◌, inl, inr, append-nil, List, [], ◌∷◌, ◌++◌, Option, Some, None, IfSome, arith, drop, get_or, length, map, option_map, refl, slice_get, sym, take, true, false, Bool, ◌&&◌, ap, subst, ◌∙◌}
use Rattle.std.specs.Global.{Vec}
use Rattle.std.specs.List.{All, cons_option}
use Rattle.std.specs.List.Sorted.{IsPermutation}
use Rattle.std.proofs.lemmas.List.{length-map, take-append-drop, take_all, take_more}
use Rattle.std.proofs.lemmas.List.Elements.{All-head, All-tail}
use Rattle.std.proofs.lemmas.List.Sorted.{All-permutation, IsPermutation-map, IsPermutation-sym}
use Rattle.std.proofs.lemmas.Option.{get_or_from_slice_get, slice_get-get_or, slice_get-map, slice_get_read, slice_get_within}
use Rattle.model_intervals.specs.Intervals.{Call}
use Rattle.model_intervals.specs.Objects.{ExplainsAccesses}
use Rattle.model_intervals.specs.OverlappingCalls.{IsAt}
use Rattle.history_reading.specs.CallWords.{IsReadCall, plain_call}
use Rattle.history_reading.specs.declared.words.TimedCall.{TimedCall}
use Rattle.history_object.specs.ObjectBytes.{State, effect, first_state}
use Rattle.history_object.specs.declared.access.Access.{Access}
use Rattle.history_object.specs.Following.{CanBegin, HasSome, IsOpen}
use Rattle.history_object.specs.OrderedJudges.{IsOrderedJudgeOf, numbers_of as numbers_in}
use Rattle.history_object.specs.TimedCalls.{ExplainsTimed, Timed}
use Rattle.history_object.specs.declared.ordered.OrderedJudge.{OrderedJudge}
use Rattle.history_object.proofs.End.{open_is_call}
use Rattle.history_object.proofs.Unexplained.{some_is_left}
use Rattle.history_overlaps.specs.Accesses.{PlacedCall, access_of, is_access_of, placed_from, timed_accesses, timed_of}
use Rattle.history_overlaps.specs.Followed.{AreOf, AreOpenFrom, ArePast, IsRefutedAt, IsUpTo, end_in, end_of}
use Rattle.history_overlaps.specs.Orders.{at_places}
use Rattle.history_overlaps.specs.OwnOrders.{BeginInOrder, IsOwnOrder, numbers_of}
use Rattle.history_overlaps.specs.declared.accesses.Made.{Made}
use Rattle.history_overlaps.proofs.AccessOrders.{call_at, explained_in_order, placed_at, timed_explained}
use Rattle.history_overlaps.proofs.FirstToEnd.{push_cases}
use Rattle.history_overlaps.proofs.ObjectAccesses.{among_first, before_next, begins_no_earlier, mapped_at, may_begin, others_later}

-- ---- the order that was found

places_are : (calls : List Call) (placed : List PlacedCall) → All (λ (p : PlacedCall). IsAt calls p.place p.call) placed
    → at_places calls (map (λ (p : PlacedCall). p.place) placed) ≡ map call_at placed
places_are calls [] are = refl
places_are calls (p ∷ placed) are =
    ap (λ (o : Option Call). cons_option o (at_places calls (map (λ (q : PlacedCall). q.place) placed))) (All-head (λ (q : PlacedCall). IsAt calls q.place q.call) p placed are)
    ∙ ap (λ (rest : List Call). p.call ∷ rest) (places_are calls placed (All-tail (λ (q : PlacedCall). IsAt calls q.place q.call) p placed are))

all_at : (cell : ℕ) (calls : List Call) → All (λ (p : PlacedCall). IsAt calls p.place p.call) (placed_from 0 cell calls)
all_at cell calls k d lt =
    let p = get_or (placed_from 0 cell calls) k d in
    let one = placed_at 0 cell calls k p (slice_get-get_or (placed_from 0 cell calls) k d lt) in
    subst (λ (n : ℕ). IsAt calls n p.call) (let e = one.place_is in let same : one.at ≡ p.place = omega (arith, e) in same) one.there

numbers_mapped : (address : ℕ) (placed : List PlacedCall) → map (λ (t : Timed Access). t.number) (map (timed_of address) placed) ≡ map (λ (p : PlacedCall). p.place) placed
numbers_mapped address [] = refl
numbers_mapped address (p ∷ placed) = ap (λ (rest : List ℕ). p.place ∷ rest) (numbers_mapped address placed)

pub own_order : (calls : List Call) (made : Made) (numbers : List ℕ) (order : List (Timed Access)) → numbers ≡ numbers_in order
    → ExplainsTimed effect (first_state made.len) (timed_accesses made.cell made.address calls) order → IsOwnOrder calls made numbers
own_order calls made numbers order are explains =
    let found = explained_in_order made.address made.cell made.len calls order explains in
    let same : numbers ≡ map (λ (p : PlacedCall). p.place) found.placed =
    are ∙ ap (λ (l : List (Timed Access)). numbers_in l) (sym found.timed) ∙ numbers_mapped made.address found.placed in
    let at = All-permutation (λ (p : PlacedCall). IsAt calls p.place p.call) (placed_from 0 made.cell calls) found.placed found.permuted (all_at made.cell calls) in record {
      same = subst (λ (l : List ℕ). IsPermutation l (numbers_of made.cell calls)) (sym same)
          (IsPermutation-map (λ (p : PlacedCall). p.place) found.placed (placed_from 0 made.cell calls) (IsPermutation-sym (placed_from 0 made.cell calls) found.placed found.permuted));
      explains = subst (λ (l : List Call). ExplainsAccesses calls made.cell made.len made.address l) (sym (ap (at_places calls) same ∙ places_are calls found.placed at)) found.explains;
    }

-- ---- accesses one after another

-- the judge has followed the first accesses, and the others begin no earlier than the moment
pub record IsFollowedTo {O : Type 0} (calls : List Call) (made : Made) (count : ℕ) (judge : OrderedJudge O State Access) : Type 0 where
  pub moment : ℕ
  pub early : moment ≤ 2 ^ 64 + 1
  pub up_to : IsUpTo made.len (take count (timed_accesses made.cell made.address calls)) moment judge
  pub later : (k : ℕ) (placed : PlacedCall) → count ≤ k → slice_get (placed_from 0 made.cell calls) k ≡ Some placed → moment ≤ placed.call.begin

-- no access is followed yet
pub first_followed : {O : Type 0} (calls : List Call) (made : Made) (judge : OrderedJudge O State Access) → IsOrderedJudgeOf effect (first_state made.len) [] judge
    → HasSome effect judge.judge → IsFollowedTo calls made 0 judge
first_followed calls made judge follows some = record {
  moment = 0;
  early = omega arith;
  up_to = record { follows = follows; some = some; past = λ k timed at closed. absurd (nothing k timed at) };
  later = λ k placed le at. omega arith;
}
  where
    nothing : (k : ℕ) (timed : Timed Access) → slice_get [] k ≡ Some timed → ⊥
    nothing zero timed is = cc is
    nothing (suc k) timed is = cc is

-- the next access is the call with the next number
pub record IsNextAccess (calls : List TimedCall) (made : Made) (count number : ℕ) (call : TimedCall) : Type 0 where
  pub placed : PlacedCall
  pub next : slice_get (placed_from 0 made.cell (map plain_call calls)) count ≡ Some placed
  pub is_number : placed.place ≡ number
  pub is_call : placed.call ≡ plain_call call
  pub here : slice_get calls number ≡ Some call
  pub accesses : is_access_of made.cell (plain_call call) ≡ true

-- the next number is that of a call
pub next_below : (calls : List TimedCall) (made : Made) (numbers : List ℕ) (count : ℕ) → numbers ≡ numbers_of made.cell (map plain_call calls) → count < length numbers
    → get_or numbers count 0 < length calls
next_below calls made numbers count are lt =
    let at = subst (λ (l : List ℕ). slice_get l count ≡ Some (get_or numbers count 0)) are (slice_get-get_or numbers count 0 lt) in
    let found = mapped_at (λ (p : PlacedCall). p.place) (placed_from 0 made.cell (map plain_call calls)) count (get_or numbers count 0) at in
    let one = placed_at 0 made.cell (map plain_call calls) count found.0 found.1 in
    let here : one.at ≡ get_or numbers count 0 = (let e = one.place_is in let f = found.2 in omega (arith, e, f)) in
    let there = subst (λ (n : ℕ). slice_get (map plain_call calls) n ≡ Some found.0.call) here one.there in
    let back = mapped_at plain_call calls (get_or numbers count 0) found.0.call there in
    slice_get_within calls (get_or numbers count 0) back.0 back.1

pub next_access : (calls : List TimedCall) (made : Made) (numbers : List ℕ) (count : ℕ) (call : TimedCall) → numbers ≡ numbers_of made.cell (map plain_call calls)
    → count < length numbers → call ≡ get_or calls (get_or numbers count 0) call
    → IsNextAccess calls made count (get_or numbers count 0) call
next_access calls made numbers count call are lt is =
    let at = subst (λ (l : List ℕ). slice_get l count ≡ Some (get_or numbers count 0)) are (slice_get-get_or numbers count 0 lt) in
    let found = mapped_at (λ (p : PlacedCall). p.place) (placed_from 0 made.cell (map plain_call calls)) count (get_or numbers count 0) at in
    let one = placed_at 0 made.cell (map plain_call calls) count found.0 found.1 in
    let here : one.at ≡ get_or numbers count 0 = (let e = one.place_is in let f = found.2 in omega (arith, e, f)) in
    let there = subst (λ (n : ℕ). slice_get (map plain_call calls) n ≡ Some found.0.call) here one.there in
    let back = mapped_at plain_call calls (get_or numbers count 0) found.0.call there in
    let within = slice_get_within calls (get_or numbers count 0) back.0 back.1 in
    let both : Some back.0 ≡ Some call = sym back.1 ∙ slice_get_read calls (length calls) (get_or numbers count 0) call refl within is in
    let same : back.0 ≡ call = cc both in
    let call_is : found.0.call ≡ plain_call call = sym back.2 ∙ ap plain_call same in record {
      placed = found.0;
      next = found.1;
      is_number = found.2;
      is_call = call_is;
      here = back.1 ∙ ap (λ (c : TimedCall). Some c) same;
      accesses = subst (λ (c : Call). is_access_of made.cell c ≡ true) call_is one.accesses;
    }

-- the accesses are those of the calls
pub are_of : (calls : List TimedCall) (made : Made) (count : ℕ) → AreOf calls (take count (timed_accesses made.cell made.address (map plain_call calls)))
are_of calls made count k timed is =
    let first = among_first (timed_accesses made.cell made.address (map plain_call calls)) count k timed is in
    let found = mapped_at (timed_of made.address) (placed_from 0 made.cell (map plain_call calls)) k timed first.1 in
    let one = placed_at 0 made.cell (map plain_call calls) k found.0 found.1 in
    let here : one.at ≡ found.0.place = (let e = one.place_is in omega (arith, e)) in
    let back = mapped_at plain_call calls found.0.place found.0.call (subst (λ (n : ℕ). slice_get (map plain_call calls) n ≡ Some found.0.call) here one.there) in
    let ends : end_of calls found.0.place ≡ found.0.call.end = ap (λ o. end_in o) back.1 ∙ ap (λ (c : Call). c.end) back.2 in
    subst (λ (t : Timed Access). t.end ≡ end_of calls t.number) found.2 (sym ends)

-- each call was read
pub read_at : (calls : List TimedCall) (n : ℕ) (call : TimedCall) → All IsReadCall calls → slice_get calls n ≡ Some call → IsReadCall call
read_at [] zero call all at = absurd (cc at)
read_at [] (suc n) call all at = absurd (cc at)
read_at (other ∷ calls) zero call all at = let same : other ≡ call = cc at in subst IsReadCall same (All-head IsReadCall other calls all)
read_at (other ∷ calls) (suc n) call all at = read_at calls n call (All-tail IsReadCall other calls all) at

-- the first of two tests that hold
pub both_first : (a b : Bool) → (a && b) ≡ true → a ≡ true
both_first true b both = refl
both_first false b both = absurd (cc both)

-- each access ends before the last moment
pub ends_before_last : (calls : List TimedCall) (made : Made) (count k : ℕ) (timed : Timed Access) → All IsReadCall calls
    → slice_get (take count (timed_accesses made.cell made.address (map plain_call calls))) k ≡ Some timed → timed.end < 2 ^ 64 + 1
ends_before_last calls made count k timed read is =
    let first = among_first (timed_accesses made.cell made.address (map plain_call calls)) count k timed is in
    let found = mapped_at (timed_of made.address) (placed_from 0 made.cell (map plain_call calls)) k timed first.1 in
    let one = placed_at 0 made.cell (map plain_call calls) k found.0 found.1 in
    let back = mapped_at plain_call calls one.at found.0.call one.there in
    let readable = read_at calls one.at back.0 read back.1 in
    let ends : back.0.end < 2 ^ 64 + 1 = (let last = readable.ends in omega (arith, last)) in
    subst (λ (t : Timed Access). t.end < 2 ^ 64 + 1) found.2 (subst (λ (c : Call). c.end < 2 ^ 64 + 1) back.2 ends)

-- ---- steps of the judge

-- a call with its place, from both
placed_is : (p : PlacedCall) (place : ℕ) (call : Call) → p.place ≡ place → p.call ≡ call → p ≡ record { place = place; call = call }
placed_is p place call same_place same_call = λ i. record { place = same_place i; call = same_call i }

module _ (calls : List TimedCall) (made : Made) (count number : ℕ) (call : TimedCall) (ascend : BeginInOrder (map plain_call calls))
    (next : IsNextAccess calls made count number call) where
  abbrev timeds : List (Timed Access)
  timeds = timed_accesses made.cell made.address (map plain_call calls)

  begin_is : next.placed.call.begin ≡ call.begin
  begin_is = ap (λ (c : Call). c.begin) next.is_call

  -- the next access, as the judge is told of it
  told_so : (access : Access) → access ≡ access_of made.address (plain_call call).entry.command (plain_call call).entry.reply
      → timed_of made.address next.placed ≡ record { number = number; begin = call.begin; end = call.end; call = access }
  told_so access is =
      ap (timed_of made.address) (placed_is next.placed number (plain_call call) next.is_number next.is_call)
      ∙ ap (λ (a : Access). record { number = number; begin = call.begin; end = call.end; call = a }) (sym is)

  one_more : take (count + 1) timeds ≡ take count timeds ++ timed_of made.address next.placed ∷ []
  one_more =
      let at : slice_get timeds count ≡ Some (timed_of made.address next.placed) =
      slice_get-map (timed_of made.address) (placed_from 0 made.cell (map plain_call calls)) count ∙ ap (λ o. option_map (timed_of made.address) o) next.next in
      let within = slice_get_within timeds count (timed_of made.address next.placed) at in
      take_more timeds count (timed_of made.address next.placed) within
      ∙ ap (λ (t : Timed Access). take count timeds ++ t ∷ []) (get_or_from_slice_get timeds count (timed_of made.address next.placed) (timed_of made.address next.placed) at)

  -- no open access has the next number
  pub is_fresh : {O : Type 0} (judge : OrderedJudge O State Access) (moment : ℕ) → IsUpTo made.len (take count timeds) moment judge → IsOpen judge.judge number → ⊥
  is_fresh judge moment up_to opened =
      let found = open_is_call effect (first_state made.len) (take count timeds) judge.judge up_to.follows.follows number opened in
      let lower = (before_next made.cell made.address (map plain_call calls) ascend count found.0 next.placed found.1 next.next found.2).0 in
      let is_number = next.is_number in
      let same = found.3 in
      omega (arith, lower, is_number, same)

  -- the next access begins no earlier than the moment
  pub begins_later : {O : Type 0} (judge : OrderedJudge O State Access) → (followed : IsFollowedTo (map plain_call calls) made count judge) → followed.moment ≤ call.begin
  begins_later judge followed = let le = followed.later count next.placed (omega arith) next.next in let b = begin_is in omega (arith, le, b)

  -- the accesses that end before the next one begins have ended
  pub ended_so_far : {O : Type 0} (moment : ℕ) (old new : OrderedJudge O State Access) → moment ≡ call.begin → IsFollowedTo (map plain_call calls) made count old
      → ((len earlier : ℕ) (cs : List (Timed Access)) → AreOf calls cs → earlier ≤ moment → IsUpTo len cs earlier old
      → IsUpTo len cs moment new × AreOpenFrom cs moment new.judge)
      → IsUpTo made.len (take count timeds) call.begin new × AreOpenFrom (take count timeds) call.begin new.judge
  ended_so_far moment old new is followed ended =
      let le = begins_later old followed in
      subst (λ (m : ℕ). IsUpTo made.len (take count timeds) m new × AreOpenFrom (take count timeds) m new.judge) is
      (ended made.len followed.moment (take count timeds) (are_of calls made count) (omega (arith, le, is)) followed.up_to)

  -- no configuration is left when they have ended
  pub ended_refuted : {O : Type 0} (moment : ℕ) (old new : OrderedJudge O State Access) → moment ≡ call.begin → IsFollowedTo (map plain_call calls) made count old
      → ((len earlier : ℕ) (cs : List (Timed Access)) → AreOf calls cs → earlier ≤ moment → IsUpTo len cs earlier old → IsRefutedAt len cs moment new)
      → IsRefutedAt made.len (take count timeds) call.begin new
  ended_refuted moment old new is followed refuted =
      let le = begins_later old followed in
      subst (λ (m : ℕ). IsRefutedAt made.len (take count timeds) m new) is
      (refuted made.len followed.moment (take count timeds) (are_of calls made count) (omega (arith, le, is)) followed.up_to)

  -- the next access begins
  pub begun_on : {O : Type 0} (access : Access) (old new : OrderedJudge O State Access) → IsReadCall call
      → access ≡ access_of made.address (plain_call call).entry.command (plain_call call).entry.reply
      → IsUpTo made.len (take count timeds) call.begin old → AreOpenFrom (take count timeds) call.begin old.judge
      → ((cs : List (Timed Access)) (begin end : ℕ) → IsOrderedJudgeOf effect (first_state made.len) cs old
      → CanBegin cs old.judge (record { number = number; begin = begin; end = end; call = access })
      → IsOrderedJudgeOf effect (first_state made.len) (cs ++ record { number = number; begin = begin; end = end; call = access } ∷ []) new)
      → ((n : ℕ) → IsOpen new.judge n ↔ ((n ≡ number) ⊎ IsOpen old.judge n)) → (HasSome effect old.judge → HasSome effect new.judge)
      → IsFollowedTo (map plain_call calls) made (count + 1) new
  begun_on access old new read is up_to open_from follows opens some =
      let told = told_so access is in
      let takes_time : next.placed.call.begin ≤ next.placed.call.end =
      subst (λ (c : Call). c.begin ≤ c.end) (sym next.is_call) read.takes_time in
      let can = may_begin made.cell made.address (map plain_call calls) ascend count next.placed old.judge next.next takes_time
      (λ k timed at closed. let lt = up_to.past k timed at closed in let b = begin_is in omega (arith, lt, b))
      (λ k timed at opened. let le = open_from k timed at opened in let b = begin_is in omega (arith, le, b)) in
      let followed = follows (take count timeds) call.begin call.end up_to.follows (subst (λ (t : Timed Access). CanBegin (take count timeds) old.judge t) told can) in
      let whole : take count timeds ++ record { number = number; begin = call.begin; end = call.end; call = access } ∷ [] ≡ take (count + 1) timeds =
      ap (λ (t : Timed Access). take count timeds ++ t ∷ []) (sym told) ∙ sym one_more in record {
        moment = call.begin;
        early = (let takes = read.takes_time in let ends = read.ends in omega (arith, takes, ends));
        up_to = record {
          follows = subst (λ (cs : List (Timed Access)). IsOrderedJudgeOf effect (first_state made.len) cs new) whole followed;
          some = some up_to.some;
          past = subst (λ (cs : List (Timed Access)). ArePast cs call.begin new.judge) whole
              (λ k timed at closed. elim (push_cases (take count timeds) (record { number = number; begin = call.begin; end = call.end; call = access }) k timed at) [
                | inl before ↦ up_to.past k timed before (λ opened. closed ((opens timed.number).1 (inr opened)))
                | inr now ↦ absurd (closed ((opens timed.number).1 (inl (sym (ap (λ (t : Timed Access). t.number) now)))))
              ]);
        };
        later = λ k placed le at. let began = begins_no_earlier made.cell made.address (map plain_call calls) ascend count k next.placed placed (omega (arith, le)) next.next at in
            let b = begin_is in omega (arith, began, b);
      }

  -- an access so far was refuted
  pub refuted_so_far : {O : Type 0} (judge : OrderedJudge O State Access) → IsRefutedAt made.len (take count timeds) call.begin judge → (order : List Call)
      → ExplainsAccesses (map plain_call calls) made.cell made.len made.address order → ⊥
  refuted_so_far judge refuted order explains =
      let timed = timed_explained made.address made.cell made.len (map plain_call calls) order explains in
      refuted.none (some_is_left effect (first_state made.len) (take count timeds) (drop count timeds) judge.judge refuted.follows
      (others_later made.cell made.address (map plain_call calls) ascend count next.placed judge.judge next.next
      (λ k t at closed. let lt = refuted.past k t at closed in let b = begin_is in omega (arith, lt, b)))
      timed.0 (subst (λ (cs : List (Timed Access)). ExplainsTimed effect (first_state made.len) cs timed.0) (sym (take-append-drop count timeds)) timed.1))

-- all accesses are followed
module _ (calls : List TimedCall) (made : Made) (count : ℕ) (all : length (numbers_of made.cell (map plain_call calls)) ≤ count) where
  abbrev every : List (Timed Access)
  every = timed_accesses made.cell made.address (map plain_call calls)

  whole_list : take count every ≡ every
  whole_list = take_all count every
      (let long = length-map (placed_from 0 made.cell (map plain_call calls)) (timed_of made.address) in
      let numbers = length-map (placed_from 0 made.cell (map plain_call calls)) (λ (p : PlacedCall). p.place) in omega (arith, all, long, numbers))

  -- none is open after the last moment
  pub none_open : {O : Type 0} (judge : OrderedJudge O State Access) → All IsReadCall calls → IsUpTo made.len (take count every) (2 ^ 64 + 1) judge
      → AreOpenFrom (take count every) (2 ^ 64 + 1) judge.judge → (n : ℕ) → IsOpen judge.judge n → ⊥
  none_open judge read up_to open_from n opened =
      let found = open_is_call effect (first_state made.len) (take count every) judge.judge up_to.follows.follows n opened in
      let ends = ends_before_last calls made count found.0 found.1 read found.2 in
      let from = open_from found.0 found.1 found.2 (subst (λ (k : ℕ). IsOpen judge.judge k) (sym found.3) opened) in
      omega (arith, ends, from)

  pub all_followed : {O : Type 0} (judge : OrderedJudge O State Access) → IsUpTo made.len (take count every) (2 ^ 64 + 1) judge
      → IsOrderedJudgeOf effect (first_state made.len) every judge
  all_followed judge up_to = subst (λ (cs : List (Timed Access)). IsOrderedJudgeOf effect (first_state made.len) cs judge) whole_list up_to.follows

  pub refuted_at_last : {O : Type 0} (judge : OrderedJudge O State Access) → IsRefutedAt made.len (take count every) (2 ^ 64 + 1) judge → (order : List Call)
      → ExplainsAccesses (map plain_call calls) made.cell made.len made.address order → ⊥
  refuted_at_last judge refuted order explains =
      let timed = timed_explained made.address made.cell made.len (map plain_call calls) order explains in
      refuted.none (some_is_left effect (first_state made.len) (take count every) [] judge.judge refuted.follows
      (λ i j c later at closed at_later. absurd (nothing j later at_later)) timed.0
      (subst (λ (cs : List (Timed Access)). ExplainsTimed effect (first_state made.len) cs timed.0) (sym (append-nil (take count every) ∙ whole_list)) timed.1))
    where
      nothing : (j : ℕ) (later : Timed Access) → slice_get [] j ≡ Some later → ⊥
      nothing zero later is = cc is
      nothing (suc j) later is = cc is

  -- the order that the judge has found, if it has found one
  pub found_order : {O : Type 0} (judge : OrderedJudge O State Access) (found : Option (Vec ℕ)) → All IsReadCall calls
      → IsUpTo made.len (take count every) (2 ^ 64 + 1) judge → AreOpenFrom (take count every) (2 ^ 64 + 1) judge.judge
      → IfSome found (λ numbers. (start : State) (cs : List (Timed Access)) → IsOrderedJudgeOf effect start cs judge → ((number : ℕ) → IsOpen judge.judge number → ⊥)
      → (order : List (Timed Access)) × (numbers.items ≡ numbers_in order) × ExplainsTimed effect start cs order)
      → IfSome found (λ order. IsOwnOrder (map plain_call calls) made order.items)
  found_order judge None read up_to open_from is = tt
  found_order judge (Some numbers) read up_to open_from is =
      let order = is (first_state made.len) every (all_followed judge up_to) (none_open judge read up_to open_from) in
      own_order (map plain_call calls) made numbers.items order.0 order.1 order.2
