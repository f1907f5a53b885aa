-- The calls of an order that were looked at.
use Rattle.std.proofs.Common.{◌≡◌, ℕ, ◌+◌, ◌<◌, ◌≤◌, max, List, [], ◌∷◌, ◌++◌, arith, length, map, refl, subst, sym}
use Rattle.std.specs.List.{All}
use Rattle.std.proofs.lemmas.List.{get_or_append_left, get_or_push, length_push, map_push}
use Rattle.std.proofs.lemmas.List.Elements.{All-nil, All-push, All-weaker}
use Rattle.std.proofs.lemmas.List.Quantifiers.{all_pairs_push}
use Rattle.model_memory.specs.Plain.{Entry}
use Rattle.model_history.specs.Recorded.{IsRecorded, Recorded, RecordedRuns, RecordedStep, any_allocator, nothing_recorded}
use Rattle.model_intervals.specs.Intervals.{Call, RespectsTime}
use Rattle.history_in_order.specs.Judged.{IsTaken}
use Rattle.history_in_order.specs.Stands.{Stands}
use Rattle.history_in_order.specs.declared.memory.Tracked.{Tracked}
use Rattle.history_overlaps.specs.Orders.{IsLegalOrder}

-- the predicate holds of each element and of one element more
All-split : {X : Type 0} (P : X → Type 0) (xs : List X) (x : X) → All P (xs ++ x ∷ []) → All P xs × P x
All-split {X} P xs x all =
    let long = length_push xs x in (
      λ k d within. subst P (get_or_append_left xs (x ∷ []) d k within) (all k d (omega (arith, long))),
      subst P (get_or_push xs x x (length xs) refl) (all (length xs) x (omega (arith, long))),
    )

-- the calls respect time, the last of them began at this moment or it is 0 if there is none, and the trees are those of
-- what the calls leave, of at most so many objects
pub record IsSoFar (memory : Tracked) (begun count : ℕ) (order : List Call) : Type 0 where
  pub in_time : RespectsTime order
  pub before : All (λ call. call.begin ≤ begun) order
  pub least : (moment : ℕ) → All (λ call. call.begin ≤ moment) order → begun ≤ moment
  pub few : memory.made ≤ count
  pub recorded : Recorded
  pub stands : Stands memory recorded
  pub legal : IsRecorded any_allocator (map (λ call. call.entry) order) recorded

-- one entry more is taken
runs_more : (r n k : Recorded) (entries : List Entry) (entry : Entry) → RecordedRuns any_allocator r entries n
    → RecordedStep any_allocator n entry.command entry.reply k → RecordedRuns any_allocator r (entries ++ entry ∷ []) k
runs_more r n k [] entry runs step = (k, subst (λ (from : Recorded). RecordedStep any_allocator from entry.command entry.reply k) runs step, refl)
runs_more r n k (first ∷ entries) entry runs step = (runs.0, runs.1, runs_more runs.0 n k entries entry runs.2 step)

-- no call was looked at
pub none_so_far : (memory : Tracked) → Stands memory (nothing_recorded any_allocator) → memory.made ≡ 0 → IsSoFar memory 0 0 []
none_so_far memory stands made = record {
  in_time = λ i j d lt within. absurd (omega (arith, within));
  before = All-nil (λ (call : Call). call.begin ≤ 0);
  least = λ moment all. omega arith;
  few = omega (arith, made);
  recorded = nothing_recorded any_allocator;
  stands = stands;
  legal = refl;
}

-- one call more is looked at, which ended no earlier than the others began
pub more_so_far : (memory memory' : Tracked) (begun begun' count : ℕ) (order : List Call) (call : Call) → IsSoFar memory begun count order
    → IsTaken memory memory' call.entry.command call.entry.reply → memory'.made ≤ memory.made + 1 → begun ≤ call.end → begun' ≡ max call.begin begun
    → IsSoFar memory' begun' (count + 1) (order ++ call ∷ [])
more_so_far memory memory' begun begun' count order call before taken made ended is =
    let next = taken before.recorded before.stands in
    let few = before.few in record {
      in_time = all_pairs_push (λ (front back : Call). back.end < front.begin → ⊥) order call before.in_time
          (λ k d within later. let front = before.before k d within in omega (arith, front, later, ended));
      before = All-push (λ (c : Call). c.begin ≤ begun') order call
          (All-weaker (λ (c : Call). c.begin ≤ begun) (λ (c : Call). c.begin ≤ begun') (λ c le. omega (arith, le, is)) order before.before) (omega (arith, is));
      least = λ moment all. least_more moment (before.least moment) all;
      few = omega (arith, made, few);
      recorded = next.0;
      stands = next.2;
      legal = subst (λ (entries : List Entry). IsRecorded any_allocator entries next.0) (sym (map_push (λ (c : Call). c.entry) order call))
          (runs_more (nothing_recorded any_allocator) before.recorded next.0 (map (λ (c : Call). c.entry) order) call.entry before.legal next.1);
    }
  where
    least_more : (moment : ℕ) → (All (λ c. c.begin ≤ moment) order → begun ≤ moment) → All (λ c. c.begin ≤ moment) (order ++ call ∷ []) → begun' ≤ moment
    least_more moment least all =
        let both = All-split (λ (c : Call). c.begin ≤ moment) order call all in
        let old = least both.0 in
        let new = both.1 in
        omega (arith, is, old, new)

-- all calls were looked at
pub all_so_far : (memory : Tracked) (begun count : ℕ) (some order : List Call) → IsSoFar memory begun count some → some ≡ order → IsLegalOrder order
all_so_far memory begun count some order before is =
    subst (λ (o : List Call). IsLegalOrder o) is (record { in_time = before.in_time; end = before.recorded; legal = before.legal })
