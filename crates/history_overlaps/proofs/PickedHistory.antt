-- Where all calls that have ended are picked, the picked calls are a history.
use Rattle.std.proofs.Common.{◌≡◌, ℕ, ◌<◌, ◌≤◌, Bool, true, List, arith, refl, Option, Some, None}
use Rattle.std.specs.List.{All}
use Rattle.model_history.specs.Recorded.{many_cells}
use Rattle.model_intervals.specs.Completions.{picked}
use Rattle.model_intervals.specs.Intervals.{Call}
use Rattle.model_intervals.specs.OverlappingCalls.{HasEffect, IsAt, IsHistory, IsMadeBefore, IsNew, cell_at}
use Rattle.model_intervals.proofs.Picked.{picked_apart, picked_from, picked_to, rank}
use Rattle.history_overlaps.specs.Queues.{HasEnded, Queue, key_of}
use Rattle.history_overlaps.specs.declared.pending.Pending.{Pending}
use Rattle.history_overlaps.proofs.BegunSteps.{all_places}
use Rattle.history_overlaps.proofs.LivesWrong.{all_at}

-- a call that ended before another began has ended
pub ended_before : (calls : List Call) (waits : ℕ → Option Pending) → Queue calls waits → (i : ℕ) (a : Call) → IsAt calls i a → (k : ℕ) (b : Call) → IsAt calls k b
    → b.end < a.begin → HasEnded calls waits k
ended_before calls waits queue i a is k b there early = found (waits (key_of b k)) refl
  where
    found : (w : Option Pending) → waits (key_of b k) ≡ w → HasEnded calls waits k
    found None none = (b, there, none)
    found (Some p) some = absurd (let late = queue.reach k i b a there is (p, some) in omega (arith, late, early))

-- what holds of each call holds of each that is picked
pub all_picked : (P : Call → Type 0) (taken : ℕ → Bool) (calls : List Call) → All P calls → All P (picked taken calls)
all_picked P taken calls all = all_places P (picked taken calls) (λ k a is. let p = picked_from taken calls k a is in all_at P calls p.place a all p.there)

module _ (calls : List Call) (waits : ℕ → Option Pending) (queue : Queue calls waits) (history : IsHistory calls) (taken : ℕ → Bool)
    (all_ended : (i : ℕ) → HasEnded calls waits i → taken i ≡ true) where
  -- what made the object of a call has ended, so it is picked
  made_before : (i : ℕ) (call : Call) → IsAt (picked taken calls) i call → (IsNew call.entry.command → ⊥) → IsMadeBefore (picked taken calls) (cell_at call) call.begin
  made_before i call is other =
      let p = picked_from taken calls i call is in
      let before = history.after_new p.place call p.there other in
      let over = ended_before calls waits queue p.place call p.there before.place before.call before.there before.ended in
      record {
        place = rank taken before.place;
        call = before.call;
        there = picked_to taken calls before.place before.call before.there (all_ended before.place over);
        makes = before.makes;
        names = before.names;
        ended = before.ended;
      }

  pub picked_history : IsHistory (picked taken calls)
  picked_history = record {
    take_time = all_picked (λ call. call.begin ≤ call.end) taken calls history.take_time;
    have_effects = all_picked (λ call. HasEffect call.entry.command call.entry.reply) taken calls history.have_effects;
    have_cells = all_picked (λ call. cell_at call < many_cells) taken calls history.have_cells;
    own_cells = λ i j a b apart at_i at_j new_a new_b.
        let p = picked_from taken calls i a at_i in
        let q = picked_from taken calls j b at_j in
        history.own_cells p.place q.place a b (picked_apart taken calls i j a b apart p q) p.there q.there new_a new_b;
    after_new = made_before;
    before_free = λ i j a free apart at_i at_j frees same.
        let p = picked_from taken calls i a at_i in
        let q = picked_from taken calls j free at_j in
        history.before_free p.place q.place a free (picked_apart taken calls i j a free apart p q) p.there q.there frees same;
  }
