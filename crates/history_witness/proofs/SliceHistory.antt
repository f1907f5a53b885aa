-- The calls of a slice of a history are a history.
use Rattle.std.proofs.Common.{◌≡◌, ℕ, ◌<◌, ◌≤◌, Bool, true, List, arith}
use Rattle.std.specs.List.{All}
use Rattle.std.proofs.lemmas.Bool.Decides.{nat_tests}
use Rattle.model_history.specs.Recorded.{many_cells}
use Rattle.model_words.specs.declared.commands.Command.{Command}
use Rattle.model_words.specs.declared.commands.Command.TheVariants.{New, Free}
use Rattle.model_words.specs.declared.commands.Reply.{Reply}
use Rattle.model_words.specs.declared.commands.Reply.TheVariants.{Object as Made}
use Rattle.model_intervals.specs.Completions.{picked}
use Rattle.model_intervals.specs.Intervals.{Call}
use Rattle.model_intervals.specs.OverlappingCalls.{HasEffect, IsAt, IsFree, IsHistory, IsMadeBefore, IsNew, MakesOne, cell_at, cell_of}
use Rattle.model_intervals.proofs.Picked.{picked_apart, picked_from, picked_to, rank}
use Rattle.model_intervals.proofs.Places.{all_from, every_at, every_from, every_from_places}
use Rattle.history_witness.specs.Slices.{IsSlice, is_new_or_free}

-- what holds of each call holds of each that is picked
pub all_picked : (P : Call → Type 0) (taken : ℕ → Bool) (calls : List Call) → All P calls → All P (picked taken calls)
all_picked P taken calls all = all_from P (picked taken calls) (every_from_places P (picked taken calls)
    (λ k a is. let p = picked_from taken calls k a is in every_at P calls p.place a (every_from P calls all) p.there))

-- what made the object of a cell is its `new`
makes_is_new : (cell : ℕ) (command : Command) (reply : Reply) → MakesOne command reply → cell_of command ≡ cell → is_new_or_free cell command ≡ true
makes_is_new cell (New c len word) (Made serial address) makes same = let same' : c ≡ cell = same in grind (arith, nat_tests)
makes_is_new cell command reply makes same = absurd makes

pub frees_is_free : (cell : ℕ) (command : Command) → IsFree command → cell_of command ≡ cell → is_new_or_free cell command ≡ true
frees_is_free cell (Free c) frees same = let same' : c ≡ cell = same in grind (arith, nat_tests)
frees_is_free cell command frees same = absurd frees

module _ (calls : List Call) (taken : ℕ → Bool) (history : IsHistory calls) (slice : IsSlice calls taken) where
  -- what made the object of a call is picked with the call
  made_before : (i : ℕ) (call : Call) → IsAt (picked taken calls) i call → (IsNew call.entry.command → ⊥) → IsMadeBefore (picked taken calls) (cell_at call) call.begin
  made_before i call is other =
      let p = picked_from taken calls i call is in
      let before = history.after_new p.place call p.there other in
      let on = (slice p.place call p.there p.on).0 before.place before.call before.there
      (makes_is_new (cell_at call) before.call.entry.command before.call.entry.reply before.makes before.names) in
      record {
        place = rank taken before.place;
        call = before.call;
        there = picked_to taken calls before.place before.call before.there on;
        makes = before.makes;
        names = before.names;
        ended = before.ended;
      }

  pub slice_history : IsHistory (picked taken calls)
  slice_history = record {
    take_time = all_picked (λ call. call.begin ≤ call.end) taken calls history.take_time;
    have_effects = all_picked (λ call. HasEffect call.entry.command call.entry.reply) taken calls history.have_effects;
    have_cells = all_picked (λ call. cell_at call < many_cells) taken calls history.have_cells;
    own_cells = λ i j a b apart at_i at_j new_a new_b.
        let p = picked_from taken calls i a at_i in
        let q = picked_from taken calls j b at_j in
        history.own_cells p.place q.place a b (picked_apart taken calls i j a b apart p q) p.there q.there new_a new_b;
    after_new = made_before;
    before_free = λ i j a free apart at_i at_j frees same.
        let p = picked_from taken calls i a at_i in
        let q = picked_from taken calls j free at_j in
        history.before_free p.place q.place a free (picked_apart taken calls i j a free apart p q) p.there q.there frees same;
  }
