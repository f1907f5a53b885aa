-- If some order explains the calls of a history, some order explains the calls of each slice.
use Rattle.std.proofs.Common.{◌≡◌, ℕ, inl, inr, Bool, true, List, sym, ◌∙◌, ap, Some}
use Rattle.model_words.specs.declared.commands.Command.{Command}
use Rattle.model_words.specs.declared.commands.Command.TheVariants.{New}
use Rattle.model_words.specs.declared.commands.Reply.{Reply}
use Rattle.model_words.specs.declared.commands.Reply.TheVariants.{Object as Made}
use Rattle.model_intervals.specs.Completions.{picked}
use Rattle.model_intervals.specs.Intervals.{Call}
use Rattle.model_intervals.specs.Objects.{IsExplainedByObject, IsFairNew, IsFreedBy, Object, object_made}
use Rattle.model_intervals.specs.OverlappingCalls.{IsAt, IsHistory, cell_at, cell_of}
use Rattle.model_intervals.proofs.ByObject.{explained}
use Rattle.model_intervals.proofs.OneOrder.{linearizable}
use Rattle.model_intervals.proofs.Picked.{picked_apart, picked_from, picked_to, rank}
use Rattle.history_witness.specs.SliceLaws.{SlicesAreExplained}
use Rattle.history_witness.specs.Slices.{IsSlice}
use Rattle.history_witness.proofs.SliceAccesses.{slice_accesses}
use Rattle.history_witness.proofs.SliceHistory.{all_picked, frees_is_free, slice_history}

-- the object that a command made is that of its cell
made_in : (command : Command) (reply : Reply) (x : Object) → object_made command reply ≡ Some x → cell_of command ≡ x.cell
made_in (New cell len word) (Made serial address) x is =
    (let same : record { cell = cell; len = len; serial = serial; address = address } ≡ x = cc is in ap (λ (o : Object). o.cell) same)
made_in command reply x is = absurd (cc is)

module _ (calls : List Call) (taken : ℕ → Bool) (history : IsHistory calls) (slice : IsSlice calls taken) where
  -- what freed the object of a call is picked with the call
  freed_picked : (place : ℕ) (call : Call) → IsAt calls place call → taken place ≡ true → (cell moment : ℕ) → cell_at call ≡ cell
      → IsFreedBy calls cell moment → IsFreedBy (picked taken calls) cell moment
  freed_picked place call is on cell moment names freed =
      let on' = (slice place call is on).0 freed.place freed.free freed.there
      (frees_is_free (cell_at call) freed.free.entry.command freed.frees (freed.names ∙ sym names)) in
      record {
        place = rank taken freed.place;
        free = freed.free;
        there = picked_to taken calls freed.place freed.free freed.there on';
        frees = freed.frees;
        names = freed.names;
        begun = freed.begun;
      }

  by_object : IsExplainedByObject calls → IsExplainedByObject (picked taken calls)
  by_object h = record {
    fair = all_picked (λ call. IsFairNew call.entry.command call.entry.reply) taken calls h.fair;
    serials_once = λ i j a b x y apart at_i at_j.
        let p = picked_from taken calls i a at_i.0 in
        let q = picked_from taken calls j b at_j.0 in
        h.serials_once p.place q.place a b x y (picked_apart taken calls i j a b apart p q) (p.there, at_i.1) (q.there, at_j.1);
    apart = λ i j a b x y apart at_i at_j meet.
        let p = picked_from taken calls i a at_i.0 in
        let q = picked_from taken calls j b at_j.0 in
        elim (h.apart p.place q.place a b x y (picked_apart taken calls i j a b apart p q) (p.there, at_i.1) (q.there, at_j.1) meet) [
          | inl freed ↦ inl (freed_picked p.place a p.there p.on x.cell b.end (made_in a.entry.command a.entry.reply x at_i.1) freed)
          | inr freed ↦ inr (freed_picked q.place b q.there q.on y.cell a.end (made_in b.entry.command b.entry.reply y at_j.1) freed)
        ];
    each = λ i call x at_i.
        let p = picked_from taken calls i call at_i.0 in
        let own = h.each p.place call x (p.there, at_i.1) in
        slice_accesses calls taken history slice x.cell x.address x.len own.0 own.1;
  }

pub slices_are_explained : SlicesAreExplained
slices_are_explained calls taken history slice lin =
    linearizable (picked taken calls) (slice_history calls taken history slice) (by_object calls taken history slice (explained calls history lin))
