-- The end of a `new` that no history allows.
use Rattle.std.proofs.Common.{◌≡◌, ◌≢◌, ℕ, ◌<◌, ◌≤◌, inl, inr, List, ◌++◌, arith, sym, subst, ◌∙◌, Option, Some, slice_get}
use Rattle.std.specs.List.{All}
use Rattle.std.proofs.lemmas.Option.{get_or_from_slice_get}
use Rattle.std.proofs.lemmas.Bool.Decides.{eqb_tells}
use Rattle.model_intervals.specs.Intervals.{Call}
use Rattle.model_intervals.specs.Objects.{Object as NewObject, IsFairNew, IsMadeAt, Meet, object_made}
use Rattle.model_intervals.specs.OverlappingCalls.{IsAt, IsFree, IsNew, MakesOne}
use Rattle.model_words.specs.declared.commands.Command.{Command}
use Rattle.model_words.specs.declared.commands.Command.TheVariants.{New}
use Rattle.model_words.specs.declared.commands.Reply.{Reply}
use Rattle.history_overlaps.specs.Lives.{CannotBe, Lives}
use Rattle.history_overlaps.proofs.CallPlaces.{at_front, at_below, at_either, at_same}
use Rattle.history_overlaps.proofs.LivesBegin.{made_front}
use Rattle.history_overlaps.proofs.LivesEnd.{made_at_cell}

-- what holds of each element holds of one at a place
pub all_at : {X : Type 0} (P : X → Type 0) (xs : List X) (i : ℕ) (x : X) → All P xs → slice_get xs i ≡ Some x → P x
all_at P xs i x h is = subst P (get_or_from_slice_get xs i x x is) (h i x (at_below xs i x is))

-- what made an object is a `new`
pub maker_by_new : (command : Command) (reply : Reply) → MakesOne command reply → IsNew command
maker_by_new (New cell len word) reply makes = tt
maker_by_new command reply makes = absurd makes

module _ (calls : List Call) (ended : ℕ → Type 0) (live : ℕ → Option NewObject) (serials : ℕ → Type 0) (h : Lives calls ended live serials)
    (p : ℕ) (a : Call) (there : IsAt calls p a) (waits : ended p → ⊥) (is_new : IsNew a.entry.command) (moment : ℕ) where
  -- a place of one that has ended is another
  other_place : (i : ℕ) → ended i → i ≢ p
  other_place i over same = waits (subst ended same over)

  pub unfair : (IsFairNew a.entry.command a.entry.reply → ⊥) → CannotBe calls moment
  unfair not_fair more later history explained =
      not_fair (all_at (λ call. IsFairNew call.entry.command call.entry.reply) (calls ++ more) p a explained.fair (at_front calls more p a there))

  module _ (y : NewObject) (makes : object_made a.entry.command a.entry.reply ≡ Some y) where
    made : (more : List Call) → IsMadeAt (calls ++ more) p a y
    made more = (at_front calls more p a there, makes)

    pub serial_again : serials y.serial → CannotBe calls moment
    serial_again has more later history explained = let m = h.of_serial y.serial has in
        explained.serials_once m.1.place p m.1.call a m.0 y (other_place m.1.place m.1.over) (made_front calls more m.1.place m.1.call m.0 m.1.there) (made more) m.2

    -- a live object meets the new one: it is not freed by the end of the `new`, and the new one is not freed by the end
    -- of the other `new`
    pub overlap : (c : ℕ) (x : NewObject) → live c ≡ Some x → Meet x y → a.end < moment
        → ((i : ℕ) (b : Call) → ended i → IsAt calls i b → b.end ≤ a.end) → CannotBe calls moment
    overlap c x alive meet past order more later history explained =
        let l = h.live_is c x alive in let m = l.2 in
        elim (explained.apart m.place p m.call a x y (other_place m.place m.over) (made_front calls more m.place m.call x m.there) (made more) meet) [
          | inl freed ↦ elim (at_either calls more freed.place freed.free freed.there) [
            | inl old ↦ l.1 freed.place freed.free old freed.frees (freed.names ∙ l.0)
            | inr new ↦ let from = later new.0 freed.free new.2 in let begun = freed.begun in omega (arith, from, begun, past)
          ]
          | inr freed ↦
              let before = history.after_new freed.place freed.free freed.there (free_is_no_new freed.free.entry.command freed.frees) in
              let same : before.place ≡ p = elim (eqb_tells before.place p) [
                | inl same ↦ same.1
                | inr apart ↦ absurd (history.own_cells before.place p before.call a apart.1 before.there (made more).0
                    (maker_by_new before.call.entry.command before.call.entry.reply before.makes) is_new
                    (before.names ∙ freed.names ∙ sym (made_at_cell calls p a y (there, makes))))
              ] in
              let this = at_same (calls ++ more) p before.call a (subst (λ (q : ℕ). IsAt (calls ++ more) q before.call) same before.there) (made more).0 in
              let ended_before = subst (λ (call : Call). call.end < freed.free.begin) this before.ended in
              let begun = freed.begun in let late = order m.place m.call m.over m.there.0 in
              omega (arith, ended_before, begun, late)
        ]
      where
        free_is_no_new : (command : Command) → IsFree command → IsNew command → ⊥
        free_is_no_new (New cell len word) frees new = frees
        free_is_no_new command frees new = new
