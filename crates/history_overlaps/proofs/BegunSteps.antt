-- Calls begin: what a history requires of them.
use Rattle.std.proofs.Common.{◌≡◌, ◌≢◌, ℕ, ◌<◌, ◌≤◌, ◌⊎◌, inl, inr, List, [], ◌∷◌, ◌++◌, refl, sym, subst, ◌∙◌, Option, Some, get_or, slice_get}
use Rattle.std.specs.List.{All}
use Rattle.std.proofs.lemmas.Bool.Decides.{eqb_tells}
use Rattle.std.proofs.lemmas.Option.{slice_get-get_or}
use Rattle.model_history.specs.Recorded.{many_cells}
use Rattle.model_words.specs.declared.commands.Command.{Command}
use Rattle.model_words.specs.declared.commands.Command.TheVariants.{New, Free}
use Rattle.model_words.specs.declared.commands.Reply.{Reply}
use Rattle.model_words.specs.declared.commands.Reply.TheVariants.{Object as Made}
use Rattle.model_intervals.specs.Intervals.{Call}
use Rattle.model_intervals.specs.Objects.{Object as NewObject, object_made}
use Rattle.model_intervals.specs.OverlappingCalls.{HasEffect, IsAt, IsFree, IsHistory, IsMadeBefore, IsNew, MakesOne, cell_at}
use Rattle.history_overlaps.specs.Lives.{IsMade, NoneFrees}
use Rattle.history_overlaps.specs.Queues.{HasEnded, MayBegin}
use Rattle.history_overlaps.specs.declared.pending.Pending.{Pending}
use Rattle.history_overlaps.proofs.CallPlaces.{at_front, at_one}
use Rattle.history_overlaps.proofs.LivesEnd.{made_at_cell, made_by_new}
use Rattle.history_overlaps.proofs.LivesWrong.{all_at, maker_by_new}

pub all_places : {X : Type 0} (P : X → Type 0) (xs : List X) → ((i : ℕ) (x : X) → slice_get xs i ≡ Some x → P x) → All P xs
all_places P xs h k d below = h k (get_or xs k d) (slice_get-get_or xs k d below)

-- one more of which the same holds
all_one : {X : Type 0} (P : X → Type 0) (xs : List X) (x : X) → All P xs → P x → All P (xs ++ x ∷ [])
all_one P xs x h this = all_places P (xs ++ x ∷ []) (λ i y is. elim (at_one xs x i y is) [
  | inl old ↦ all_at P xs i y h old
  | inr new ↦ subst P new.1 this
])

pub free_is_no_new : (command : Command) → IsFree command → IsNew command → ⊥
free_is_no_new (New cell len word) frees new = frees
free_is_no_new command frees new = new

object_is_made : (command : Command) (reply : Reply) (x : NewObject) → object_made command reply ≡ Some x → MakesOne command reply
object_is_made (New cell len word) (Made serial address) x is = tt
object_is_made command reply x is = absurd (cc is)

pub made_before_front : (calls more : List Call) (c m : ℕ) → IsMadeBefore calls c m → IsMadeBefore (calls ++ more) c m
made_before_front calls more c m h = record { place = h.place; call = h.call; there = at_front calls more h.place h.call h.there; makes = h.makes; names = h.names; ended = h.ended }

pub new_or_not : (command : Command) → IsNew command ⊎ (IsNew command → ⊥)
new_or_not (New cell len word) = inl tt
new_or_not command = inr (λ is_new. is_new)

free_or_not : (command : Command) → IsFree command ⊎ (IsFree command → ⊥)
free_or_not (Free cell) = inl tt
free_or_not command = inr (λ frees. frees)

module _ (calls : List Call) (call : Call) (waits : ℕ → Option Pending) (h : IsHistory calls) (may : MayBegin calls waits call) where
  module _ (own : (i : ℕ) (a : Call) → IsAt calls i a → IsNew a.entry.command → IsNew call.entry.command → cell_at a ≢ cell_at call)
      (after_new : (IsNew call.entry.command → ⊥) → IsMadeBefore (calls ++ call ∷ []) (cell_at call) call.begin)
      (behind_free : (j : ℕ) (free : Call) → IsAt calls j free → IsFree free.entry.command → cell_at call ≡ cell_at free → ⊥)
      (free_behind : (i : ℕ) (a : Call) → IsAt calls i a → IsFree call.entry.command → cell_at a ≡ cell_at call → a.end < call.begin) where
    begins : IsHistory (calls ++ call ∷ [])
    begins = record {
      take_time = all_one (λ a. a.begin ≤ a.end) calls call h.take_time may.takes_time;
      have_effects = all_one (λ a. HasEffect a.entry.command a.entry.reply) calls call h.have_effects may.has_effect;
      have_cells = all_one (λ a. cell_at a < many_cells) calls call h.have_cells may.has_cell;
      own_cells = λ i j a b apart at_i at_j new_i new_j same. elim (at_one calls call i a at_i) [
        | inl old_i ↦ elim (at_one calls call j b at_j) [
          | inl old_j ↦ h.own_cells i j a b apart old_i old_j new_i new_j same
          | inr new_at ↦ own i a old_i new_i (subst (λ (c : Call). IsNew c.entry.command) (sym new_at.1) new_j)
              (same ∙ sym (subst (λ (c : Call). cell_at call ≡ cell_at c) new_at.1 refl))
        ]
        | inr new_at ↦ elim (at_one calls call j b at_j) [
          | inl old_j ↦ own j b old_j new_j (subst (λ (c : Call). IsNew c.entry.command) (sym new_at.1) new_i)
              (sym same ∙ sym (subst (λ (c : Call). cell_at call ≡ cell_at c) new_at.1 refl))
          | inr other ↦ apart (new_at.0 ∙ sym other.0)
        ]
      ];
      after_new = λ i a is other. elim (at_one calls call i a is) [
        | inl old ↦ made_before_front calls (call ∷ []) (cell_at a) a.begin (h.after_new i a old other)
        | inr new ↦ subst (λ (b : Call). IsMadeBefore (calls ++ call ∷ []) (cell_at b) b.begin) new.1
            (after_new (subst (λ (b : Call). IsNew b.entry.command → ⊥) (sym new.1) other))
      ];
      before_free = λ i j a free apart at_i at_j frees same. elim (at_one calls call i a at_i) [
        | inl old_i ↦ elim (at_one calls call j free at_j) [
          | inl old_j ↦ h.before_free i j a free apart old_i old_j frees same
          | inr new_j ↦ subst (λ (b : Call). a.end < b.begin) new_j.1
              (free_behind i a old_i (subst (λ (b : Call). IsFree b.entry.command) (sym new_j.1) frees) (subst (λ (b : Call). cell_at a ≡ cell_at b) (sym new_j.1) same))
        ]
        | inr new_i ↦ elim (at_one calls call j free at_j) [
          | inl old_j ↦ absurd (behind_free j free old_j frees (subst (λ (b : Call). cell_at b ≡ cell_at free) (sym new_i.1) same))
          | inr new_j ↦ absurd (apart (new_i.0 ∙ sym new_j.0))
        ]
      ];
    }

  -- a `new` of a cell that no other `new` has
  pub new_begun : IsNew call.entry.command → ((i : ℕ) (a : Call) → IsAt calls i a → IsNew a.entry.command → cell_at a ≢ cell_at call) → IsHistory (calls ++ call ∷ [])
  new_begun is_new own = begins (λ i a at_i new_i new_here. own i a at_i new_i) (λ other. absurd (other is_new))
      (λ j free at_j frees same.
      let made = h.after_new j free at_j (free_is_no_new free.entry.command frees) in
      own made.place made.call made.there (maker_by_new made.call.entry.command made.call.entry.reply made.makes) (made.names ∙ sym same))
      (λ i a at_i frees same. absurd (free_is_no_new call.entry.command frees is_new))

  -- a call on a live object
  module _ (c : ℕ) (names : cell_at call ≡ c) (x : NewObject) (in_cell : x.cell ≡ c) (unfreed : NoneFrees calls c) (m : IsMade calls (HasEnded calls waits) x)
      (no_new : IsNew call.entry.command → ⊥) where
    made_before : IsMadeBefore (calls ++ call ∷ []) (cell_at call) call.begin
    made_before = record {
      place = m.place;
      call = m.call;
      there = at_front calls (call ∷ []) m.place m.call m.there.0;
      makes = object_is_made m.call.entry.command m.call.entry.reply x m.there.1;
      names = made_at_cell calls m.place m.call x m.there ∙ in_cell ∙ sym names;
      ended = may.behind m.place m.call m.over m.there.0;
    }

    pub access_begun : (IsFree call.entry.command → ⊥) → IsHistory (calls ++ call ∷ [])
    access_begun no_free = begins (λ i a at_i new_i new_here. absurd (no_new new_here)) (λ other. made_before)
        (λ j free at_j frees same. unfreed j free at_j frees (sym same ∙ names)) (λ i a at_i frees same. absurd (no_free frees))

    -- the `new` of the object has ended
    new_ended : (i : ℕ) (a : Call) → IsAt calls i a → IsNew a.entry.command → cell_at a ≡ c → HasEnded calls waits i
    new_ended i a is is_new same = elim (eqb_tells m.place i) [
      | inl one ↦ subst (λ (q : ℕ). HasEnded calls waits q) one.1 m.over
      | inr two ↦ absurd (h.own_cells m.place i m.call a two.1 m.there.0 is (made_by_new calls m.place m.call x m.there) is_new
          (made_at_cell calls m.place m.call x m.there ∙ in_cell ∙ sym same))
    ]

    pub free_begun : ((i : ℕ) (a : Call) → IsAt calls i a → (IsNew a.entry.command → ⊥) → (IsFree a.entry.command → ⊥) → cell_at a ≡ c → HasEnded calls waits i)
        → IsHistory (calls ++ call ∷ [])
    free_begun idle = begins (λ i a at_i new_i new_here. absurd (no_new new_here)) (λ other. made_before)
        (λ j free at_j frees same. unfreed j free at_j frees (sym same ∙ names)) (λ i a at_i frees same. may.behind i a (over i a at_i (same ∙ names)) at_i)
      where
        over : (i : ℕ) (a : Call) → IsAt calls i a → cell_at a ≡ c → HasEnded calls waits i
        over i a is same = elim (new_or_not a.entry.command) [
          | inl is_new ↦ new_ended i a is is_new same
          | inr no_new ↦ elim (free_or_not a.entry.command) [
            | inl frees ↦ absurd (unfreed i a is frees same)
            | inr no_free ↦ idle i a is no_new no_free same
          ]
        ]
