-- Calls begin that break a rule of use.
use Rattle.std.proofs.Common.{◌≡◌, ◌≢◌, ℕ, ◌<◌, ◌≤◌, inl, inr, List, [], ◌∷◌, ◌++◌, length, arith, refl, sym, subst, ◌∙◌, Option, Some, None}
use Rattle.model_words.specs.declared.commands.Command.{Command}
use Rattle.model_words.specs.declared.commands.Command.TheVariants.{New}
use Rattle.model_words.specs.declared.commands.Reply.{Reply}
use Rattle.model_words.specs.declared.commands.Reply.TheVariants.{Object as Made}
use Rattle.model_intervals.specs.Intervals.{Call}
use Rattle.model_intervals.specs.Objects.{Object as NewObject, object_made}
use Rattle.model_intervals.specs.OverlappingCalls.{IsAt, IsFree, IsHistory, IsMadeBefore, IsNew, MakesOne, cell_at, cell_of}
use Rattle.history_overlaps.specs.Lives.{BeginFrom, IsFreed, IsNamed, Lives, NoneGoesOn}
use Rattle.history_overlaps.specs.Misuses.{IsBeforeNew, IsBehindFree, IsMisusedAt, IsOfUsedCell}
use Rattle.history_overlaps.specs.Queues.{HasEnded, IsWaiting, MayBegin, key_of}
use Rattle.history_overlaps.specs.declared.misuses.Misuse.{Misuse}
use Rattle.history_overlaps.specs.declared.misuses.Misuse.TheVariants.{CellAgain, NotAfterNew, NotBeforeFree}
use Rattle.history_overlaps.specs.declared.pending.Pending.{Pending}
use Rattle.history_overlaps.proofs.CallPlaces.{at_front, at_below, at_either, at_end, at_one}
use Rattle.history_overlaps.proofs.LivesWrong.{all_at}

-- no history has calls of which one breaks a rule, where the further calls begin no earlier than these
pub none_goes_on : (calls : List Call) (number : ℕ) (misuse : Misuse) (moment : ℕ) → IsMisusedAt calls number misuse
    → ((i : ℕ) (a : Call) → IsAt calls i a → a.begin ≤ moment) → NoneGoesOn calls moment
none_goes_on calls number CellAgain moment used begun more later history =
    history.own_cells used.place number used.other used.call used.apart (at_front calls more used.place used.other used.at) (at_front calls more number used.call used.there)
    used.other_is_new used.is_new used.same
none_goes_on calls number NotBeforeFree moment behind begun more later history =
    behind.begun (history.before_free number behind.place behind.call behind.free behind.apart (at_front calls more number behind.call behind.there)
    (at_front calls more behind.place behind.free behind.at) behind.frees behind.same)
none_goes_on calls number NotAfterNew moment before begun more later history =
    let made = history.after_new number before.call (at_front calls more number before.call before.there) before.no_new in
    elim (at_either calls more made.place made.call made.there) [
      | inl front ↦ before.none (record { place = made.place; call = made.call; there = front; makes = made.makes; names = made.names; ended = made.ended })
      | inr back ↦
          let from = later back.0 made.call back.2 in
          let takes = all_at (λ b. b.begin ≤ b.end) (calls ++ more) made.place made.call history.take_time made.there in
          let first = begun number before.call before.there in
          let early = made.ended in omega (arith, from, takes, first, early)
    ]

-- the object that a call made
made_one : (command : Command) (reply : Reply) → MakesOne command reply → (x : NewObject) × (object_made command reply ≡ Some x) × (x.cell ≡ cell_of command)
made_one (New cell len word) (Made serial address) makes = (record { cell = cell; len = len; serial = serial; address = address }, refl, refl)
made_one command reply makes = absurd makes

module _ (calls : List Call) (call : Call) (waits : ℕ → Option Pending) (may : MayBegin calls waits call) where
  -- a call that ended before this one begins has ended
  ended_first : (i : ℕ) (a : Call) → IsAt (calls ++ call ∷ []) i a → a.end < call.begin → IsAt calls i a × HasEnded calls waits i
  ended_first i a is early = elim (at_one calls call i a is) [
    | inl old ↦ (old, over old (waits (key_of a i)) refl)
    | inr new ↦ absurd (let early' = subst (λ (b : Call). b.end < call.begin) (sym new.1) early in let takes = may.takes_time in omega (arith, early', takes))
  ]
    where
      over : IsAt calls i a → (w : Option Pending) → waits (key_of a i) ≡ w → HasEnded calls waits i
      over old None none = (a, old, none)
      over old (Some pending) some = absurd (let late = may.within i a old (pending, some) in omega (arith, late, early))

  -- on no live object, and on none that was freed
  pub before_new : (live : ℕ → Option NewObject) (serials : ℕ → Type 0) → Lives calls (HasEnded calls waits) live serials
      → (IsNew call.entry.command → ⊥) → live (cell_at call) ≡ None → (IsFreed calls (cell_at call) → ⊥) → IsBeforeNew (calls ++ call ∷ []) (length calls)
  before_new live serials h no_new none unfreed = record {
    call = call;
    there = at_end calls call;
    no_new = no_new;
    none = λ before.
        let old = ended_first before.place before.call before.there before.ended in
        let made = made_one before.call.entry.command before.call.entry.reply before.makes in
        let in_cell : made.0.cell ≡ cell_at call = made.2 ∙ before.names in
        elim (h.made_is before.place before.call made.0 old.1 (old.0, made.1)) [
          | inl alive ↦ let gone = subst (λ (c : ℕ). live c ≡ None) (sym in_cell) none in cc (alive, gone)
          | inr freed ↦ unfreed (subst (λ (c : ℕ). IsFreed calls c) in_cell freed)
        ];
  }

  -- on an object that was freed
  pub behind_free : IsFreed calls (cell_at call) → IsBehindFree (calls ++ call ∷ []) (length calls)
  behind_free freed = record {
    call = call;
    there = at_end calls call;
    place = freed.place;
    free = freed.free;
    at = at_front calls (call ∷ []) freed.place freed.free freed.there;
    frees = freed.frees;
    apart = λ same. let below = at_below calls freed.place freed.free freed.there in omega (arith, same, below);
    same = sym freed.names;
    begun = λ early. let last = may.last freed.place freed.free freed.there in let takes = may.takes_time in omega (arith, early, last, takes);
  }

  -- a `new` of a cell that another `new` has
  pub used_cell : IsNew call.entry.command → IsNamed calls (cell_at call) → IsOfUsedCell (calls ++ call ∷ []) (length calls)
  used_cell is_new named = record {
    call = call;
    there = at_end calls call;
    is_new = is_new;
    place = named.place;
    other = named.call;
    at = at_front calls (call ∷ []) named.place named.call named.there;
    other_is_new = named.is_new;
    apart = λ same. let below = at_below calls named.place named.call named.there in omega (arith, same, below);
    same = named.names;
  }

  -- a `free` while a call on the object waits
  pub not_idle : IsFree call.entry.command → (i : ℕ) (a : Call) → IsAt calls i a → IsWaiting waits a i → cell_at a ≡ cell_at call → IsBehindFree (calls ++ call ∷ []) i
  not_idle frees i a is w same = record {
    call = a;
    there = at_front calls (call ∷ []) i a is;
    place = length calls;
    free = call;
    at = at_end calls call;
    frees = frees;
    apart = λ e. let below = at_below calls i a is in omega (arith, e, below);
    same = same;
    begun = λ early. let late = may.within i a is w in omega (arith, early, late);
  }
