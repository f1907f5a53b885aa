-- A call begins: what the parts of a timeline know.
use Rattle.std.proofs.Common.{◌≡◌, ◌↔◌, ℕ, ◌⊎◌, inl, inr, false, List, [], ◌∷◌, ◌++◌, length, refl, sym, subst, Option}
use Rattle.model_words.specs.declared.commands.Command.{Command}
use Rattle.model_words.specs.declared.commands.Command.TheVariants.{New}
use Rattle.model_intervals.specs.Intervals.{Call}
use Rattle.model_intervals.specs.Objects.{Object as AnObject, is_access}
use Rattle.model_intervals.specs.OverlappingCalls.{IsAt, IsFree, IsNew, cell_at}
use Rattle.history_overlaps.specs.Judges.{live_of}
use Rattle.history_overlaps.specs.declared.life.Life.{Life}
use Rattle.history_overlaps.specs.Lives.{IsFreed, IsNamed, Lives}
use Rattle.history_overlaps.specs.Queues.{HasEnded, MayBegin, Suits}
use Rattle.history_overlaps.specs.Timelines.{Holds, StartsWaiting}
use Rattle.history_overlaps.specs.declared.pending.Pending.{Pending}
use Rattle.history_overlaps.specs.declared.pending.Pending.TheVariants.{Access}
use Rattle.history_overlaps.proofs.BegunSteps.{new_begun}
use Rattle.history_overlaps.proofs.CallPlaces.{at_end, at_front, at_one}
use Rattle.history_overlaps.proofs.JudgesBegin.{other_begins}
use Rattle.history_overlaps.proofs.LivesBegin.{another_begins, freed_front, made_front}
use Rattle.history_overlaps.proofs.LivesEnd.{is_made_later}
use Rattle.history_overlaps.proofs.QueueSteps.{ended_before, ended_below, ended_still, queue_begins}

-- the same of calls that have ended as much
pub lives_same : (calls : List Call) (ended ended' : ℕ → Type 0) (live : ℕ → Option AnObject) (serials : ℕ → Type 0)
    → ((i : ℕ) → ended i → ended' i) → ((i : ℕ) → ended' i → ended i) → Lives calls ended live serials → Lives calls ended' live serials
lives_same calls ended ended' live serials to from h = record {
  fair = λ i a over. h.fair i a (from i over);
  has_serial = λ i a x over. h.has_serial i a x (from i over);
  of_serial = λ s has. let m = h.of_serial s has in (m.0, is_made_later calls ended ended' m.0 to m.1, m.2);
  serials_once = λ i j a b x y apart over_i over_j. h.serials_once i j a b x y apart (from i over_i) (from j over_j);
  apart = λ i j a b x y apart over_i over_j. h.apart i j a b x y apart (from i over_i) (from j over_j);
  live_is = λ c x is. let l = h.live_is c x is in (l.0, l.1, is_made_later calls ended ended' x to l.2);
  made_is = λ i a x over. h.made_is i a x (from i over);
}

-- ---- the cells of `new`s, and the freed objects

pub named_front : (calls : List Call) (call : Call) (c : ℕ) → IsNamed calls c → IsNamed (calls ++ call ∷ []) c
named_front calls call c n = record { place = n.place; call = n.call; there = at_front calls (call ∷ []) n.place n.call n.there; is_new = n.is_new; names = n.names }

-- the cells where a call begins that is no `new`
pub cells_stay : (calls : List Call) (call : Call) (cells : ℕ → Type 0) → (IsNew call.entry.command → ⊥)
    → ((i : ℕ) (a : Call) → IsAt calls i a → IsNew a.entry.command → cells (cell_at a))
    → (i : ℕ) (a : Call) → IsAt (calls ++ call ∷ []) i a → IsNew a.entry.command → cells (cell_at a)
cells_stay calls call cells no_new has i a is is_new = elim (at_one calls call i a is) [
  | inl old ↦ has i a old is_new
  | inr new ↦ absurd (no_new (subst (λ (b : Call). IsNew b.entry.command) (sym new.1) is_new))
]

freed_old : (calls : List Call) (call : Call) (c : ℕ) → (IsFree call.entry.command → ⊥) → IsFreed (calls ++ call ∷ []) c → IsFreed calls c
freed_old calls call c no_free freed = elim (at_one calls call freed.place freed.free freed.there) [
  | inl old ↦ record { place = freed.place; free = freed.free; there = old; frees = freed.frees; names = freed.names }
  | inr new ↦ absurd (no_free (subst (λ (q : Call). IsFree q.entry.command) (sym new.1) freed.frees))
]

-- the freed objects where a call begins that is no `free`
pub freed_stays : (calls : List Call) (call : Call) (freed : ℕ → Type 0) → (IsFree call.entry.command → ⊥) → ((c : ℕ) → freed c ↔ IsFreed calls c)
    → (c : ℕ) → freed c ↔ IsFreed (calls ++ call ∷ []) c
freed_stays calls call freed no_free is c = (λ f. freed_front calls (call ∷ []) c ((is c).0 f), λ f. (is c).1 (freed_old calls call c no_free f))

module _ (calls : List Call) (call : Call) (waits waits' : ℕ → Option Pending) (pending : Pending) (starting : StartsWaiting calls call waits waits' pending)
    (may : MayBegin calls waits call) where
  module _ (lives : ℕ → Option Life) (starts : ℕ → Option ℕ) (cells serials freed : ℕ → Type 0) (h : Holds calls waits lives starts cells serials freed)
      (suits : Suits call (length calls) pending) where
    pub to : (i : ℕ) → HasEnded calls waits i → HasEnded (calls ++ call ∷ []) waits' i
    to = ended_still calls call waits waits' pending h.queue may starting.now starting.others

    pub from : (i : ℕ) → HasEnded (calls ++ call ∷ []) waits' i → HasEnded calls waits i
    from = ended_before calls call waits waits' pending h.queue may starting.now starting.others

    -- a `new` of a cell that no other `new` has begins
    pub new_starts : (cells' : ℕ → Type 0) → IsNew call.entry.command → ((c : ℕ) → pending ≡ Access c → ⊥) → (cells (cell_at call) → ⊥)
        → ((c : ℕ) → cells' c ↔ ((c ≡ cell_at call) ⊎ cells c)) → Holds (calls ++ call ∷ []) waits' lives starts cells' serials freed
    new_starts cells' is_new no_access unused more = record {
      queue = queue_begins calls call waits waits' pending h.queue may starting.now starting.others suits;
      history = new_begun calls call waits h.history may is_new (λ i a at_i new_i same. unused (subst (λ (c : ℕ). cells c) same (h.has_cell i a at_i new_i)));
      living = lives_same (calls ++ call ∷ []) (HasEnded calls waits) (HasEnded (calls ++ call ∷ []) waits') (live_of lives) serials to from
          (another_begins calls call (HasEnded calls waits) (ended_below calls waits) (live_of lives) serials h.living no_free);
      judges = other_begins calls call waits waits' pending h.queue may starting.now starting.others lives lives h.judges (new_is_no_access call.entry.command is_new)
          (λ c life is. is)
          (λ i a x over made freed. h.judges.settled i a x over made (freed_old calls call x.cell no_free freed))
          h.judges.access no_access;
      started = h.started;
      starts_of = h.starts_of;
      numbered = λ c life is. let m = h.numbered c life is in (m.0, made_front calls (call ∷ []) life.object.number m.0 _ m.1);
      has_cell = λ i a is new_i. elim (at_one calls call i a is) [
        | inl old ↦ (more (cell_at a)).1 (inr (h.has_cell i a old new_i))
        | inr new ↦ (more (cell_at a)).1 (inl (sym (subst (λ (b : Call). cell_at call ≡ cell_at b) new.1 refl)))
      ];
      of_cell = λ c has. elim ((more c).0 has) [
        | inl same ↦ record { place = length calls; call = call; there = at_end calls call; is_new = is_new; names = sym same }
        | inr old ↦ named_front calls call c (h.of_cell c old)
      ];
      freed_is = freed_stays calls call freed no_free h.freed_is;
    }
      where
        new_is_no_free : (command : Command) → IsNew command → IsFree command → ⊥
        new_is_no_free (New cell len word) is_new frees = frees
        new_is_no_free command is_new frees = is_new

        no_free : IsFree call.entry.command → ⊥
        no_free = new_is_no_free call.entry.command is_new

        new_is_no_access : (command : Command) → IsNew command → is_access command ≡ false
        new_is_no_access (New cell len word) is_new = refl
        new_is_no_access command is_new = absurd is_new
