-- As long as no flaw is found, the calls can be completed: some order explains the calls that have ended, with those
-- waiting calls that have had their effect.
use Rattle.std.proofs.Common.{◌≡◌, ℕ, ◌+◌, ◌⊎◌, inl, inr, Bool, true, false, ◌&&◌, ◌||◌, List, [], map, arith, refl, sym, subst, ◌∙◌, ap, Option, Some, None, slice_get, option_map}
use Rattle.std.specs.List.Sorted.{IsPermutation}
use Rattle.std.proofs.lemmas.List.Sorted.{IsPermutation-refl}
use Rattle.std.proofs.lemmas.Option.{slice_get-map}
use Rattle.model_words.specs.declared.commands.Command.{Command}
use Rattle.model_words.specs.declared.commands.Command.TheVariants.{New, Put, Get, Free, Addr}
use Rattle.model_words.specs.declared.commands.Reply.{Reply}
use Rattle.model_intervals.specs.Completions.{HasCompletion, picked}
use Rattle.model_intervals.specs.Intervals.{Call}
use Rattle.model_intervals.specs.Objects.{Object as AnObject, IsExplainedByObject, IsFairNew, IsFreedBy, IsMadeAt, is_access}
use Rattle.model_intervals.specs.OverlappingCalls.{IsAt, IsFree, IsHistory, IsNew, cell_at}
use Rattle.model_intervals.proofs.OneOrder.{linearizable}
use Rattle.model_intervals.proofs.Picked.{IsPicked, picked_apart, picked_from, picked_to, rank}
use Rattle.history_object.specs.declared.access.Access.{Access as AnAccess}
use Rattle.history_object.specs.ObjectBytes.{effect, first_state}
use Rattle.history_object.specs.Following.{IsOpen}
use Rattle.history_object.specs.TimedCalls.{ExplainsTimed, Timed}
use Rattle.history_object.specs.TimedLaws.{those_taken}
use Rattle.history_object.proofs.SomeExplained.{some_explained}
use Rattle.history_overlaps.specs.Accesses.{is_access_of, placed_from, timed_accesses, timed_of}
use Rattle.history_overlaps.specs.Judges.{AccessJudge, IsExplained, IsJudged, Judges, live_of}
use Rattle.history_overlaps.specs.Lives.{IsFreed, Lives}
use Rattle.history_overlaps.specs.Queues.{HasEnded, IsWaiting, Queue, key_of, object_of}
use Rattle.history_overlaps.specs.Timelines.{Holds}
use Rattle.history_overlaps.specs.declared.life.Life.{Life}
use Rattle.history_overlaps.specs.declared.objects.NewObject.{NewObject}
use Rattle.history_overlaps.specs.declared.pending.Pending.{Pending}
use Rattle.history_overlaps.proofs.BegunSteps.{all_places, new_or_not}
use Rattle.history_overlaps.proofs.Finish.{life_of}
use Rattle.history_overlaps.proofs.Follows.{access_timed}
use Rattle.history_overlaps.proofs.LivesEnd.{made_by_new}
use Rattle.history_overlaps.proofs.PickedAccesses.{all_accesses, picked_explained}
use Rattle.history_overlaps.proofs.PickedHistory.{picked_history}
use Rattle.history_overlaps.proofs.QueueSteps.{ended_is}
use Rattle.history_overlaps.proofs.StateAccess.{accesses_cell, waits_as_access}

-- ---- the accesses to one object

-- the accesses to an object that have had their effect: `takes` is true at their places. Some order explains them
record Choice (calls : List Call) (waits : ℕ → Option Pending) (object : NewObject) : Type 0 where
  pub takes : ℕ → Bool
  pub all_ended : (i : ℕ) (a : Call) → IsAt calls i a → is_access_of object.cell a ≡ true → HasEnded calls waits i → takes i ≡ true
  pub order : List (Timed AnAccess)
  pub explains : ExplainsTimed effect (first_state object.len) (those_taken takes (timed_accesses object.cell object.address calls)) order

-- those of a configuration of the judge
choice : (calls : List Call) (waits : ℕ → Option Pending) (object : NewObject) (judge : Option AccessJudge) → IsJudged calls waits object judge → Choice calls waits object
choice calls waits object None none = record {
  takes = λ n. true;
  all_ended = λ i a is access over. refl;
  order = [];
  explains = subst (λ xs. ExplainsTimed effect (first_state object.len) (those_taken (λ n. true) (map (timed_of object.address) xs)) []) (sym none) (record {
    same = IsPermutation-refl [];
    in_time = λ i j d before below. absurd (omega (arith, below));
    last = first_state object.len;
    answers = refl;
  });
}
choice calls waits object (Some judge) follows =
    let some = some_explained effect (first_state object.len) (timed_accesses object.cell object.address calls) judge follows.follows follows.some in record {
      takes = some.0;
      all_ended = λ i a is access over.
          let found = access_timed 0 object.cell calls i a is access in
          let there = slice_get-map (timed_of object.address) (placed_from 0 object.cell calls) found.0 ∙ ap (λ o. option_map (timed_of object.address) o) found.1 in
          let here : 0 + i ≡ i = omega arith in
          subst (λ (n : ℕ). some.0 n ≡ true) here (some.1 found.0 (timed_of object.address (record { place = 0 + i; call = a })) there
          (λ opened. let w = (follows.is_open i a is access).0 (subst (λ (n : ℕ). IsOpen judge n) here opened) in
          let none = ended_is calls waits i a over is in let waiting = w.1 in cc (none, waiting)));
      order = some.2;
      explains = some.3;
    }

-- ---- all calls

-- a call has ended
abbrev is_over : Option Pending → Bool
is_over None = true
is_over (Some pending) = false

-- a waiting call has had its effect, where `chosen` tells it of an access: a `free` has, and a `new` hasn't
abbrev has_had : Command → Bool → Bool
has_had (Free cell) chosen = true
has_had command chosen = is_access command && chosen

new_has_not : (command : Command) (chosen : Bool) → IsNew command → has_had command chosen ≡ false
new_has_not (New cell len word) chosen is_new = refl
new_has_not command chosen is_new = absurd is_new

free_has : (command : Command) (chosen : Bool) → IsFree command → has_had command chosen ≡ true
free_has (Free cell) chosen frees = refl
free_has command chosen frees = absurd frees

access_has : (command : Command) (chosen : Bool) → is_access command ≡ true → has_had command chosen ≡ chosen
access_has (Put cell off bytes) chosen access = refl
access_has (Get cell off len) chosen access = refl
access_has (Addr cell) chosen access = refl
access_has command chosen access = cc access

module _ (calls : List Call) (waits : ℕ → Option Pending) (lives : ℕ → Option Life) (serials : ℕ → Type 0) (queue : Queue calls waits) (history : IsHistory calls)
    (living : Lives calls (HasEnded calls waits) (live_of lives) serials) (judges : Judges calls waits lives) where
  -- the same for the cell of a live object
  record CellChoice (cell : ℕ) : Type 0 where
    pub takes : ℕ → Bool
    pub own : (life : Life) → lives cell ≡ Some life → (x : Choice calls waits life.object) × (x.takes ≡ takes)

  cell_choice : (cell : ℕ) → CellChoice cell
  cell_choice cell = found (lives cell) refl
    where
      found : (o : Option Life) → lives cell ≡ o → CellChoice cell
      found None none = record { takes = λ n. true; own = λ life is. absurd (cc (none, is)) }
      found (Some life) some =
          let x = choice calls waits life.object life.judge (judges.judged cell life some) in record {
            takes = x.takes;
            own = λ l is. let same : life ≡ l = cc (some, is) in subst (λ (k : Life). (y : Choice calls waits k.object) × (y.takes ≡ x.takes)) same (x, refl);
          }

  abbrev taken_at : Option Call → ℕ → Bool
  taken_at None i = true
  taken_at (Some a) i = is_over (waits (key_of a i)) || has_had a.entry.command ((cell_choice (cell_at a)).takes i)

  -- the calls that have had their effect
  abbrev taken : ℕ → Bool
  taken i = taken_at (slice_get calls i) i

  taken_there : (i : ℕ) (a : Call) → IsAt calls i a → taken i ≡ (is_over (waits (key_of a i)) || has_had a.entry.command ((cell_choice (cell_at a)).takes i))
  taken_there i a is = ap (λ (o : Option Call). taken_at o i) is

  all_ended : (i : ℕ) → HasEnded calls waits i → taken i ≡ true
  all_ended i over = taken_there i over.0 over.1 ∙ ap (λ (o : Option Pending). is_over o || has_had over.0.entry.command ((cell_choice (cell_at over.0)).takes i)) over.2

  -- either a call has ended, or it is taken if and only if it has had its effect
  ended_or_not : (i : ℕ) (a : Call) → IsAt calls i a → HasEnded calls waits i ⊎ (IsWaiting waits a i × (taken i ≡ has_had a.entry.command ((cell_choice (cell_at a)).takes i)))
  ended_or_not i a is = found (waits (key_of a i)) refl
    where
      found : (o : Option Pending) → waits (key_of a i) ≡ o
          → HasEnded calls waits i ⊎ (IsWaiting waits a i × (taken i ≡ has_had a.entry.command ((cell_choice (cell_at a)).takes i)))
      found None none = inl (a, is, none)
      found (Some p) some = inr (
        (p, some),
        taken_there i a is ∙ ap (λ (o : Option Pending). is_over o || has_had a.entry.command ((cell_choice (cell_at a)).takes i)) some,
      )

  -- a `new` that is taken has ended
  new_ended : (i : ℕ) (a : Call) → IsAt calls i a → taken i ≡ true → IsNew a.entry.command → HasEnded calls waits i
  new_ended i a is on is_new = elim (ended_or_not i a is) [
    | inl over ↦ over
    | inr waiting ↦ absurd (let not = waiting.1 ∙ new_has_not a.entry.command ((cell_choice (cell_at a)).takes i) is_new in cc (not, on))
  ]

  -- each `free` is taken
  free_taken : (i : ℕ) (a : Call) → IsAt calls i a → IsFree a.entry.command → taken i ≡ true
  free_taken i a is frees = elim (ended_or_not i a is) [
    | inl over ↦ all_ended i over
    | inr waiting ↦ waiting.1 ∙ free_has a.entry.command ((cell_choice (cell_at a)).takes i) frees
  ]

  -- an access to a live object is taken if and only if it is chosen
  access_taken : (cell : ℕ) (life : Life) → lives cell ≡ Some life → life.object.cell ≡ cell → (i : ℕ) (a : Call) → IsAt calls i a → is_access_of life.object.cell a ≡ true
      → taken i ≡ (cell_choice cell).takes i
  access_taken cell life alive in_cell i a is access =
      let of_cell = accesses_cell life.object.cell a access in
      let here : cell_at a ≡ cell = of_cell.1 ∙ in_cell in
      elim (ended_or_not i a is) [
        | inl over ↦
            let own = (cell_choice cell).own life alive in
            all_ended i over ∙ sym (own.0.all_ended i a is access over) ∙ ap (λ (f : ℕ → Bool). f i) own.1
        | inr waiting ↦ waiting.1 ∙ access_has a.entry.command ((cell_choice (cell_at a)).takes i) of_cell.0 ∙ ap (λ (c : ℕ). (cell_choice c).takes i) here
      ]

  -- ---- the picked calls

  taken_history : IsHistory (picked taken calls)
  taken_history = picked_history calls waits queue history taken all_ended

  -- what is picked and made an object has ended
  made_over : (k : ℕ) (a : Call) (x : AnObject) → IsMadeAt (picked taken calls) k a x → (p : IsPicked taken calls k a) × IsMadeAt calls p.place a x × HasEnded calls waits p.place
  made_over k a x made =
      let p = picked_from taken calls k a made.0 in (p, (p.there, made.1), new_ended p.place a p.there p.on (made_by_new calls p.place a x (p.there, made.1)))

  fair_other : (command : Command) (reply : Reply) → (IsNew command → ⊥) → IsFairNew command reply
  fair_other (New cell len word) reply other = absurd (other tt)
  fair_other command reply other = tt

  freed_picked : (cell moment : ℕ) → IsFreedBy calls cell moment → IsFreedBy (picked taken calls) cell moment
  freed_picked cell moment freed = record {
    place = rank taken freed.place;
    free = freed.free;
    there = picked_to taken calls freed.place freed.free freed.there (free_taken freed.place freed.free freed.there freed.frees);
    frees = freed.frees;
    names = freed.names;
    begun = freed.begun;
  }

  -- the accesses to a freed object have all ended
  freed_accesses : (cell : ℕ) → IsFreed calls cell → (i : ℕ) (a : Call) → IsAt calls i a → is_access_of cell a ≡ true → taken i ≡ true
  freed_accesses cell freed i a is access = elim (ended_or_not i a is) [
    | inl over ↦ all_ended i over
    | inr waiting ↦ absurd (
        let of_cell = accesses_cell cell a access in
        let pending = waits_as_access calls waits queue i a is of_cell.0 waiting.0 in
        let life = judges.access (key_of a i) (cell_at a) (waiting.0.1 ∙ ap (λ (p : Pending). Some p) pending) in
        let alive = ap (λ (o : Option Life). option_map (λ l. object_of l.object) o) life.1 in
        (living.live_is (cell_at a) (object_of life.0.object) alive).1 freed.place freed.free freed.there freed.frees (freed.names ∙ sym of_cell.1))
  ]

  freed_explained : (x : AnObject) → IsFreed calls x.cell → IsExplained calls x → IsExplained (picked taken calls) x
  freed_explained x freed explained = (
    explained.0,
    record {
      same = subst (λ xs. IsPermutation explained.0 xs) (sym (all_accesses taken x.cell calls (freed_accesses x.cell freed))) explained.1.same;
      in_time = explained.1.in_time;
      last = explained.1.last;
      answers = explained.1.answers;
    },
  )

  live_explained : (x : AnObject) → live_of lives x.cell ≡ Some x → IsExplained (picked taken calls) x
  live_explained x alive =
      let life = life_of lives x.cell x alive in
      let in_cell : life.0.object.cell ≡ x.cell = ap (λ (y : AnObject). y.cell) life.2 in
      let own = (cell_choice x.cell).own life.0 life.1 in
      let found = picked_explained own.0.takes taken life.0.object.address life.0.object.cell life.0.object.len calls
      (λ i a is access. access_taken x.cell life.0 life.1 in_cell i a is access
      ∙ sym (ap (λ (f : ℕ → Bool). f i) own.1) ∙ ap (λ (n : ℕ). own.0.takes n) (omega arith)) own.0.order own.0.explains in
      subst (λ (y : AnObject). IsExplained (picked taken calls) y) life.2 found

  taken_explained : IsExplainedByObject (picked taken calls)
  taken_explained = record {
    fair = all_places (λ call. IsFairNew call.entry.command call.entry.reply) (picked taken calls) (λ k a is.
        let p = picked_from taken calls k a is in elim (new_or_not a.entry.command) [
          | inl is_new ↦ living.fair p.place a (new_ended p.place a p.there p.on is_new) p.there
          | inr other ↦ fair_other a.entry.command a.entry.reply other
        ]);
    serials_once = λ i j a b x y apart made_x made_y.
        let p = made_over i a x made_x in let q = made_over j b y made_y in
        living.serials_once p.0.place q.0.place a b x y (picked_apart taken calls i j a b apart p.0 q.0) p.2 q.2 p.1 q.1;
    apart = λ i j a b x y apart made_x made_y meet.
        let p = made_over i a x made_x in let q = made_over j b y made_y in
        elim (living.apart p.0.place q.0.place a b x y (picked_apart taken calls i j a b apart p.0 q.0) p.2 q.2 p.1 q.1 meet) [
          | inl freed ↦ inl (freed_picked x.cell b.end freed)
          | inr freed ↦ inr (freed_picked y.cell a.end freed)
        ];
    each = λ i a x made.
        let p = made_over i a x made in
        elim (living.made_is p.0.place a x p.2 p.1) [
          | inl alive ↦ live_explained x alive
          | inr freed ↦ freed_explained x freed (judges.settled p.0.place a x p.2 p.1 freed)
        ];
  }

  pub some_completed : HasCompletion calls (HasEnded calls waits)
  some_completed = record { taken = taken; all_ended = all_ended; explained = linearizable (picked taken calls) taken_history taken_explained }

pub completed : (calls : List Call) (waits : ℕ → Option Pending) (lives : ℕ → Option Life) (starts : ℕ → Option ℕ) (cells serials freed : ℕ → Type 0)
    → Holds calls waits lives starts cells serials freed → HasCompletion calls (HasEnded calls waits)
completed calls waits lives starts cells serials freed h = some_completed calls waits lives serials h.queue h.history h.living h.judges
