-- Where the judge of an object has no configuration left at the end of an access, the access is the first wrong call.
-- The same holds of a `new` whose answer isn't fair, whose serial was given before, or whose range meets that of a live
-- object.
use Rattle.std.proofs.Common.{◌≡◌, ◌≢◌, ℕ, inl, inr, Bool, true, false, List, arith, refl, sym, subst, ◌∙◌, ap, Option, Some, None, option_map}
use Rattle.std.proofs.lemmas.Bool.Decides.{eqb_tells}
use Rattle.model_intervals.specs.Completions.{EndsBefore, EndsBy, HasCompletion, IsFirstWrong, picked}
use Rattle.model_intervals.specs.Intervals.{Call}
use Rattle.model_intervals.specs.Objects.{Object as AnObject, IsExplainedByObject, IsFairNew, IsMadeAt, Meet, object_made}
use Rattle.model_intervals.specs.OverlappingCalls.{IsAt, IsFree, IsHistory, cell_at}
use Rattle.model_intervals.proofs.ByObject.{explained}
use Rattle.model_intervals.proofs.LaterCalls.{fewer_ended}
use Rattle.model_intervals.proofs.Picked.{picked_from, picked_to, rank, rank_once}
use Rattle.history_object.specs.ObjectBytes.{effect, first_state}
use Rattle.history_object.specs.Following.{HasSome, IsJudgeOf, IsOpen}
use Rattle.history_object.specs.TimedCalls.{Timed}
use Rattle.history_object.specs.declared.access.Access.{Access as AnAccess}
use Rattle.history_object.proofs.SomeUnexplained.{left_if_explained}
use Rattle.history_overlaps.specs.Accesses.{is_access_of, timed_accesses}
use Rattle.history_overlaps.specs.Judges.{AccessJudge, IsFollowed, IsJudged, live_of}
use Rattle.history_overlaps.specs.LifeSteps.{HasEndedAt}
use Rattle.history_overlaps.specs.Lives.{Lives}
use Rattle.history_overlaps.specs.Queues.{HasEnded, Queue, WaitsAt, key_of, object_of}
use Rattle.history_overlaps.specs.Timelines.{Holds, StopsWaiting}
use Rattle.history_overlaps.specs.declared.life.Life.{Life}
use Rattle.history_overlaps.specs.declared.objects.NewObject.{NewObject}
use Rattle.history_overlaps.specs.declared.pending.Pending.{Pending}
use Rattle.history_overlaps.proofs.BegunSteps.{free_is_no_new}
use Rattle.history_overlaps.proofs.CallPlaces.{at_same}
use Rattle.history_overlaps.proofs.Completed.{completed}
use Rattle.history_overlaps.proofs.EndOrders.{ended_earlier, last, up_to_ended}
use Rattle.history_overlaps.proofs.Follows.{timed_at}
use Rattle.history_overlaps.proofs.LivesEnd.{made_at_cell, made_by_new}
use Rattle.history_overlaps.proofs.LivesWrong.{all_at, maker_by_new}
use Rattle.history_overlaps.proofs.PickedAccesses.{explained_picked}
use Rattle.history_overlaps.proofs.PickedHistory.{ended_before, picked_history}
use Rattle.history_overlaps.proofs.QueueSteps.{ended_on, it_ended, it_waited, waited_too}

module _ (calls : List Call) (waits waits' : ℕ → Option Pending) (key : ℕ) (pending : Pending) (stop : StopsWaiting waits waits' key pending) (queue : Queue calls waits)
    (history : IsHistory calls) where
  -- the place of the call that ends
  abbrev place : ℕ
  place = (last calls waits waits' key pending stop queue).place

  abbrev this : Call
  this = (last calls waits waits' key pending stop queue).call

  there : IsAt calls place this
  there = (last calls waits waits' key pending stop queue).there

  not_yet : HasEnded calls waits place → ⊥
  not_yet = it_waited calls waits waits' key pending queue stop.was stop.gone stop.others

  -- ---- a completion up to this call

  module _ (completion : HasCompletion calls (EndsBy calls place)) where
    on : (i : ℕ) → HasEnded calls waits' i → completion.taken i ≡ true
    on i over = completion.all_ended i (up_to_ended calls waits waits' key pending stop queue i over)

    on_before : (i : ℕ) → HasEnded calls waits i → completion.taken i ≡ true
    on_before i over = on i (ended_on calls waits waits' key pending queue stop.was stop.gone stop.others i over)

    this_on : completion.taken place ≡ true
    this_on = on place (it_ended calls waits waits' key pending queue stop.was stop.gone stop.others)

    by_object : IsExplainedByObject (picked completion.taken calls)
    by_object = explained (picked completion.taken calls)
        (picked_history calls waits queue history completion.taken on_before) completion.explained

    this_picked : IsAt (picked completion.taken calls) (rank completion.taken place) this
    this_picked = picked_to completion.taken calls place this there this_on

    made_picked : (i : ℕ) (a : Call) (x : AnObject) → HasEnded calls waits i → IsMadeAt calls i a x → IsMadeAt (picked completion.taken calls) (rank completion.taken i) a x
    made_picked i a x over made = (picked_to completion.taken calls i a made.0 (on_before i over), made.1)

    -- a call that has ended is another one
    apart_from : (i : ℕ) → HasEnded calls waits i → rank completion.taken i ≢ rank completion.taken place
    apart_from i over same = not_yet (subst (λ (n : ℕ). HasEnded calls waits n) (rank_once completion.taken i place (on_before i over) this_on same) over)

  -- ---- the end of an access

  module _ (live : ℕ → Option AnObject) (serials : ℕ → Type 0) (living : Lives calls (HasEnded calls waits) live serials) where
    -- the judge of an object has no configuration left
    pub none_completes : (cell : ℕ) (object : NewObject) (judge : AccessJudge) → live cell ≡ Some (object_of object)
        → IsJudgeOf effect (first_state object.len) (timed_accesses object.cell object.address calls) judge
        → (HasSome effect judge → ⊥)
        → ((i : ℕ) (a : Call) → IsAt calls i a → is_access_of object.cell a ≡ true → (IsOpen judge i → ⊥) → HasEnded calls waits' i)
        → HasCompletion calls (EndsBy calls place) → ⊥
    none_completes cell object judge alive follows gone over completion =
        let m = (living.live_is cell (object_of object) alive).2 in
        let accesses = (by_object completion).each (rank completion.taken m.place) m.call (object_of object) (made_picked completion m.place m.call (object_of object) m.over m.there) in
        let timed = explained_picked completion.taken completion.taken object.address object.cell object.len calls
        (λ i a is access. ap (λ (n : ℕ). completion.taken n) (omega arith)) accesses.0 accesses.1 in
        gone (left_if_explained effect (first_state object.len) (timed_accesses object.cell object.address calls) judge follows completion.taken
        (λ k call at closed.
        let t = timed_at object.cell object.address calls k call at in
        let ended = over t.0 t.1 t.2 t.3 (subst (λ (x : Timed AnAccess). IsOpen judge x.number → ⊥) t.4 closed) in
        subst (λ (x : Timed AnAccess). completion.taken x.number ≡ true) (sym t.4) (on completion t.0 ended)) timed.0 timed.1)

    -- ---- the end of a `new`

    pub unfair_completes_none : (IsFairNew this.entry.command this.entry.reply → ⊥) → HasCompletion calls (EndsBy calls place) → ⊥
    unfair_completes_none unfair completion =
        unfair (all_at (λ call. IsFairNew call.entry.command call.entry.reply) (picked completion.taken calls) (rank completion.taken place) this (by_object completion).fair
        (this_picked completion))

    module _ (y : AnObject) (makes : object_made this.entry.command this.entry.reply ≡ Some y) where
      pub serial_completes_none : serials y.serial → HasCompletion calls (EndsBy calls place) → ⊥
      serial_completes_none has completion =
          let m = living.of_serial y.serial has in
          (by_object completion).serials_once (rank completion.taken m.1.place) (rank completion.taken place) m.1.call this m.0 y (apart_from completion m.1.place m.1.over)
          (made_picked completion m.1.place m.1.call m.0 m.1.over m.1.there) (this_picked completion, makes) m.2

      -- no call frees the new object
      unfreed : (i : ℕ) (free : Call) → IsAt calls i free → IsFree free.entry.command → cell_at free ≡ y.cell → ⊥
      unfreed i free at frees names =
          let before = history.after_new i free at (free_is_no_new free.entry.command frees) in
          let over = ended_before calls waits queue i free at before.place before.call before.there before.ended in
          elim (eqb_tells before.place place) [
            | inl same ↦ not_yet (subst (λ (n : ℕ). HasEnded calls waits n) same.1 over)
            | inr apart ↦ history.own_cells before.place place before.call this apart.1 before.there there (maker_by_new before.call.entry.command before.call.entry.reply before.makes)
                (made_by_new calls place this y (there, makes)) (before.names ∙ names ∙ sym (made_at_cell calls place this y (there, makes)))
          ]

      pub range_completes_none : (cell : ℕ) (x : AnObject) → live cell ≡ Some x → Meet x y → HasCompletion calls (EndsBy calls place) → ⊥
      range_completes_none cell x alive meet completion =
          let l = living.live_is cell x alive in
          let m = l.2 in
          elim ((by_object completion).apart (rank completion.taken m.place) (rank completion.taken place) m.call this x y (apart_from completion m.place m.over)
          (made_picked completion m.place m.call x m.over m.there) (this_picked completion, makes) meet) [
            | inl freed ↦ let p = picked_from completion.taken calls freed.place freed.free freed.there in l.1 p.place freed.free p.there freed.frees (freed.names ∙ l.0)
            | inr freed ↦ let p = picked_from completion.taken calls freed.place freed.free freed.there in unfreed p.place freed.free p.there freed.frees freed.names
          ]

-- ---- what a timeline knows

module _ (calls : List Call) (waits waits' : ℕ → Option Pending) (key : ℕ) (pending : Pending) (stop : StopsWaiting waits waits' key pending)
    (lives : ℕ → Option Life) (starts : ℕ → Option ℕ) (cells serials freed : ℕ → Type 0) (h : Holds calls waits lives starts cells serials freed) where
  -- the call that ends
  abbrev pub ending_call : WaitsAt calls key pending
  ending_call = last calls waits waits' key pending stop h.queue

  -- it is the first wrong call, unless the calls up to it can be completed
  wrong_unless : (HasCompletion calls (EndsBy calls ending_call.place) → ⊥) → IsFirstWrong calls ending_call.place
  wrong_unless none = record {
    before = fewer_ended calls (HasEnded calls waits) (EndsBefore calls ending_call.place) (ended_earlier calls waits waits' key pending stop h.queue)
        (completed calls waits lives starts cells serials freed h);
    none = none;
  }

  -- an access to a live object, at whose end no configuration is left
  module _ (cell : ℕ) (life new : Life) (left : Bool) (alive : lives cell ≡ Some life) (ended : HasEndedAt life new ending_call.place left) where
    followed : IsFollowed calls waits life.object ended.first
    followed = subst (λ (j : Option AccessJudge). IsJudged calls waits life.object j) ended.is_first (h.judges.judged cell life alive)

    -- what isn't open at the judge has ended
    closed_ended : (i : ℕ) (a : Call) → IsAt calls i a → is_access_of life.object.cell a ≡ true → (IsOpen ended.judge i → ⊥) → HasEnded calls waits' i
    closed_ended i a is access closed = found (waits' (key_of a i)) refl
      where
        apart : key_of a i ≢ key → i ≢ ending_call.place
        apart two same = two (
            let one = at_same calls ending_call.place a ending_call.call (subst (λ (n : ℕ). IsAt calls n a) same is) ending_call.there in
            ap (λ (n : ℕ). key_of a n) same ∙ ap (λ (b : Call). key_of b ending_call.place) one ∙ sym ending_call.is_key)

        found : (o : Option Pending) → waits' (key_of a i) ≡ o → HasEnded calls waits' i
        found None none = (a, is, none)
        found (Some p) some = absurd (
            let too = waited_too calls waits waits' key pending h.queue stop.was stop.gone stop.others (key_of a i) p some in
            closed ((ended.is_open i).1 ((followed.is_open i a is access).1 (p, too.1), apart too.0)))

    pub access_is_first_wrong : left ≡ false → IsFirstWrong calls ending_call.place
    access_is_first_wrong none = wrong_unless (none_completes calls waits waits' key pending stop h.queue h.history (live_of lives) serials h.living
        cell life.object ended.judge (ap (λ (o : Option Life). option_map (λ l. object_of l.object) o) alive)
        (ended.follows (timed_accesses life.object.cell life.object.address calls) followed.follows)
        (λ some. let yes = ended.some.1 some in cc (yes, none)) closed_ended)

  -- a `new` whose answer isn't fair
  pub unfair_is_first_wrong : (IsFairNew ending_call.call.entry.command ending_call.call.entry.reply → ⊥) → IsFirstWrong calls ending_call.place
  unfair_is_first_wrong unfair =
      wrong_unless (unfair_completes_none calls waits waits' key pending stop h.queue h.history (live_of lives) serials h.living unfair)

  module _ (y : AnObject) (makes : object_made ending_call.call.entry.command ending_call.call.entry.reply ≡ Some y) where
    -- a `new` whose serial was given before
    pub serial_is_first_wrong : serials y.serial → IsFirstWrong calls ending_call.place
    serial_is_first_wrong has =
        wrong_unless (serial_completes_none calls waits waits' key pending stop h.queue h.history (live_of lives) serials h.living y makes has)

    -- a `new` whose range meets that of a live object
    pub range_is_first_wrong : (cell : ℕ) (x : AnObject) → live_of lives cell ≡ Some x → Meet x y → IsFirstWrong calls ending_call.place
    range_is_first_wrong cell x alive meet =
        wrong_unless (range_completes_none calls waits waits' key pending stop h.queue h.history (live_of lives) serials h.living y makes cell x alive meet)
