-- Where the judge of an object stops, the timeline's calls show why.
use Rattle.std.proofs.Common.{◌≡◌, ◌↔◌, ℕ, ◌%◌, inl, inr, true, List, arith, refl, sym, subst, ◌∙◌, ap, Option, Some, None, option_map}
use Rattle.model_memory.specs.Plain.{Entry}
use Rattle.model_intervals.specs.Completions.{EndsBefore, HasCompletion}
use Rattle.model_intervals.specs.Intervals.{Call}
use Rattle.model_intervals.specs.Objects.{is_access}
use Rattle.model_intervals.specs.OverlappingCalls.{IsAt, cell_at, cell_of}
use Rattle.model_intervals.proofs.LaterCalls.{fewer_ended}
use Rattle.history_number_set.specs.Ranges.{Has}
use Rattle.history_object.specs.declared.faults.JudgeFault.{JudgeFault}
use Rattle.history_object.specs.declared.faults.JudgeFault.TheVariants.{TooMany, TooManyPending, Memory}
use Rattle.history_object.specs.Following.{IsFull}
use Rattle.history_overlaps.specs.Begins.{IsStray}
use Rattle.history_overlaps.specs.Ends.{AreEnded, IsFirstBefore}
use Rattle.history_overlaps.specs.Judges.{AccessJudge, IsFollowed, IsJudged}
use Rattle.history_overlaps.specs.LifeSteps.{IsFirst}
use Rattle.history_overlaps.specs.Queues.{HasEnded, IsWaiting, MayBegin, WaitsAt, key_of, object_of}
use Rattle.history_overlaps.specs.Standing.{StandsWith, lives_of, starts_of, waits_of}
use Rattle.history_overlaps.specs.Stops.{CannotBegin, CannotBeginIn, CannotEnd, CannotEndIn, EndedBy, HasTooMany, IsCrowded, IsJudgeFor, IsManifold, IsStoppedBefore, IsStoppedEnd, IsStoppedSo, IsWithinLimits, StopsBegin, StopsEnd}
use Rattle.history_overlaps.specs.Timelines.{Holds, StopsWaiting}
use Rattle.history_overlaps.specs.declared.life.Life.{Life}
use Rattle.history_overlaps.specs.declared.misuses.NotBegun.{NotBegun}
use Rattle.history_overlaps.specs.declared.misuses.NotBegun.TheVariants.{Misused, Fault}
use Rattle.history_overlaps.specs.declared.pending.Pending.{Pending}
use Rattle.history_overlaps.specs.declared.pending.Pending.TheVariants.{Access}
use Rattle.history_overlaps.specs.declared.timeline.Timeline.{Timeline}
use Rattle.history_overlaps.proofs.BegunSteps.{access_begun}
use Rattle.history_overlaps.proofs.Completed.{completed}
use Rattle.history_overlaps.proofs.EndOrders.{before_ended, ended_earlier}
use Rattle.history_overlaps.proofs.EndSteps.{its_end, its_place, one}
use Rattle.history_overlaps.proofs.QueueSteps.{ended_is}
use Rattle.history_overlaps.proofs.StateAccess.{access_frees_none, access_is_no_new}

-- ---- the judge of one object

-- a judge in which 64 accesses are pending isn't new
pub full_is_own : (old : Life) (judge : AccessJudge) → IsFirst old judge → IsFull judge → (own : AccessJudge) × (old.judge ≡ Some own) × IsFull own
full_is_own old judge (inl own) full = (judge, own, full)
full_is_own old judge (inr fresh) full = let first = full 0 (omega arith) in absurd (fresh.1.none_open first.0 (0, first.1))

-- why an access can't end
pub cannot_end : (old : Life) (judge : AccessJudge) (number most : ℕ) (fault : JudgeFault) → old.judge ≡ Some judge → (fault ≡ TooMany → HasTooMany judge number most)
    → (fault ≡ TooManyPending → ⊥) → CannotEnd old number most fault
cannot_end old judge number most TooMany is many not_full = (judge, is, many refl)
cannot_end old judge number most TooManyPending is many not_full = absurd (not_full refl)
cannot_end old judge number most Memory is many not_full = tt

-- ---- the judge of a live object

module _ (calls : List Call) (waits : ℕ → Option Pending) (lives : ℕ → Option Life) (starts : ℕ → Option ℕ) (cells serials freed : ℕ → Type 0)
    (h : Holds calls waits lives starts cells serials freed) (ended : ℕ → Type 0) (to : (i : ℕ) → HasEnded calls waits i → ended i) (from : (i : ℕ) → ended i → HasEnded calls waits i)
    (call : Call) (cell : ℕ) (life : Life) (judge : AccessJudge) (alive : lives cell ≡ Some life) (has : life.judge ≡ Some judge)
    (access : is_access call.entry.command ≡ true) (names : cell_at call ≡ cell) where
  followed : IsFollowed calls waits life.object judge
  followed = subst (λ (j : Option AccessJudge). IsJudged calls waits life.object j) has (h.judges.judged cell life alive)

  opens : (i : ℕ) (a : Call) → IsAt calls i a → IsWaiting waits a i ↔ (ended i → ⊥)
  opens i a is = (
    λ w over. let none = ended_is calls waits i a (from i over) is in let some = w.1 in cc (none, some),
    λ not. found not (waits (key_of a i)) refl,
  )
    where
      found : (ended i → ⊥) → (o : Option Pending) → waits (key_of a i) ≡ o → IsWaiting waits a i
      found not None none = absurd (not (to i (a, is, none)))
      found not (Some p) some = (p, some)

  pub judge_for : IsJudgeFor calls ended call judge
  judge_for = let m = h.numbered cell life alive in record {
    history = h.history;
    completed = fewer_ended calls (HasEnded calls waits) ended from (completed calls waits lives starts cells serials freed h);
    access = access;
    object = object_of life.object;
    place = life.object.number;
    maker = m.0;
    made = m.1;
    named = (h.living.live_is cell (object_of life.object) (ap (λ (o : Option Life). option_map (λ l. object_of l.object) o) alive)).0 ∙ sym names;
    follows = followed.follows;
    is_open = λ i a is own. let opened = followed.is_open i a is own in let or_ended = opens i a is in
        (λ o. or_ended.0 (opened.0 o), λ not. opened.1 (or_ended.1 not));
  }

-- ---- a call begins

module _ (old : Timeline) (calls : List Call) (call : Call) (holds : StandsWith calls (waits_of old) old) (may : MayBegin calls (waits_of old) call) where
  to : (i : ℕ) → HasEnded calls (waits_of old) i → EndedBy calls call.begin i
  to i over = (over.0, over.1, may.behind i over.0 over over.1)

  from : (i : ℕ) → EndedBy calls call.begin i → HasEnded calls (waits_of old) i
  from i (a, is, early) = found (waits_of old (key_of a i)) refl
    where
      found : (o : Option Pending) → waits_of old (key_of a i) ≡ o → HasEnded calls (waits_of old) i
      found None none = (a, is, none)
      found (Some p) some = absurd (let late = may.within i a is (p, some) in omega (arith, early, late))

  -- the calls that ended before it begins can be completed
  pub completed_by : HasCompletion calls (EndedBy calls call.begin)
  completed_by = fewer_ended calls (HasEnded calls (waits_of old)) (EndedBy calls call.begin) from
      (completed calls (waits_of old) (lives_of old) (starts_of old) (Has old.cells) (Has old.serials) (Has old.freed) holds)

  -- 64 accesses to its object are pending
  module _ (cell : ℕ) (life : Life) (alive : lives_of old cell ≡ Some life) (access : is_access call.entry.command ≡ true) (names : cell_at call ≡ cell) where
    crowded : (judge : AccessJudge) → life.judge ≡ Some judge → IsFull judge → IsCrowded calls call
    crowded judge has full =
        let known = holds.living.live_is cell (object_of life.object) (ap (λ (o : Option Life). option_map (λ l. object_of l.object) o) alive) in record {
          judge = judge;
          judged = judge_for calls (waits_of old) (lives_of old) (starts_of old) (Has old.cells) (Has old.serials) (Has old.freed) holds (EndedBy calls call.begin) to from
              call cell life judge alive has access names;
          full = full;
          allowed = access_begun calls call (waits_of old) holds.history may cell names (object_of life.object) known.0 known.1 known.2
              (access_is_no_new call.entry.command access) (access_frees_none call.entry.command access);
        }

    pub stops_begin : (fault : JudgeFault) → CannotBegin life fault → StopsBegin calls call fault
    stops_begin TooManyPending (judge, has, full) = crowded judge has full
    stops_begin TooMany none = none
    stops_begin Memory none = tt

-- the access can't begin
pub access_stopped : (old : Timeline) (number cell : ℕ) (entry : Entry) (fault : JudgeFault) → CannotBeginIn (lives_of old) cell fault → is_access entry.command ≡ true
    → cell_of entry.command ≡ cell → IsStoppedSo old number entry (Fault fault)
access_stopped old number cell entry fault (life, alive, cannot) access names calls call long is holds may =
    stops_begin old calls call holds may cell life alive (subst (λ (e : Entry). is_access e.command ≡ true) (sym is) access)
    (subst (λ (e : Entry). cell_of e.command ≡ cell) (sym is) names) fault cannot

-- a broken rule is no limit
pub stray_within : (freed : ℕ → Type 0) (number cell : ℕ) (not_begun : NotBegun) → IsStray freed number cell not_begun → IsWithinLimits not_begun
stray_within freed number cell not_begun (inl freed') = subst IsWithinLimits (sym freed'.1) tt
stray_within freed number cell not_begun (inr unmade) = subst IsWithinLimits (sym unmade.1) tt

pub within_limits : (old : Timeline) (number : ℕ) (entry : Entry) (not_begun : NotBegun) → IsWithinLimits not_begun → IsStoppedSo old number entry not_begun
within_limits old number entry (Misused misused) within = tt
within_limits old number entry (Fault fault) within = λ calls call long is holds may. subst (λ (f : JudgeFault). StopsBegin calls call f) (sym within) tt

-- ---- a call ends

module _ (t : Timeline) (number cell most : ℕ) (calls : List Call) (waits : ℕ → Option Pending) (key : ℕ) (at : key % 4294967296 ≡ number)
    (stop : StopsWaiting waits (waits_of t) key (Access cell)) (h : StandsWith calls waits t) (life : Life) (alive : lives_of t cell ≡ Some life) where
  abbrev ending : WaitsAt calls key (Access cell)
  ending = one t (Access cell) calls waits key stop h

  manifold : (judge : AccessJudge) → life.judge ≡ Some judge → HasTooMany judge number most → (call : Call) × IsManifold calls number most call
  manifold judge has many =
      let place = its_place t (Access cell) calls waits key stop h number at in (
        ending.call,
        subst (λ (n : ℕ). IsManifold calls n most ending.call) place (record {
          there = ending.there;
          judge = judge;
          judged = judge_for calls waits (lives_of t) (starts_of t) (Has t.cells) (Has t.serials) (Has t.freed) h (EndsBefore calls ending.place)
              (before_ended calls waits (waits_of t) key (Access cell) stop h.queue) (ended_earlier calls waits (waits_of t) key (Access cell) stop h.queue)
              ending.call cell life judge alive has ending.suits.0 ending.suits.1;
          many = subst (λ (n : ℕ). HasTooMany judge n most) (sym place) many;
        }),
      )

  pub stops_end : (fault : JudgeFault) → CannotEnd life number most fault → StopsEnd calls number most fault
  stops_end TooMany (judge, has, many) = manifold judge has many
  stops_end TooManyPending none = none
  stops_end Memory none = tt

-- the access can't end
pub access_end_stopped : (t : Timeline) (number cell most : ℕ) (fault : JudgeFault) → CannotEndIn (lives_of t) cell number most fault
    → IsStoppedEnd t number (Access cell) most fault
access_end_stopped t number cell most fault (life, alive, cannot) calls waits key at stop h =
    stops_end t number cell most calls waits key at stop h life alive fault cannot

-- an allocation failed
pub no_memory_end : (t : Timeline) (number most : ℕ) (pending : Pending) (fault : JudgeFault) → fault ≡ Memory → IsStoppedEnd t number pending most fault
no_memory_end t number most pending fault is calls waits key at stop h = subst (λ (f : JudgeFault). StopsEnd calls number most f) (sym is) tt

-- one of the calls that end before a moment can't end
pub stopped_one : (start mid taken : Timeline) (moment number most : ℕ) (pending : Pending) (fault : JudgeFault) → AreEnded start mid moment
    → IsFirstBefore (waits_of mid) (waits_of taken) moment number pending
    → ((calls : List Call) (waits : ℕ → Option Pending) → StandsWith calls waits mid → StandsWith calls waits taken)
    → IsStoppedEnd taken number pending most fault → IsStoppedBefore start moment most (record { number = number; fault = fault })
stopped_one start mid taken moment number most pending fault are first same stopped calls stands =
    let h = same calls (waits_of mid) (are.stands calls stands) in
    let ending = one taken pending calls (waits_of mid) first.key first.stops h in
    let place = its_place taken pending calls (waits_of mid) first.key first.stops h number first.is_number in (
      (
        ending.call,
        subst (λ (n : ℕ). IsAt calls n ending.call) place ending.there,
        its_end taken pending calls (waits_of mid) first.key first.stops h moment first.before,
      ),
      stopped calls (waits_of mid) first.key first.is_number first.stops h,
    )
