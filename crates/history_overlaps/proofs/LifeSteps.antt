-- Accesses to a live object begin and end: its judge follows them.
use Rattle.std.proofs.Common.{◌≡◌, ◌≢◌, ◌↔◌, ℕ, ◌+◌, option_map, ◌<◌, inl, inr, Bool, true, false, List, [], ◌∷◌, ◌++◌, length, arith, refl, sym, subst, ◌∙◌, ap, Option, Some, None}
use Rattle.std.proofs.lemmas.Bool.Decides.{eqb_tells}
use Rattle.model_intervals.specs.Intervals.{Call}
use Rattle.model_intervals.specs.Objects.{IsMadeAt, is_access}
use Rattle.model_intervals.specs.OverlappingCalls.{IsAt, cell_at}
use Rattle.history_object.specs.ObjectBytes.{effect, first_state}
use Rattle.history_object.specs.declared.access.Access.{Access as AnAccess}
use Rattle.history_object.specs.Following.{IsJudgeOf, IsOpen}
use Rattle.history_overlaps.specs.Accesses.{access_of, is_access_of, timed_accesses}
use Rattle.history_overlaps.specs.Judges.{AccessJudge, IsFollowed, IsJudged, live_of}
use Rattle.history_overlaps.specs.LifeSteps.{HasBegun, HasEndedAt}
use Rattle.history_overlaps.specs.Lives.{CannotBe}
use Rattle.history_overlaps.specs.Queues.{HasEnded, IsWaiting, MayBegin, Queue, Suits, WaitsAt, key_of, object_of}
use Rattle.history_overlaps.specs.Timelines.{FewOpen, Holds, StartsWaiting, StopsWaiting}
use Rattle.history_overlaps.specs.declared.life.Life.{Life}
use Rattle.history_overlaps.specs.declared.objects.NewObject.{NewObject}
use Rattle.history_overlaps.specs.declared.pending.Pending.{Pending}
use Rattle.history_overlaps.specs.declared.pending.Pending.TheVariants.{Access}
use Rattle.history_overlaps.proofs.CallPlaces.{at_same}
use Rattle.history_overlaps.proofs.Follows.{access_may_begin, follow_access, follow_end, follow_first, none_explained}
use Rattle.history_overlaps.proofs.JudgesEnd.{access_ends, it_waits_no_more, others_wait}
use Rattle.history_overlaps.proofs.LivesBegin.{made_front}
use Rattle.history_overlaps.proofs.LivesEnd.{another_ends}
use Rattle.history_overlaps.proofs.QueueSteps.{waited_before, waits_still}
use Rattle.history_overlaps.proofs.StateAccess.{access_is_no_new, access_of_cell, lives_turned}
use Rattle.history_overlaps.proofs.StateEnd.{in_order, keep, now, queue, split, this, waiting}

-- ---- an access begins

module _ (calls : List Call) (call : Call) (waits waits' : ℕ → Option Pending) (pending : Pending) (starting : StartsWaiting calls call waits waits' pending)
    (may : MayBegin calls waits call) (q : Queue calls waits) (old new : Life) (begun : HasBegun old new (length calls) (access_of old.object.address call.entry.command call.entry.reply))
    (same : new.object ≡ old.object) (access : is_access_of old.object.cell call ≡ true) where
  stays : (i : ℕ) (a : Call) → IsAt calls i a → IsWaiting waits a i ↔ IsWaiting waits' a i
  stays i a is = (waits_still calls call waits waits' pending q may starting.now starting.others i a is, waited_before calls call waits waits' pending q may starting.now starting.others i a is)

  followed_first : IsJudged calls waits old.object old.judge → IsFollowed calls waits old.object begun.first
  followed_first judged = elim begun.is_first [
    | inl own ↦ subst (λ (j : Option AccessJudge). IsJudged calls waits old.object j) own judged
    | inr fresh ↦ follow_first calls waits old.object begun.first (subst (λ (j : Option AccessJudge). IsJudged calls waits old.object j) fresh.0 judged) fresh.1.follows fresh.1.some fresh.1.none_open
  ]

  pub judged_now : IsJudged calls waits old.object old.judge → IsJudged (calls ++ call ∷ []) waits' new.object new.judge
  judged_now judged =
      let first = followed_first judged in
      let may_begin = access_may_begin calls call waits waits' old.object may stays begun.first first access in
      let follows = begun.follows (timed_accesses old.object.cell old.object.address calls) call.begin call.end first.follows may_begin in
      let followed = follow_access calls call waits waits' old.object may stays begun.first begun.judge pending first access follows (begun.some first.some) begun.is_open begun.is_call starting.now in
      subst (λ (o : NewObject). IsJudged (calls ++ call ∷ []) waits' o new.judge) (sym same)
      (subst (λ (j : Option AccessJudge). IsJudged (calls ++ call ∷ []) waits' old.object j) (sym begun.now) followed)

-- ---- an access ends

module _ (calls : List Call) (waits waits' : ℕ → Option Pending) (key : ℕ) (pending : Pending) (stop : StopsWaiting waits waits' key pending)
    (lives : ℕ → Option Life) (starts : ℕ → Option ℕ) (cells serials freed : ℕ → Type 0) (h : Holds calls waits lives starts cells serials freed)
    (cell : ℕ) (is_access_end : pending ≡ Access cell) where
  abbrev at : WaitsAt calls key pending
  at = this calls waits waits' key pending stop lives starts cells serials freed h

  own : (is_access at.call.entry.command ≡ true) × (cell_at at.call ≡ cell)
  own = subst (λ (p : Pending). Suits at.call at.place p) is_access_end at.suits

  module _ (life : Life) (alive : lives cell ≡ Some life) where
    object_cell : life.object.cell ≡ cell
    object_cell = (h.living.live_is cell (object_of life.object) (ap (λ (o : Option Life). option_map (λ l. object_of l.object) o) alive)).0

    accesses : is_access_of life.object.cell at.call ≡ true
    accesses = access_of_cell life.object.cell at.call own.0 (own.1 ∙ sym object_cell)

    -- its judge has it open
    pub access_is_open : (judge : AccessJudge) → life.judge ≡ Some judge → IsOpen judge at.place
    access_is_open judge is =
        let judged = subst (λ (j : Option AccessJudge). IsJudged calls waits life.object j) is (h.judges.judged cell life alive) in
        (judged.is_open at.place at.call at.there accesses).1 (waiting calls waits waits' key pending stop lives starts cells serials freed h)

    module _ (new : Life) (left : Bool) (ended : HasEndedAt life new at.place left) (same : new.object ≡ life.object) where
      followed : IsFollowed calls waits life.object ended.first
      followed = subst (λ (j : Option AccessJudge). IsJudged calls waits life.object j) ended.is_first (h.judges.judged cell life alive)

      judge_follows : IsJudgeOf effect (first_state life.object.len) (timed_accesses life.object.cell life.object.address calls) ended.judge
      judge_follows = ended.follows (timed_accesses life.object.cell life.object.address calls) followed.follows

      -- some configuration is left
      pub access_end_holds : (lives' : ℕ → Option Life) → left ≡ true → lives' cell ≡ Some new → ((c : ℕ) → c ≢ cell → lives' c ≡ lives c)
          → Holds calls waits' lives' starts cells serials freed
      access_end_holds lives' some now_lives others = record {
        queue = queue calls waits waits' key pending stop lives starts cells serials freed h;
        history = h.history;
        living = lives_turned calls (HasEnded calls waits') (live_of lives) (live_of lives') serials live_same
            (another_ends calls (HasEnded calls waits) (HasEnded calls waits') at.place at.call at.there
            (split calls waits waits' key pending stop lives starts cells serials freed h)
            (keep calls waits waits' key pending stop lives starts cells serials freed h)
            (now calls waits waits' key pending stop lives starts cells serials freed h)
            (access_is_no_new at.call.entry.command own.0) (live_of lives) serials h.living);
        judges = access_ends calls waits waits' key pending h.queue stop.was stop.gone stop.others lives lives' h.judges cell own.0 own.1 in_cell
            (λ l is. let one : new ≡ l = cc (now_lives, is) in subst (λ (k : Life). IsJudged calls waits' k.object k.judge) one judged)
            others (new, now_lives);
        started = λ c l is. let g = old c l is in subst (λ (o : NewObject). starts o.address ≡ Some c) g.2 (h.started c g.0 g.1);
        starts_of = λ address c is. let s = h.starts_of address c is in elim (eqb_tells c cell) [
          | inl one ↦ (
            new,
            subst (λ (q : ℕ). lives' q ≡ Some new) (sym one.1) now_lives,
            ap (λ (o : NewObject). o.address) same
                ∙ (let there = subst (λ (q : ℕ). lives q ≡ Some s.0) one.1 s.1 in let l : life ≡ s.0 = cc (alive, there) in ap (λ (k : Life). k.object.address) l) ∙ s.2,
          )
          | inr two ↦ (s.0, others c two.1 ∙ s.1, s.2)
        ];
        numbered = λ c l is. let g = old c l is in subst (λ (o : NewObject). (b : Call) × IsMadeAt calls o.number b (object_of o)) g.2 (h.numbered c g.0 g.1);
        has_cell = h.has_cell;
        of_cell = h.of_cell;
        freed_is = h.freed_is;
      }
        where
          old : (c : ℕ) (l : Life) → lives' c ≡ Some l → (k : Life) × (lives c ≡ Some k) × (k.object ≡ l.object)
          old c l is = elim (eqb_tells c cell) [
            | inl one ↦ (
              life,
              subst (λ (q : ℕ). lives q ≡ Some life) (sym one.1) alive,
              sym same ∙ (let there = subst (λ (q : ℕ). lives' q ≡ Some l) one.1 is in let e : new ≡ l = cc (now_lives, there) in ap (λ (k : Life). k.object) e),
            )
            | inr two ↦ (l, sym (others c two.1) ∙ is, refl)
          ]

          in_cell : (c : ℕ) (l : Life) → lives' c ≡ Some l → l.object.cell ≡ c
          in_cell c l is = let g = old c l is in subst (λ (o : NewObject). o.cell ≡ c) g.2
              (h.living.live_is c (object_of g.0.object) (ap (λ (o : Option Life). option_map (λ k. object_of k.object) o) g.1)).0

          live_same : (c : ℕ) → live_of lives' c ≡ live_of lives c
          live_same c = elim (eqb_tells c cell) [
            | inl one ↦ ap (λ (q : ℕ). live_of lives' q) one.1 ∙ ap (λ (o : Option Life). option_map (λ l. object_of l.object) o) now_lives
                ∙ ap (λ (o : NewObject). Some (object_of o)) same ∙ sym (ap (λ (o : Option Life). option_map (λ l. object_of l.object) o) alive)
                ∙ ap (λ (q : ℕ). live_of lives q) (sym one.1)
            | inr two ↦ ap (λ (o : Option Life). option_map (λ l. object_of l.object) o) (others c two.1)
          ]

          judged : IsJudged calls waits' new.object new.judge
          judged = subst (λ (o : NewObject). IsJudged calls waits' o new.judge) (sym same)
              (subst (λ (j : Option AccessJudge). IsJudged calls waits' life.object j) (sym ended.now)
              (follow_end calls waits waits' at.place at.call life.object at.there (waiting calls waits waits' key pending stop lives starts cells serials freed h)
              (it_waits_no_more calls waits waits' key pending h.queue stop.was stop.gone stop.others lives lives h.judges)
              (others_wait calls waits waits' key pending h.queue stop.was stop.gone stop.others lives lives h.judges)
              ended.first ended.judge followed judge_follows (ended.some.0 some) ended.is_open ended.is_call))

      -- none is left
      pub access_end_wrong : left ≡ false → (moment : ℕ) → at.call.end < moment → CannotBe calls moment
      access_end_wrong none moment early more later history explained =
          let l = h.living.live_is cell (object_of life.object) (ap (λ (o : Option Life). option_map (λ k. object_of k.object) o) alive) in
          let m = l.2 in
          let order = explained.each m.place m.call (object_of life.object) (made_front calls more m.place m.call (object_of life.object) m.there) in
          none_explained calls more waits' life.object ended.judge judge_follows
          (λ some. let yes = ended.some.1 some in cc (yes, none))
          over moment past later order.0 order.1
        where
          over : (i : ℕ) (a : Call) → IsAt calls i a → is_access_of life.object.cell a ≡ true → (IsOpen ended.judge i → ⊥) → HasEnded calls waits' i
          over i a is access closed = found (waits' (key_of a i)) refl
            where
              waits_and_apart : (p : Pending) → waits' (key_of a i) ≡ Some p → IsWaiting waits a i × (i ≢ at.place)
              waits_and_apart p some =
                  let apart : i ≢ at.place = (λ e. it_waits_no_more calls waits waits' key pending h.queue stop.was stop.gone stop.others lives lives h.judges
                  (let w : IsWaiting waits' a at.place = subst (λ (n : ℕ). IsWaiting waits' a n) e (p, some) in
                  subst (λ (b : Call). IsWaiting waits' b at.place) (sym (at_same calls at.place at.call a at.there (subst (λ (n : ℕ). IsAt calls n a) e is))) w)) in
                  ((others_wait calls waits waits' key pending h.queue stop.was stop.gone stop.others lives lives h.judges i a is apart).1 (p, some), apart)

              found : (w : Option Pending) → waits' (key_of a i) ≡ w → HasEnded calls waits' i
              found None gone = (a, is, gone)
              found (Some p) some = absurd (
                  let both = waits_and_apart p some in
                  closed ((ended.is_open i).1 ((followed.is_open i a is access).1 both.0, both.1)))

          past : (i : ℕ) (a : Call) → HasEnded calls waits' i → IsAt calls i a → a.end < moment
          past i a done is = elim (split calls waits waits' key pending stop lives starts cells serials freed h i done) [
            | inl before ↦ let first = in_order calls waits waits' key pending stop lives starts cells serials freed h i a before is in omega (arith, first, early)
            | inr here ↦
                let one = at_same calls at.place at.call a at.there (subst (λ (n : ℕ). IsAt calls n a) here is) in
                subst (λ (b : Call). b.end < moment) one early
          ]

-- ---- what is open is of small numbers

-- an access has begun
pub few_begun : (lives lives' : ℕ → Option Life) (cell count : ℕ) (old new : Life) (access : AnAccess) → FewOpen lives count → lives cell ≡ Some old → lives' cell ≡ Some new
    → ((c : ℕ) → c ≢ cell → lives' c ≡ lives c) → HasBegun old new count access → FewOpen lives' (count + 1)
few_begun lives lives' cell count old new access few alive alive' others begun c life judge number is has opened = elim (eqb_tells c cell) [
  | inl same ↦
      let at = subst (λ (q : ℕ). lives' q ≡ Some life) same.1 is in
      let one : new ≡ life = cc (alive', at) in
      let has' = subst (λ (l : Life). l.judge ≡ Some judge) (sym one) has in
      let this : begun.judge ≡ judge = (let n = begun.now in cc (n, has')) in
      elim ((begun.is_open number).0 (subst (λ (j : AccessJudge). IsOpen j number) (sym this) opened)) [
        | inl new_one ↦ omega (arith, new_one)
        | inr before ↦ elim begun.is_first [
          | inl own ↦ let low = few cell old begun.first number alive own before in omega (arith, low)
          | inr fresh ↦ absurd (fresh.1.none_open number before)
        ]
      ]
  | inr apart ↦ let low = few c life judge number (sym (others c apart.1) ∙ is) has opened in omega (arith, low)
]

-- an access has ended
pub few_ended : (lives lives' : ℕ → Option Life) (cell count n : ℕ) (old new : Life) (left : Bool) → FewOpen lives count → lives cell ≡ Some old → lives' cell ≡ Some new
    → ((c : ℕ) → c ≢ cell → lives' c ≡ lives c) → HasEndedAt old new n left → FewOpen lives' count
few_ended lives lives' cell count n old new left few alive alive' others ended c life judge number is has opened = elim (eqb_tells c cell) [
  | inl same ↦
      let at = subst (λ (q : ℕ). lives' q ≡ Some life) same.1 is in
      let one : new ≡ life = cc (alive', at) in
      let has' = subst (λ (l : Life). l.judge ≡ Some judge) (sym one) has in
      let this : ended.judge ≡ judge = (let n = ended.now in cc (n, has')) in
      few cell old ended.first number alive ended.is_first ((ended.is_open number).0 (subst (λ (j : AccessJudge). IsOpen j number) (sym this) opened)).0
  | inr apart ↦ few c life judge number (sym (others c apart.1) ∙ is) has opened
]
