-- A call ends: what a timeline knows.
use Rattle.std.proofs.Common.{◌≡◌, ◌≢◌, ◌↔◌, ℕ, zero, suc, ◌+◌, ◌*◌, ◌%◌, ◌<◌, ◌≤◌, ◌⊎◌, inl, inr, Bool, true, false, List, [], arith, refl, sym, subst, ◌∙◌, ap, Option, Some, None, option_map, slice_get}
use Rattle.std.specs.Prelude.{IfSome}
use Rattle.std.specs.Ordering.{nat_cmp}
use Rattle.std.specs.BTreeMap.{BTreeMap, get}
use Rattle.std.proofs.lemmas.Bool.Decides.{eqb_tells}
use Rattle.model_history.specs.Recorded.{IsOwnRefusal, any_allocator}
use Rattle.model_words.specs.declared.commands.Command.{Command}
use Rattle.model_words.specs.declared.commands.Command.TheVariants.{New}
use Rattle.model_words.specs.declared.commands.Reply.{Reply}
use Rattle.model_words.specs.declared.commands.Reply.TheVariants.{Object as MadeReply, Refused as RefusedReply}
use Rattle.model_words.specs.declared.refusals.Refusal.{Refusal}
use Rattle.model_intervals.specs.Completions.{IsFirstWrong}
use Rattle.model_intervals.specs.Intervals.{Call}
use Rattle.model_intervals.specs.Objects.{Object as AnObject, IsFairNew, IsMadeAt, object_made}
use Rattle.model_intervals.specs.OverlappingCalls.{IsAt, IsNew, cell_at, cell_of}
use Rattle.text_words.specs.RecordedWords.{plain_reply}
use Rattle.text_words.specs.declared.recorded.RecordedReply.{RecordedReply}
use Rattle.text_words.specs.declared.recorded.RecordedReply.TheVariants.{Object as ToldObject}
use Rattle.history_number_set.specs.Ranges.{Has}
use Rattle.history_object.specs.Following.{IsOpen}
use Rattle.history_overlaps.specs.Accesses.{PlacedCall}
use Rattle.history_overlaps.specs.Ends.{AreDisjoint, AreEnded, HasEndedIn, IsFirstBefore, IsGone, IsOverlapped, IsRuledOut, IsToldIn, Misses, Past}
use Rattle.history_overlaps.specs.Flaws.{IsFlawOf, IsRefusalFlaw}
use Rattle.history_overlaps.specs.Judges.{AccessJudge, IsJudged, live_of}
use Rattle.history_overlaps.specs.LifeSteps.{HasEndedAt}
use Rattle.history_overlaps.specs.Lives.{IsMade, NoneFrees}
use Rattle.history_overlaps.specs.Queues.{HasEnded, WaitsAt, key_of, object_of}
use Rattle.history_overlaps.specs.Standing.{HasEndedSo, IsEnding, IsFlawed, IsSetAt, StandsWith, lives_of, starts_of, waits_of}
use Rattle.history_overlaps.specs.Timelines.{FewOpen, Holds, StopsWaiting}
use Rattle.history_overlaps.specs.declared.flaws.Flaw.{Flaw}
use Rattle.history_overlaps.specs.declared.flaws.Flaw.TheVariants.{SerialAgain, NoByte, StrangeRefusal, Overlaps, NoOrder}
use Rattle.history_overlaps.specs.declared.life.AccessEnd.TheVariants.{Unexplained as NotExplained}
use Rattle.history_overlaps.specs.declared.life.Life.{Life}
use Rattle.history_overlaps.specs.declared.objects.NewObject.{NewObject}
use Rattle.history_overlaps.specs.declared.pending.Pending.{Pending}
use Rattle.history_overlaps.specs.declared.pending.Pending.TheVariants.{Made, Refused, Free as FreeEnds, Access}
use Rattle.history_overlaps.specs.declared.possible.Unexplained.{Unexplained}
use Rattle.history_overlaps.specs.declared.timeline.Timeline.{Timeline}
use Rattle.history_overlaps.proofs.CallPlaces.{at_same}
use Rattle.history_overlaps.proofs.Fair.{fair_length}
use Rattle.history_overlaps.proofs.FirstWrong.{access_is_first_wrong, range_is_first_wrong, serial_is_first_wrong, unfair_is_first_wrong}
use Rattle.history_overlaps.proofs.Follows.{access_timed}
use Rattle.history_overlaps.proofs.LifeSteps.{access_end_holds, access_end_wrong, access_is_open, few_ended}
use Rattle.history_overlaps.proofs.LivesEnd.{made_at_cell, made_by_new}
use Rattle.history_overlaps.proofs.QueueSteps.{small_place}
use Rattle.history_overlaps.proofs.StateAccess.{access_of_cell}
use Rattle.history_overlaps.proofs.StateEnd.{free_ends, in_order, made_new_ends, not_yet, refused_new_ends, taken_range, taken_serial, this, unfair_new}
use Rattle.history_overlaps.proofs.UnexplainedCalls.{unexplained_call}

-- what holds of a value holds of what follows from it
pub if_some_weaker : {X : Type 0} (o : Option X) (P Q : X → Type 0) → ((x : X) → P x → Q x) → IfSome o P → IfSome o Q
if_some_weaker None P Q f h = h
if_some_weaker (Some x) P Q f h = f x h

-- the parts of a timeline where a call has ended
abbrev pub EndedParts : Timeline → (ℕ → Option Life) → (ℕ → Option ℕ) → (ℕ → Type 0) → ℕ → Pending → Type 0
EndedParts old lives' starts' serials' number pending = (calls : List Call) (waits : ℕ → Option Pending) (key : ℕ) → key % 4294967296 ≡ number
    → StopsWaiting waits (waits_of old) key pending → StandsWith calls waits old → Holds calls (waits_of old) lives' starts' (Has old.cells) serials' (Has old.freed)

-- ---- the call that ends

module _ (t : Timeline) (pending : Pending) (calls : List Call) (waits : ℕ → Option Pending) (key : ℕ) (stop : StopsWaiting waits (waits_of t) key pending)
    (h : StandsWith calls waits t) where
  abbrev pub one : WaitsAt calls key pending
  one = this calls waits (waits_of t) key pending stop (lives_of t) (starts_of t) (Has t.cells) (Has t.serials) (Has t.freed) h

  module _ (number : ℕ) (at : key % 4294967296 ≡ number) where
    pub its_place : one.place ≡ number
    its_place = let is = one.is_key in let small = small_place calls waits h.queue one.place one.call one.there in omega (arith, is, small, at)

    is_there : IsAt calls number one.call
    is_there = subst (λ (n : ℕ). IsAt calls n one.call) its_place one.there

    first_there : IsFirstWrong calls one.place → IsFirstWrong calls number
    first_there first = subst (λ (n : ℕ). IsFirstWrong calls n) its_place first

  pub its_end : (moment : ℕ) → key < moment * 4294967296 → one.call.end < moment
  its_end moment early = let is = one.is_key in let small = small_place calls waits h.queue one.place one.call one.there in omega (arith, is, early)

-- ---- a `free`

pub free_ended_so : (t : Timeline) (number : ℕ) → HasEndedSo t t number FreeEnds
free_ended_so t number calls waits key at stop h =
    free_ends calls waits (waits_of t) key FreeEnds stop (lives_of t) (starts_of t) (Has t.cells) (Has t.serials) (Has t.freed) h refl

-- ---- a `new` that was refused

module _ (t : Timeline) (number len : ℕ) (refusal : Refusal) where
  module _ (calls : List Call) (waits : ℕ → Option Pending) (key : ℕ) (stop : StopsWaiting waits (waits_of t) key (Refused len refusal))
      (h : StandsWith calls waits t) where
    abbrev refused_call : WaitsAt calls key (Refused len refusal)
    refused_call = one t (Refused len refusal) calls waits key stop h

    refused_is_new : IsNew refused_call.call.entry.command
    refused_is_new = subst (λ (c : Command). IsNew c) (sym refused_call.suits.2) tt

    refused_fair : IsFairNew refused_call.call.entry.command refused_call.call.entry.reply ↔ IsOwnRefusal any_allocator len refusal
    refused_fair = let s = refused_call.suits in
        subst (λ (c : Command). IsFairNew c refused_call.call.entry.reply ↔ IsOwnRefusal any_allocator len refusal) (sym s.2)
        (subst (λ (r : Reply). IsFairNew (New s.0 len s.1) r ↔ IsOwnRefusal any_allocator len refusal) (sym s.3) (λ f. f, λ f. f))

    refused_makes_none : object_made refused_call.call.entry.command refused_call.call.entry.reply ≡ None
    refused_makes_none = let s = refused_call.suits in
        subst (λ (c : Command). object_made c refused_call.call.entry.reply ≡ None) (sym s.2)
        (subst (λ (r : Reply). object_made (New s.0 len s.1) r ≡ None) (sym s.3) refl)

  pub refused_so : IsOwnRefusal any_allocator len refusal → HasEndedSo t t number (Refused len refusal)
  refused_so own calls waits key at stop h =
      refused_new_ends calls waits (waits_of t) key (Refused len refusal) stop (lives_of t) (starts_of t) (Has t.cells) (Has t.serials) (Has t.freed) h
      (cell_at (refused_call calls waits key stop h).call) refl (refused_is_new calls waits key stop h) ((refused_fair calls waits key stop h).1 own)
      (refused_makes_none calls waits key stop h)

  pub refused_unfair : (IsOwnRefusal any_allocator len refusal → ⊥) → (flaw : Flaw) → IsRefusalFlaw refusal flaw → IsFlawed t number (Refused len refusal) flaw
  refused_unfair other flaw of_refusal calls waits key moment at stop h early = (
    first_there t (Refused len refusal) calls waits key stop h number at (unfair_is_first_wrong calls waits (waits_of t) key (Refused len refusal) stop (lives_of t) (starts_of t) (Has t.cells) (Has t.serials) (Has t.freed) h unfair),
    ((refused_call calls waits key stop h).call, is_there t (Refused len refusal) calls waits key stop h number at, told flaw of_refusal),
    unfair_new calls waits (waits_of t) key (Refused len refusal) stop (lives_of t) (starts_of t) (Has t.cells) (Has t.serials) (Has t.freed) h
        (cell_at (refused_call calls waits key stop h).call) refl (refused_is_new calls waits key stop h) moment unfair,
  )
    where
      unfair : IsFairNew (refused_call calls waits key stop h).call.entry.command (refused_call calls waits key stop h).call.entry.reply → ⊥
      unfair fair = other ((refused_fair calls waits key stop h).0 fair)

      told : (f : Flaw) → IsRefusalFlaw refusal f → IsFlawOf calls number (refused_call calls waits key stop h).call f
      told (NoByte answer) is = record {
        is_new = refused_is_new calls waits key stop h;
        answers = (refused_call calls waits key stop h).suits.3 ∙ ap (λ (r : RecordedReply). plain_reply r) (sym is);
        unfair = unfair;
      }
      told (StrangeRefusal reason) is = record {
        is_new = refused_is_new calls waits key stop h;
        answers = (refused_call calls waits key stop h).suits.3 ∙ ap (λ (r : Refusal). RefusedReply r) (sym is);
        unfair = unfair;
      }
      told SerialAgain is = absurd is
      told (Overlaps serial place) is = absurd is
      told (NoOrder unexplained) is = absurd is

-- ---- a `new` that made an object

made_is_new : (command : Command) (reply : Reply) (x : AnObject) → object_made command reply ≡ Some x
    → IsNew command × (cell_of command ≡ x.cell) × (IsFairNew command reply ↔ ((1 ≤ x.len) × (x.len ≤ any_allocator.longest))) × (reply ≡ MadeReply x.serial x.address)
made_is_new (New cell len word) (MadeReply serial address) x is =
    let same : record { cell = cell; len = len; serial = serial; address = address } ≡ x = cc is in
    subst (λ (y : AnObject). Unit {0} × (cell ≡ y.cell) × (((1 ≤ len) × (len ≤ any_allocator.longest)) ↔ ((1 ≤ y.len) × (y.len ≤ any_allocator.longest)))
    × (MadeReply serial address ≡ MadeReply y.serial y.address)) same (tt, refl, (λ f. f, λ f. f), refl)
made_is_new command reply x is = absurd (cc is)

module _ (t : Timeline) (number : ℕ) (object : NewObject) where
  module _ (calls : List Call) (waits : ℕ → Option Pending) (key : ℕ) (stop : StopsWaiting waits (waits_of t) key (Made object))
      (h : StandsWith calls waits t) where
    abbrev made_call : WaitsAt calls key (Made object)
    made_call = one t (Made object) calls waits key stop h

    made_facts : IsNew made_call.call.entry.command × (cell_at made_call.call ≡ object.cell)
        × (IsFairNew made_call.call.entry.command made_call.call.entry.reply ↔ ((1 ≤ object.len) × (object.len ≤ any_allocator.longest)))
        × (made_call.call.entry.reply ≡ MadeReply object.serial object.address)
    made_facts = made_is_new made_call.call.entry.command made_call.call.entry.reply (object_of object) made_call.suits.0

  pub made_unfair : ((1 ≤ object.len) × (object.len ≤ any_allocator.longest) → ⊥) → IsFlawed t number (Made object) (NoByte (ToldObject object.serial object.address))
  made_unfair unfair calls waits key moment at stop h early = let f = made_facts calls waits key stop h in (
    first_there t (Made object) calls waits key stop h number at
        (unfair_is_first_wrong calls waits (waits_of t) key (Made object) stop (lives_of t) (starts_of t) (Has t.cells) (Has t.serials) (Has t.freed) h (λ fair. unfair (f.2.0 fair))),
    (
      (made_call calls waits key stop h).call,
      is_there t (Made object) calls waits key stop h number at,
      record { is_new = f.0; answers = f.3; unfair = λ fair. unfair (f.2.0 fair) },
    ),
    unfair_new calls waits (waits_of t) key (Made object) stop (lives_of t) (starts_of t) (Has t.cells) (Has t.serials) (Has t.freed) h object.cell f.1 f.0 moment
        (λ fair. unfair (f.2.0 fair)),
  )

  module _ (some : 1 ≤ object.len) (long : object.len ≤ any_allocator.longest) where
    pub made_again : Has t.serials object.serial → IsFlawed t number (Made object) SerialAgain
    made_again has calls waits key moment at stop h early = let f = made_facts calls waits key stop h in let m = h.living.of_serial object.serial has in (
      first_there t (Made object) calls waits key stop h number at
          (serial_is_first_wrong calls waits (waits_of t) key (Made object) stop (lives_of t) (starts_of t) (Has t.cells) (Has t.serials) (Has t.freed) h
          (object_of object) (made_call calls waits key stop h).suits.0 has),
      (
        (made_call calls waits key stop h).call,
        is_there t (Made object) calls waits key stop h number at,
        record {
          object = object_of object;
          makes = (made_call calls waits key stop h).suits.0;
          place = m.1.place;
          other = m.1.call;
          earlier = m.0;
          made = m.1.there;
          apart = λ same. not_yet calls waits (waits_of t) key (Made object) stop (lives_of t) (starts_of t) (Has t.cells) (Has t.serials) (Has t.freed) h
              (subst (λ (n : ℕ). HasEnded calls waits n) (same ∙ sym (its_place t (Made object) calls waits key stop h number at)) m.1.over);
          same = m.2;
          ended = in_order calls waits (waits_of t) key (Made object) stop (lives_of t) (starts_of t) (Has t.cells) (Has t.serials) (Has t.freed) h
              m.1.place m.1.call m.1.over m.1.there.0;
        },
      ),
      taken_serial calls waits (waits_of t) key (Made object) stop (lives_of t) (starts_of t) (Has t.cells) (Has t.serials) (Has t.freed) h object.cell f.1 f.0
          (f.2.1 (some, long)) object refl (made_call calls waits key stop h).suits.1 (made_call calls waits key stop h).suits.0 moment has,
    )

    pub made_over : (other : NewObject) → IsOverlapped (lives_of t) object other → IsFlawed t number (Made object) (Overlaps other.serial other.number)
    made_over other over calls waits key moment at stop h early =
        let f = made_facts calls waits key stop h in
        let alive : live_of (lives_of t) over.0 ≡ Some (object_of other) =
        ap (λ (o : Option Life). option_map (λ l. object_of l.object) o) over.2 ∙ ap (λ (o : NewObject). Some (object_of o)) over.3 in
        let l = h.living.live_is over.0 (object_of other) alive in
        let m = subst (λ (o : NewObject). (b : Call) × IsMadeAt calls o.number b (object_of o)) over.3 (h.numbered over.0 over.1 over.2) in
        let at_once = its_number calls waits key stop h other l.2 m in (
          first_there t (Made object) calls waits key stop h number at
              (range_is_first_wrong calls waits (waits_of t) key (Made object) stop (lives_of t) (starts_of t) (Has t.cells) (Has t.serials) (Has t.freed) h
              (object_of object) (made_call calls waits key stop h).suits.0 over.0 (object_of other) alive over.4),
          (
            (made_call calls waits key stop h).call,
            is_there t (Made object) calls waits key stop h number at,
            record {
              object = object_of object;
              makes = (made_call calls waits key stop h).suits.0;
              other = m.0;
              earlier = object_of other;
              made = m.1;
              named = refl;
              meet = over.4;
              ended = in_order calls waits (waits_of t) key (Made object) stop (lives_of t) (starts_of t) (Has t.cells) (Has t.serials) (Has t.freed) h
                  other.number m.0 at_once m.1.0;
              unfreed = subst (λ (c : ℕ). NoneFrees calls c) (sym l.0) l.1;
            },
          ),
          taken_range calls waits (waits_of t) key (Made object) stop (lives_of t) (starts_of t) (Has t.cells) (Has t.serials) (Has t.freed) h object.cell f.1 f.0
              (f.2.1 (some, long)) object refl (made_call calls waits key stop h).suits.1 (made_call calls waits key stop h).suits.0 moment
              over.0 (object_of other) alive over.4 (its_end t (Made object) calls waits key stop h moment early),
        )
      where
        -- the `new` of a live object has ended: it is the only one of its cell
        its_number : (calls : List Call) (waits : ℕ → Option Pending) (key : ℕ) (stop : StopsWaiting waits (waits_of t) key (Made object)) (h : StandsWith calls waits t) (x : NewObject)
            (m : IsMade calls (HasEnded calls waits) (object_of x)) (n : (b : Call) × IsMadeAt calls x.number b (object_of x)) → HasEnded calls waits x.number
        its_number calls waits key stop h x m n = elim (eqb_tells m.place x.number) [
          | inl same ↦ subst (λ (q : ℕ). HasEnded calls waits q) same.1 m.over
          | inr apart ↦ absurd (h.history.own_cells m.place x.number m.call n.0 apart.1 m.there.0 n.1.0 (made_by_new calls m.place m.call (object_of x) m.there)
              (made_by_new calls x.number n.0 (object_of x) n.1) (made_at_cell calls m.place m.call (object_of x) m.there ∙ sym (made_at_cell calls x.number n.0 (object_of x) n.1)))
        ]

    pub made_so : (lives' : ℕ → Option Life) (starts' : ℕ → Option ℕ) (serials' : ℕ → Type 0) → (Has t.serials object.serial → ⊥)
        → (AreDisjoint (lives_of t) (starts_of t) → Misses (lives_of t) object)
        → ((n : ℕ) → serials' n ↔ ((n ≡ object.serial) ⊎ Has t.serials n))
        → IsSetAt (starts_of t) starts' object.address (Some object.cell) → IsSetAt (lives_of t) lives' object.cell (Some (record { object = object; judge = None }))
        → EndedParts t lives' starts' serials' number (Made object)
    made_so lives' starts' serials' fresh misses more_serials starts_set lives_set calls waits key at stop h =
        let f = made_facts calls waits key stop h in
        made_new_ends calls waits (waits_of t) key (Made object) stop (lives_of t) (starts_of t) (Has t.cells) (Has t.serials) (Has t.freed) h object.cell f.1 f.0
        (f.2.1 (some, long)) object refl (made_call calls waits key stop h).suits.1 (made_call calls waits key stop h).suits.0 lives' starts' serials' fresh more_serials
        lives_set.0 lives_set.1 starts_set.0 starts_set.1 some (misses (disjoint calls waits h))
      where
        disjoint : (calls : List Call) (waits : ℕ → Option Pending) → StandsWith calls waits t
            → AreDisjoint (lives_of t) (starts_of t)
        disjoint calls waits h = record {
          filled = λ c life is. let l = h.living.live_is c (object_of life.object) (live c life is) in
              fair_length l.2.call.entry.command l.2.call.entry.reply (object_of life.object) l.2.there.1 (h.living.fair l.2.place l.2.call l.2.over l.2.there.0);
          apart = λ c d life other two is_c is_d meet.
              let l = h.living.live_is c (object_of life.object) (live c life is_c) in let k = h.living.live_is d (object_of other.object) (live d other is_d) in
              let places : l.2.place ≢ k.2.place = (λ same. two (sym l.0
              ∙ (let at = subst (λ (q : ℕ). IsAt calls q l.2.call) same l.2.there.0 in
              let one = at_same calls k.2.place l.2.call k.2.call at k.2.there.0 in
              sym (made_at_cell calls l.2.place l.2.call (object_of life.object) l.2.there) ∙ ap (λ (a : Call). cell_at a) one ∙ made_at_cell calls k.2.place k.2.call (object_of other.object) k.2.there)
              ∙ k.0)) in
              elim (h.living.apart l.2.place k.2.place l.2.call k.2.call (object_of life.object) (object_of other.object) places l.2.over k.2.over l.2.there k.2.there meet) [
                | inl freed ↦ l.1 freed.place freed.free freed.there freed.frees (freed.names ∙ l.0)
                | inr freed ↦ k.1 freed.place freed.free freed.there freed.frees (freed.names ∙ k.0)
              ];
          started = h.started;
          starts_of = h.starts_of;
        }
          where
            live : (c : ℕ) (life : Life) → lives_of t c ≡ Some life → live_of (lives_of t) c ≡ Some (object_of life.object)
            live c life is = ap (λ (o : Option Life). option_map (λ l. object_of l.object) o) is

-- a new object has no judge
pub few_made : (lives lives' : ℕ → Option Life) (cell : ℕ) (object : NewObject) (count : ℕ) → IsSetAt lives lives' cell (Some (record { object = object; judge = None })) → FewOpen lives count
    → FewOpen lives' count
few_made lives lives' cell object count set few c life judge number is has opened = elim (eqb_tells c cell) [
  | inl same ↦ absurd (
      let at = subst (λ (q : ℕ). lives' q ≡ Some life) same.1 is in let now = set.0 in
      let one : record { object = object; judge = None } ≡ life = cc (at, now) in
      let none = subst (λ (l : Life). l.judge ≡ Some judge) (sym one) has in cc none)
  | inr apart ↦ few c life judge number (sym (set.1 c apart.1) ∙ is) has opened
]

-- ---- an access

module _ (t : Timeline) (number cell : ℕ) where
  module _ (lives' : ℕ → Option Life) (left : Bool) (ended : HasEndedIn (lives_of t) lives' cell number left) where
    module _ (calls : List Call) (waits : ℕ → Option Pending) (key : ℕ) (at : key % 4294967296 ≡ number) (stop : StopsWaiting waits (waits_of t) key (Access cell))
        (h : StandsWith calls waits t) where
      ended_there : HasEndedAt ended.0 ended.1 (one t (Access cell) calls waits key stop h).place left
      ended_there = subst (λ (n : ℕ). HasEndedAt ended.0 ended.1 n left) (sym (its_place t (Access cell) calls waits key stop h number at)) ended.5

    pub access_ended_so : left ≡ true → EndedParts t lives' (starts_of t) (Has t.serials) number (Access cell)
    access_ended_so some calls waits key at stop h =
        access_end_holds calls waits (waits_of t) key (Access cell) stop (lives_of t) (starts_of t) (Has t.cells) (Has t.serials) (Has t.freed) h cell refl
        ended.0 ended.2 ended.1 left (ended_there calls waits key at stop h) ended.4 lives' some ended.3.0 ended.3.1

    pub access_unexplained : left ≡ false → (told : Unexplained) → IsToldIn (lives_of t) cell number (NotExplained told)
        → IsFlawed t number (Access cell) (NoOrder told)
    access_unexplained none told told_in calls waits key moment at stop h early = (
      first_there t (Access cell) calls waits key stop h number at
          (access_is_first_wrong calls waits (waits_of t) key (Access cell) stop (lives_of t) (starts_of t) (Has t.cells) (Has t.serials) (Has t.freed) h
          cell ended.0 ended.1 left ended.2 (ended_there calls waits key at stop h) none),
      (
        (one t (Access cell) calls waits key stop h).call,
        is_there t (Access cell) calls waits key stop h number at,
        unexplained_call calls waits (lives_of t) (starts_of t) (Has t.cells) (Has t.serials) (Has t.freed) h number cell
            (one t (Access cell) calls waits key stop h).call (is_there t (Access cell) calls waits key stop h number at)
            (one t (Access cell) calls waits key stop h).suits.0 (one t (Access cell) calls waits key stop h).suits.1 told told_in,
      ),
      access_end_wrong calls waits (waits_of t) key (Access cell) stop (lives_of t) (starts_of t) (Has t.cells) (Has t.serials) (Has t.freed) h cell refl
          ended.0 ended.2 ended.1 left (ended_there calls waits key at stop h) ended.4 none moment
          (its_end t (Access cell) calls waits key stop h moment early),
    )

    pub access_few : (count : ℕ) → FewOpen (lives_of t) count → FewOpen lives' count
    access_few count few = few_ended (lives_of t) lives' cell count number ended.0 ended.1 left few ended.2 ended.3.0 ended.3.1 ended.5

  -- the access that ends is open at the judge of its object
  pub access_gone : IsEnding t number (Access cell) → IsGone (lives_of t) cell number → ⊥
  access_gone ending gone =
      let calls = ending.0 in let waits = ending.1 in let key = ending.2 in let at = ending.3 in let stop = ending.4 in let h = ending.5 in
      let life = h.judges.access key cell stop.was in
      judge_there calls waits key stop h at life.0 life.1 life.0.judge refl
    where
      judge_there : (calls : List Call) (waits : ℕ → Option Pending) (key : ℕ) (stop : StopsWaiting waits (waits_of t) key (Access cell))
          (h : StandsWith calls waits t) → key % 4294967296 ≡ number
          → (life : Life) → lives_of t cell ≡ Some life → (judge : Option AccessJudge) → life.judge ≡ judge → ⊥
      judge_there calls waits key stop h at life alive (Some judge) is =
          gone life judge alive is (subst (λ (n : ℕ). IsOpen judge n) (its_place t (Access cell) calls waits key stop h number at)
          (access_is_open calls waits (waits_of t) key (Access cell) stop (lives_of t) (starts_of t) (Has t.cells) (Has t.serials) (Has t.freed) h cell refl life alive judge is))
      judge_there calls waits key stop h at life alive None is =
          let w = one t (Access cell) calls waits key stop h in
          let in_cell = (h.living.live_is cell (object_of life.object) (ap (λ (o : Option Life). option_map (λ l. object_of l.object) o) alive)).0 in
          let own = access_of_cell life.object.cell w.call w.suits.0 (w.suits.1 ∙ sym in_cell) in
          let found = access_timed 0 life.object.cell calls w.place w.call w.there own in
          let empty = subst (λ (j : Option AccessJudge). IsJudged calls waits life.object j) is (h.judges.judged cell life alive) in
          nothing found.0 (subst (λ (l : List PlacedCall). slice_get l found.0 ≡ Some (record { place = 0 + w.place; call = w.call })) empty found.1)
        where
          nothing : {p : PlacedCall} (k : ℕ) → slice_get [] k ≡ Some p → ⊥
          nothing zero at = cc at
          nothing (suc k) at = cc at

-- ---- the calls that end before a moment

pub past_on : (calls : List Call) (waits waits' : ℕ → Option Pending) (moment number : ℕ) (pending : Pending) → IsFirstBefore waits waits' moment number pending
    → Past calls waits moment → Past calls waits' moment
past_on calls waits waits' moment number pending first past i a over is = elim (eqb_tells (key_of over.0 i) first.key) [
  | inl same ↦
      let one = at_same calls i over.0 a over.1 is in
      let e = same.1 in let before = first.before in
      subst (λ (b : Call). b.end < moment) one (omega (arith, e, before))
  | inr apart ↦ past i a (over.0, over.1, sym (first.stops.others (key_of over.0 i) apart.1) ∙ over.2) is
]

-- one more has ended without a flaw
pub ended_one : (start mid taken new : Timeline) (moment number : ℕ) (pending : Pending) → AreEnded start mid moment
    → IsFirstBefore (waits_of mid) (waits_of taken) moment number pending
    → ((calls : List Call) (waits : ℕ → Option Pending) → StandsWith calls waits mid → StandsWith calls waits taken)
    → new.waiting ≡ taken.waiting → HasEndedSo taken new number pending
    → ((count : ℕ) → FewOpen (lives_of mid) count → FewOpen (lives_of new) count)
    → AreEnded start new moment
ended_one start mid taken new moment number pending are first same waiting ended few = record {
  stands = λ calls stands. subst (λ (m : BTreeMap ℕ Pending). StandsWith calls (get nat_cmp m) new) (sym waiting)
      (ended calls (waits_of mid) first.key first.is_number first.stops (same calls (waits_of mid) (are.stands calls stands)));
  past = λ calls past. subst (λ (m : BTreeMap ℕ Pending). Past calls (get nat_cmp m) moment) (sym waiting)
      (past_on calls (waits_of mid) (waits_of taken) moment number pending first (are.past calls past));
  few = λ count open_now. few count (are.few count open_now);
}

-- or a flaw is found
pub flawed_one : (start mid taken : Timeline) (moment number : ℕ) (pending : Pending) (flaw : Flaw) → AreEnded start mid moment
    → IsFirstBefore (waits_of mid) (waits_of taken) moment number pending
    → ((calls : List Call) (waits : ℕ → Option Pending) → StandsWith calls waits mid → StandsWith calls waits taken)
    → IsFlawed taken number pending flaw → IsRuledOut start moment (record { number = number; flaw = flaw })
flawed_one start mid taken moment number pending flaw are first same flawed calls stands =
    let h = same calls (waits_of mid) (are.stands calls stands) in
    let told = flawed calls (waits_of mid) first.key moment first.is_number first.stops h first.before in (
      told.0,
      told.1,
      told.2,
      (
        (one taken pending calls (waits_of mid) first.key first.stops h).call,
        is_there taken pending calls (waits_of mid) first.key first.stops h number first.is_number,
        its_end taken pending calls (waits_of mid) first.key first.stops h moment first.before,
      ),
    )

-- the call that is taken from the queue ends
pub is_ending : (mid taken : Timeline) (moment number : ℕ) (pending : Pending) (calls : List Call) → StandsWith calls (waits_of mid) mid
    → IsFirstBefore (waits_of mid) (waits_of taken) moment number pending
    → ((calls : List Call) (waits : ℕ → Option Pending) → StandsWith calls waits mid → StandsWith calls waits taken)
    → IsEnding taken number pending
is_ending mid taken moment number pending calls stands first same =
    (calls, waits_of mid, first.key, first.is_number, first.stops, same calls (waits_of mid) stands)
