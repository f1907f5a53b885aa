-- An access or a `free` begins: what the parts of a timeline know.
use Rattle.std.proofs.Common.{◌≡◌, ◌≢◌, ◌↔◌, ℕ, ◌⊎◌, inl, inr, Bool, true, false, List, [], ◌∷◌, ◌++◌, length, refl, sym, subst, ◌∙◌, ap, Option, Some, None, option_map, nat_eq}
use Rattle.std.proofs.lemmas.Bool.{eqb-true}
use Rattle.std.proofs.lemmas.Bool.Decides.{eqb_tells}
use Rattle.model_words.specs.declared.commands.Command.{Command}
use Rattle.model_words.specs.declared.commands.Command.TheVariants.{New, Put, Get, Free, Alias, Addr, Peek, Poke, Copy as CopyBytes}
use Rattle.model_words.specs.declared.commands.Reply.{Reply}
use Rattle.model_intervals.specs.Intervals.{Call}
use Rattle.model_intervals.specs.Objects.{Object as AnObject, IsMadeAt, is_access, object_made}
use Rattle.model_intervals.specs.OverlappingCalls.{HasEffect, IsAt, IsFree, IsNew, cell_at}
use Rattle.history_overlaps.specs.Accesses.{is_access_of}
use Rattle.history_overlaps.specs.Judges.{IsExplained, IsJudged, live_of}
use Rattle.history_overlaps.specs.declared.life.Life.{Life}
use Rattle.history_overlaps.specs.Lives.{IsFreed, IsMade, Lives, NoneFrees}
use Rattle.history_overlaps.specs.Queues.{HasEnded, IsWaiting, MayBegin, Queue, Suits, key_of, object_of}
use Rattle.history_overlaps.specs.Timelines.{Holds, StartsWaiting}
use Rattle.history_overlaps.specs.declared.objects.NewObject.{NewObject}
use Rattle.history_overlaps.specs.declared.pending.Pending.{Pending}
use Rattle.history_overlaps.specs.declared.pending.Pending.TheVariants.{Made, Refused, Free as FreeEnds, Access}
use Rattle.history_overlaps.proofs.BegunSteps.{access_begun, free_begun, free_is_no_new}
use Rattle.history_overlaps.proofs.CallPlaces.{at_end, at_one, at_same}
use Rattle.history_overlaps.proofs.Finish.{idle_object}
use Rattle.history_overlaps.proofs.JudgesBegin.{access_begins, other_begins}
use Rattle.history_overlaps.proofs.LivesBegin.{another_begins, free_begins, freed_front, made_front}
use Rattle.history_overlaps.proofs.LivesWrong.{all_at}
use Rattle.history_overlaps.proofs.QueueSteps.{ended_below, one_key, queue_begins, small_place}
use Rattle.history_overlaps.proofs.StateBegin.{cells_stay, freed_stays, from, lives_same, named_front, to}

-- ---- what an access waits for

-- an effect on an object that is there is an access
effect_is_access : (command : Command) (reply : Reply) → HasEffect command reply → (IsNew command → ⊥) → (IsFree command → ⊥) → is_access command ≡ true
effect_is_access (New cell len word) reply effect no_new no_free = absurd (no_new tt)
effect_is_access (Put cell off bytes) reply effect no_new no_free = refl
effect_is_access (Get cell off len) reply effect no_new no_free = refl
effect_is_access (Free cell) reply effect no_new no_free = absurd (no_free tt)
effect_is_access (Addr cell) reply effect no_new no_free = refl
effect_is_access (Alias to from) reply effect no_new no_free = absurd effect
effect_is_access (Peek address) reply effect no_new no_free = absurd effect
effect_is_access (Poke address byte) reply effect no_new no_free = absurd effect
effect_is_access (CopyBytes to to_off from from_off len) reply effect no_new no_free = absurd effect

access_makes_none : (command : Command) (reply : Reply) → is_access command ≡ true → (x : AnObject) → object_made command reply ≡ Some x → ⊥
access_makes_none (New cell len word) reply access x made = cc access
access_makes_none command reply access x made = cc made

pub access_frees_none : (command : Command) → is_access command ≡ true → IsFree command → ⊥
access_frees_none (Free cell) access frees = cc access
access_frees_none command access frees = frees

pub access_is_no_new : (command : Command) → is_access command ≡ true → IsNew command → ⊥
access_is_no_new (New cell len word) access is_new = cc access
access_is_no_new command access is_new = is_new

new_is_no_access : (command : Command) (cell len word : ℕ) → command ≡ New cell len word → is_access command ≡ false
new_is_no_access command cell len word same = subst (λ (c : Command). is_access c ≡ false) (sym same) refl

-- an access waits as one
pub suits_access : (call : Call) (place : ℕ) (pending : Pending) → is_access call.entry.command ≡ true → Suits call place pending → pending ≡ Access (cell_at call)
suits_access call place (Made x) access suits = absurd (access_makes_none call.entry.command call.entry.reply access _ suits.0)
suits_access call place (Refused len refusal) access suits =
    absurd (let no = new_is_no_access call.entry.command suits.0 len suits.1 suits.2 in cc (no, access))
suits_access call place FreeEnds access suits = absurd (access_frees_none call.entry.command access suits)
suits_access call place (Access cell) access suits = ap (λ (c : ℕ). Access c) (sym suits.1)

pub waits_as_access : (calls : List Call) (waits : ℕ → Option Pending) → Queue calls waits → (i : ℕ) (a : Call) → IsAt calls i a → is_access a.entry.command ≡ true
    → (w : IsWaiting waits a i) → w.0 ≡ Access (cell_at a)
waits_as_access calls waits queue i a is access w =
    let at = queue.keyed (key_of a i) w.0 w.1 in
    let same = one_key a at.call i at.place (small_place calls waits queue i a is) (small_place calls waits queue at.place at.call at.there) at.is_key in
    let one = at_same calls i at.call a (subst (λ (q : ℕ). IsAt calls q at.call) (sym same) at.there) is in
    suits_access a at.place w.0 access (subst (λ (b : Call). Suits b at.place w.0) one at.suits)

pub accesses_cell : (cell : ℕ) (a : Call) → is_access_of cell a ≡ true → (is_access a.entry.command ≡ true) × (cell_at a ≡ cell)
accesses_cell cell a is = either (is_access a.entry.command) (nat_eq (cell_at a) cell) refl refl
  where
    either : (b d : Bool) → is_access a.entry.command ≡ b → nat_eq (cell_at a) cell ≡ d → (is_access a.entry.command ≡ true) × (cell_at a ≡ cell)
    either true true access same = (access, eqb-true (cell_at a) cell same)
    either true false access other = absurd (let no : is_access_of cell a ≡ false = rw (access, other) refl in cc (no, is))
    either false d other same = absurd (let no : is_access_of cell a ≡ false = rw other refl in cc (no, is))

pub access_of_cell : (cell : ℕ) (a : Call) → is_access a.entry.command ≡ true → cell_at a ≡ cell → is_access_of cell a ≡ true
access_of_cell cell a access same = elim (eqb_tells (cell_at a) cell) [
  | inl one ↦ rw (access, one.0) refl
  | inr two ↦ absurd (two.1 same)
]

-- ---- the transitions

-- the same of the same live objects
pub lives_turned : (calls : List Call) (ended : ℕ → Type 0) (live live' : ℕ → Option AnObject) (serials : ℕ → Type 0) → ((c : ℕ) → live' c ≡ live c)
    → Lives calls ended live serials → Lives calls ended live' serials
lives_turned calls ended live live' serials same h = record {
  fair = h.fair;
  has_serial = h.has_serial;
  of_serial = h.of_serial;
  serials_once = h.serials_once;
  apart = h.apart;
  live_is = λ c x is. h.live_is c x (sym (same c) ∙ is);
  made_is = λ i a x over made. elim (h.made_is i a x over made) [ inl alive ↦ inl (same x.cell ∙ alive) | inr freed ↦ inr freed ];
}

module _ (calls : List Call) (call : Call) (waits waits' : ℕ → Option Pending) (pending : Pending) (starting : StartsWaiting calls call waits waits' pending)
    (may : MayBegin calls waits call) (lives : ℕ → Option Life) (starts : ℕ → Option ℕ) (cells serials freed : ℕ → Type 0)
    (h : Holds calls waits lives starts cells serials freed) (cell : ℕ) (names : cell_at call ≡ cell) where
  module _ (life : Life) (alive : lives cell ≡ Some life) where
    live_cell : live_of lives cell ≡ Some (object_of life.object)
    live_cell = ap (λ (o : Option Life). option_map (λ l. object_of l.object) o) alive

    known : (life.object.cell ≡ cell) × NoneFrees calls cell × IsMade calls (HasEnded calls waits) (object_of life.object)
    known = h.living.live_is cell (object_of life.object) live_cell

    -- an access begins
    pub access_starts : (lives' : ℕ → Option Life) (life' : Life) → is_access call.entry.command ≡ true → pending ≡ Access cell
        → lives' cell ≡ Some life' → life'.object ≡ life.object → ((c : ℕ) → c ≢ cell → lives' c ≡ lives c)
        → IsJudged (calls ++ call ∷ []) waits' life'.object life'.judge
        → Holds (calls ++ call ∷ []) waits' lives' starts cells serials freed
    access_starts lives' life' access as_access now same others judged = record {
      queue = queue_begins calls call waits waits' pending h.queue may starting.now starting.others
          suits;
      history = access_begun calls call waits h.history may cell names (object_of life.object) known.0 known.1 known.2 no_new no_free;
      living = lives_turned (calls ++ call ∷ []) (HasEnded (calls ++ call ∷ []) waits') (live_of lives) (live_of lives') serials live_same
          (lives_same (calls ++ call ∷ []) (HasEnded calls waits) (HasEnded (calls ++ call ∷ []) waits') (live_of lives) serials
          (to calls call waits waits' pending starting may lives starts cells serials freed h suits)
          (from calls call waits waits' pending starting may lives starts cells serials freed h suits)
          (another_begins calls call (HasEnded calls waits) (ended_below calls waits) (live_of lives) serials h.living no_free));
      judges = access_begins calls call waits waits' pending h.queue may starting.now starting.others lives lives' h.judges cell access names
          (λ c l is. let g = old c l is in object_cell c g.0 l g.1 g.2)
          (λ l is. let one : life' ≡ l = cc (now, is) in subst (λ (k : Life). IsJudged (calls ++ call ∷ []) waits' k.object k.judge) one judged)
          others (life', now) known.1 as_access;
      started = λ c l is. let g = old c l is in subst (λ (o : NewObject). starts o.address ≡ Some c) g.2 (h.started c g.0 g.1);
      starts_of = λ address c is. let s = h.starts_of address c is in elim (eqb_tells c cell) [
        | inl one ↦ (
          life',
          subst (λ (q : ℕ). lives' q ≡ Some life') (sym one.1) now,
          ap (λ (o : NewObject). o.address) same ∙ (let l : life ≡ s.0 = (let at = s.1 in let at' = subst (λ (q : ℕ). lives q ≡ Some s.0) one.1 at in cc (alive, at')) in ap (λ (k : Life). k.object.address) l) ∙ s.2,
        )
        | inr two ↦ (s.0, others c two.1 ∙ s.1, s.2)
      ];
      numbered = λ c l is. let g = old c l is in subst (λ (o : NewObject). (b : Call) × IsMadeAt (calls ++ call ∷ []) o.number b (object_of o)) g.2
          (let m = h.numbered c g.0 g.1 in (m.0, made_front calls (call ∷ []) g.0.object.number m.0 (object_of g.0.object) m.1));
      has_cell = cells_stay calls call cells no_new h.has_cell;
      of_cell = λ c has. named_front calls call c (h.of_cell c has);
      freed_is = freed_stays calls call freed no_free h.freed_is;
    }
      where
        suits : Suits call (length calls) pending
        suits = subst (λ (p : Pending). Suits call (length calls) p) (sym as_access) (access, names)

        no_new : IsNew call.entry.command → ⊥
        no_new = access_is_no_new call.entry.command access

        no_free : IsFree call.entry.command → ⊥
        no_free = access_frees_none call.entry.command access

        -- what is live now was live before, as the same object
        old : (c : ℕ) (l : Life) → lives' c ≡ Some l → (k : Life) × (lives c ≡ Some k) × (k.object ≡ l.object)
        old c l is = elim (eqb_tells c cell) [
          | inl one ↦ (
            life,
            subst (λ (q : ℕ). lives q ≡ Some life) (sym one.1) alive,
            sym same ∙ (let at = subst (λ (q : ℕ). lives' q ≡ Some l) one.1 is in let e : life' ≡ l = cc (now, at) in ap (λ (k : Life). k.object) e),
          )
          | inr two ↦ (l, sym (others c two.1) ∙ is, refl)
        ]

        object_cell : (c : ℕ) (k l : Life) → lives c ≡ Some k → k.object ≡ l.object → l.object.cell ≡ c
        object_cell c k l is one = subst (λ (o : NewObject). o.cell ≡ c) one
            (h.living.live_is c (object_of k.object) (ap (λ (o : Option Life). option_map (λ l. object_of l.object) o) is)).0

        live_same : (c : ℕ) → live_of lives' c ≡ live_of lives c
        live_same c = elim (eqb_tells c cell) [
          | inl one ↦ ap (λ (q : ℕ). live_of lives' q) one.1 ∙ ap (λ (o : Option Life). option_map (λ l. object_of l.object) o) now
              ∙ ap (λ (o : NewObject). Some (object_of o)) same ∙ sym live_cell ∙ ap (λ (q : ℕ). live_of lives q) (sym one.1)
          | inr two ↦ ap (λ (o : Option Life). option_map (λ l. object_of l.object) o) (others c two.1)
        ]

    -- its `free` begins, while no access to it waits
    pub free_starts : (lives' : ℕ → Option Life) (starts' : ℕ → Option ℕ) (freed' : ℕ → Type 0) → IsFree call.entry.command → pending ≡ FreeEnds
        → ((key : ℕ) → waits key ≡ Some (Access cell) → ⊥)
        → lives' cell ≡ None → ((c : ℕ) → c ≢ cell → lives' c ≡ lives c)
        → starts' life.object.address ≡ None → ((a : ℕ) → a ≢ life.object.address → starts' a ≡ starts a)
        → ((c : ℕ) → freed' c ↔ ((c ≡ cell) ⊎ freed c))
        → Holds (calls ++ call ∷ []) waits' lives' starts' cells serials freed'
    free_starts lives' starts' freed' frees is_free idle gone others unset others_set more = record {
      queue = queue_begins calls call waits waits' pending h.queue may starting.now starting.others suits;
      history = free_begun calls call waits h.history may cell names (object_of life.object) known.0 known.1 known.2 no_new
          (λ i a is no_new no_free same. over i a is
          (not_waiting i a is (access_of_cell cell a
          (effect_is_access a.entry.command a.entry.reply (all_at (λ b. HasEffect b.entry.command b.entry.reply) calls i a h.history.have_effects is) no_new no_free) same)));
      living = lives_same (calls ++ call ∷ []) (HasEnded calls waits) (HasEnded (calls ++ call ∷ []) waits') (live_of lives') serials
          (to calls call waits waits' pending starting may lives starts cells serials freed h suits)
          (from calls call waits waits' pending starting may lives starts cells serials freed h suits)
          (free_begins calls call (HasEnded calls waits) (ended_below calls waits) (live_of lives) (live_of lives') serials cell h.living frees names
          (ap (λ (o : Option Life). option_map (λ l. object_of l.object) o) gone)
          (λ c two. ap (λ (o : Option Life). option_map (λ l. object_of l.object) o) (others c two)));
      judges = other_begins calls call waits waits' pending h.queue may starting.now starting.others lives lives' h.judges (free_is_no_access call.entry.command frees)
          old settles still (λ c e. free_or_access c (sym is_free ∙ e));
      started = λ c l is. let two = apart c l is in
          others_set l.object.address (λ e. two (let at = h.started c l (old c l is) in let at' = h.started cell life alive in
          let at'' = subst (λ (a : ℕ). starts a ≡ Some c) e at in cc (at'', at')))
          ∙ h.started c l (old c l is);
      starts_of = λ address c is. elim (eqb_tells address life.object.address) [
        | inl one ↦ absurd (let no = subst (λ (a : ℕ). starts' a ≡ None) (sym one.1) unset in cc (no, is))
        | inr two ↦ let s = h.starts_of address c (sym (others_set address two.1) ∙ is) in elim (eqb_tells c cell) [
          | inl here ↦ absurd (two.1 (sym s.2 ∙ (let at = subst (λ (q : ℕ). lives q ≡ Some s.0) here.1 s.1 in
              let e : s.0 ≡ life = cc (alive, at) in ap (λ (k : Life). k.object.address) e)))
          | inr there ↦ (s.0, others c there.1 ∙ s.1, s.2)
        ]
      ];
      numbered = λ c l is. let m = h.numbered c l (old c l is) in (m.0, made_front calls (call ∷ []) l.object.number m.0 (object_of l.object) m.1);
      has_cell = cells_stay calls call cells no_new h.has_cell;
      of_cell = λ c has. named_front calls call c (h.of_cell c has);
      freed_is = λ c. (
        λ f. elim ((more c).0 f) [
          | inl same ↦ record { place = length calls; free = call; there = at_end calls call; frees = frees; names = names ∙ sym same }
          | inr before ↦ freed_front calls (call ∷ []) c ((h.freed_is c).0 before)
        ],
        λ f. elim (at_one calls call f.place f.free f.there) [
          | inl front ↦ (more c).1 (inr ((h.freed_is c).1 (record { place = f.place; free = f.free; there = front; frees = f.frees; names = f.names })))
          | inr new ↦ (more c).1 (inl (sym f.names ∙ sym (subst (λ (b : Call). cell_at call ≡ cell_at b) new.1 refl) ∙ names))
        ],
      );
    }
      where
        suits : Suits call (length calls) pending
        suits = subst (λ (p : Pending). Suits call (length calls) p) (sym is_free) frees

        no_new : IsNew call.entry.command → ⊥
        no_new = free_is_no_new call.entry.command frees

        not_waiting : (i : ℕ) (a : Call) → IsAt calls i a → is_access_of cell a ≡ true → IsWaiting waits a i → ⊥
        not_waiting i a is access w =
            let own = accesses_cell cell a access in
            idle (key_of a i) (w.1 ∙ ap (λ (p : Pending). Some p) (waits_as_access calls waits h.queue i a is own.0 w ∙ ap (λ (c : ℕ). Access c) own.1))

        over : (i : ℕ) (a : Call) → IsAt calls i a → (IsWaiting waits a i → ⊥) → HasEnded calls waits i
        over i a is not = found (waits (key_of a i)) refl
          where
            found : (w : Option Pending) → waits (key_of a i) ≡ w → HasEnded calls waits i
            found None nothing = (a, is, nothing)
            found (Some p) some = absurd (not (p, some))

        apart : (c : ℕ) (l : Life) → lives' c ≡ Some l → c ≢ cell
        apart c l is e = let no = subst (λ (q : ℕ). lives' q ≡ None) (sym e) gone in cc (no, is)

        old : (c : ℕ) (l : Life) → lives' c ≡ Some l → lives c ≡ Some l
        old c l is = sym (others c (apart c l is)) ∙ is

        still : (key c : ℕ) → waits key ≡ Some (Access c) → (l : Life) × (lives' c ≡ Some l)
        still key c is = elim (eqb_tells c cell) [
          | inr two ↦ let l = h.judges.access key c is in (l.0, others c two.1 ∙ l.1)
          | inl one ↦ absurd (idle key (is ∙ ap (λ (q : ℕ). Some (Access q)) one.1))
        ]

        settles : (i : ℕ) (a : Call) (x : AnObject) → HasEnded calls waits i → IsMadeAt calls i a x → IsFreed (calls ++ call ∷ []) x.cell → IsExplained calls x
        settles i a x ended made gone_now = elim (h.living.made_is i a x ended made) [
          | inr before ↦ h.judges.settled i a x ended made before
          | inl alive_x ↦ elim (at_one calls call gone_now.place gone_now.free gone_now.there) [
            | inl front ↦ absurd ((h.living.live_is x.cell x alive_x).1 gone_now.place gone_now.free front gone_now.frees gone_now.names)
            | inr new ↦
                let this : x.cell ≡ cell = sym gone_now.names ∙ subst (λ (b : Call). cell_at b ≡ cell) new.1 names in
                let same : object_of life.object ≡ x = (let at = subst (λ (q : ℕ). live_of lives q ≡ Some x) this alive_x in let at' = live_cell in cc (at, at')) in
                subst (λ (y : AnObject). IsExplained calls y) same
                (idle_object calls waits life.object life.judge (h.judges.judged cell life alive)
                (λ k b is access w. not_waiting k b is (subst (λ (q : ℕ). is_access_of q b ≡ true) known.0 access) w))
          ]
        ]

        free_is_no_access : (command : Command) → IsFree command → is_access command ≡ false
        free_is_no_access (Free c) frees = refl
        free_is_no_access command frees = absurd frees

        free_or_access : (d : ℕ) → FreeEnds ≡ Access d → ⊥
        free_or_access d e = cc e
