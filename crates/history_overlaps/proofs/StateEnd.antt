-- A call ends: what the parts of a timeline know.
use Rattle.std.proofs.Common.{◌≡◌, ◌≢◌, ◌↔◌, ℕ, ◌<◌, ◌≤◌, ◌⊎◌, inl, inr, false, List, arith, refl, sym, subst, ◌∙◌, ap, Option, Some, None, option_map}
use Rattle.std.proofs.lemmas.Bool.Decides.{eqb_tells}
use Rattle.model_words.specs.declared.commands.Command.{Command}
use Rattle.model_words.specs.declared.commands.Command.TheVariants.{New, Free}
use Rattle.model_words.specs.declared.commands.Reply.{Reply}
use Rattle.model_intervals.specs.Intervals.{Call}
use Rattle.model_intervals.specs.Objects.{Object as AnObject, IsFairNew, IsMadeAt, Meet, is_access, object_made}
use Rattle.model_intervals.specs.OverlappingCalls.{IsAt, IsFree, IsNew, cell_at}
use Rattle.history_overlaps.specs.Judges.{IsJudged, live_of}
use Rattle.history_overlaps.specs.declared.life.Life.{Life}
use Rattle.history_overlaps.specs.Lives.{CannotBe, NoneFrees}
use Rattle.history_overlaps.specs.Queues.{HasEnded, IsWaiting, Queue, Suits, WaitsAt, key_of, object_of}
use Rattle.history_overlaps.specs.Timelines.{Holds, StopsWaiting}
use Rattle.history_overlaps.specs.declared.objects.NewObject.{NewObject}
use Rattle.history_overlaps.specs.declared.pending.Pending.{Pending}
use Rattle.history_overlaps.specs.declared.pending.Pending.TheVariants.{Free as FreeEnds}
use Rattle.history_overlaps.proofs.BegunSteps.{free_is_no_new}
use Rattle.history_overlaps.proofs.Fair.{fair_length}
use Rattle.history_overlaps.proofs.Finish.{life_of}
use Rattle.history_overlaps.proofs.JudgesEnd.{it_was_waiting, other_ends, placed_none}
use Rattle.history_overlaps.proofs.LivesEnd.{another_ends, made_at_cell, made_by_new, made_ends, refused_ends}
use Rattle.history_overlaps.proofs.LivesWrong.{maker_by_new, overlap, serial_again, unfair}
use Rattle.history_overlaps.proofs.QueueSteps.{ended_on, ended_or_this, ending, it_ended, it_waited, queue_ends, small_place}
use Rattle.history_overlaps.proofs.StateAccess.{access_is_no_new, accesses_cell}

module _ (calls : List Call) (waits waits' : ℕ → Option Pending) (key : ℕ) (pending : Pending) (stop : StopsWaiting waits waits' key pending) where
  module _ (lives : ℕ → Option Life) (starts : ℕ → Option ℕ) (cells serials freed : ℕ → Type 0) (h : Holds calls waits lives starts cells serials freed) where
    -- the call that ends
    abbrev pub this : WaitsAt calls key pending
    this = ending calls waits waits' key pending h.queue stop.was stop.gone stop.others

    pub split : (i : ℕ) → HasEnded calls waits' i → HasEnded calls waits i ⊎ (i ≡ this.place)
    split = ended_or_this calls waits waits' key pending h.queue stop.was stop.gone stop.others

    pub keep : (i : ℕ) → HasEnded calls waits i → HasEnded calls waits' i
    keep = ended_on calls waits waits' key pending h.queue stop.was stop.gone stop.others

    pub now : HasEnded calls waits' this.place
    now = it_ended calls waits waits' key pending h.queue stop.was stop.gone stop.others

    pub not_yet : HasEnded calls waits this.place → ⊥
    not_yet = it_waited calls waits waits' key pending h.queue stop.was stop.gone stop.others

    pub waiting : IsWaiting waits this.call this.place
    waiting = it_was_waiting calls waits waits' key pending h.queue stop.was stop.gone stop.others lives lives h.judges

    pub queue : Queue calls waits'
    queue = queue_ends calls waits waits' key pending h.queue stop.was stop.gone stop.others stop.least

    -- what ended before did so no later
    pub in_order : (i : ℕ) (b : Call) → HasEnded calls waits i → IsAt calls i b → b.end ≤ this.call.end
    in_order i b over is =
        let before = h.queue.order i this.place b this.call over is this.there waiting in
        let small = small_place calls waits h.queue this.place this.call this.there in omega (arith, before, small)

    -- a `free` ends
    pub free_ends : pending ≡ FreeEnds → Holds calls waits' lives starts cells serials freed
    free_ends is_free = record {
      queue = queue;
      history = h.history;
      living = another_ends calls (HasEnded calls waits) (HasEnded calls waits') this.place this.call this.there split keep now
          (free_is_no_new this.call.entry.command frees) (live_of lives) serials h.living;
      judges = other_ends calls waits waits' key pending h.queue stop.was stop.gone stop.others lives lives h.judges (free_is_no_access this.call.entry.command frees)
          (λ x made freed. free_makes_none this.call.entry.command this.call.entry.reply frees x made.1)
          (λ d life is. inl is) (λ d life is. (life, is));
      started = h.started;
      starts_of = h.starts_of;
      numbered = h.numbered;
      has_cell = h.has_cell;
      of_cell = h.of_cell;
      freed_is = h.freed_is;
    }
      where
        frees : IsFree this.call.entry.command
        frees = subst (λ (p : Pending). Suits this.call this.place p) is_free this.suits

        free_is_no_access : (command : Command) → IsFree command → is_access command ≡ false
        free_is_no_access (Free cell) frees = refl
        free_is_no_access command frees = absurd frees

        free_makes_none : (command : Command) (reply : Reply) → IsFree command → (x : AnObject) → object_made command reply ≡ Some x → ⊥
        free_makes_none (Free cell) reply frees x made = cc made
        free_makes_none command reply frees x made = frees

    -- ---- a `new` ends

    module _ (cell : ℕ) (names : cell_at this.call ≡ cell) (is_new : IsNew this.call.entry.command) where
      new_is_no_access : is_access this.call.entry.command ≡ false
      new_is_no_access = either this.call.entry.command is_new
        where
          either : (command : Command) → IsNew command → is_access command ≡ false
          either (New c len word) is = refl
          either command is = absurd is

      -- where it is not fair
      pub unfair_new : (moment : ℕ) → (IsFairNew this.call.entry.command this.call.entry.reply → ⊥) → CannotBe calls moment
      unfair_new moment not_fair = unfair calls (HasEnded calls waits) (live_of lives) serials h.living this.place this.call this.there not_yet is_new moment not_fair

      -- no `new` that has ended has the cell
      own : (j : ℕ) (d : Call) → HasEnded calls waits j → IsAt calls j d → IsNew d.entry.command → cell_at d ≢ cell_at this.call
      own j d over there new_d same = h.history.own_cells j this.place d this.call (λ e. not_yet (subst (λ (q : ℕ). HasEnded calls waits q) e over)) there this.there new_d is_new same

      -- no call that is no `new` names a cell of which no `new` has ended
      untouched : (i : ℕ) (a : Call) → IsAt calls i a → (IsNew a.entry.command → ⊥) → cell_at a ≡ cell → ⊥
      untouched i a is other same =
          let before = h.history.after_new i a is other in
          let over = ended_before i a is before.place before.call before.there before.ended in
          own before.place before.call over before.there (maker_by_new before.call.entry.command before.call.entry.reply before.makes)
          (before.names ∙ same ∙ sym names)
        where
          ended_before : (i : ℕ) (a : Call) → IsAt calls i a → (k : ℕ) (b : Call) → IsAt calls k b → b.end < a.begin → HasEnded calls waits k
          ended_before i a is k b there early = found (waits (key_of b k)) refl
            where
              found : (w : Option Pending) → waits (key_of b k) ≡ w → HasEnded calls waits k
              found None none = (b, there, none)
              found (Some p) some = absurd (let late = h.queue.reach k i b a there is (p, some) in omega (arith, late, early))

      unfreed : NoneFrees calls cell
      unfreed j free there frees same = untouched j free there (free_is_no_new free.entry.command frees) same

      module _ (fair : IsFairNew this.call.entry.command this.call.entry.reply) where
        -- it was refused
        pub refused_new_ends : object_made this.call.entry.command this.call.entry.reply ≡ None → Holds calls waits' lives starts cells serials freed
        refused_new_ends refused = record {
          queue = queue;
          history = h.history;
          living = refused_ends calls (HasEnded calls waits) (HasEnded calls waits') this.place this.call this.there split keep now is_new fair
              (live_of lives) (live_of lives) serials serials h.living own refused;
          judges = other_ends calls waits waits' key pending h.queue stop.was stop.gone stop.others lives lives h.judges new_is_no_access
              (λ x made freed. let m = made.1 in cc (refused, m)) (λ d life is. inl is) (λ d life is. (life, is));
          started = h.started;
          starts_of = h.starts_of;
          numbered = h.numbered;
          has_cell = h.has_cell;
          of_cell = h.of_cell;
          freed_is = h.freed_is;
        }

        -- it made an object
        module _ (object : NewObject) (in_cell : object.cell ≡ cell) (at_place : object.number ≡ this.place)
            (makes : object_made this.call.entry.command this.call.entry.reply ≡ Some (object_of object)) where
          pub taken_serial : (moment : ℕ) → serials object.serial → CannotBe calls moment
          taken_serial moment has = serial_again calls (HasEnded calls waits) (live_of lives) serials h.living this.place this.call this.there not_yet is_new moment
              (object_of object) makes has

          pub taken_range : (moment : ℕ) (c : ℕ) (x : AnObject) → live_of lives c ≡ Some x → Meet x (object_of object) → this.call.end < moment → CannotBe calls moment
          taken_range moment c x alive meet early = overlap calls (HasEnded calls waits) (live_of lives) serials h.living this.place this.call this.there not_yet is_new moment
              (object_of object) makes c x alive meet early in_order

          module _ (lives' : ℕ → Option Life) (starts' : ℕ → Option ℕ) (serials' : ℕ → Type 0) (fresh : serials object.serial → ⊥)
              (more_serials : (s : ℕ) → serials' s ↔ ((s ≡ object.serial) ⊎ serials s))
              (alive : lives' cell ≡ Some (record { object = object; judge = None })) (others : (c : ℕ) → c ≢ cell → lives' c ≡ lives c)
              (set : starts' object.address ≡ Some cell) (others_set : (a : ℕ) → a ≢ object.address → starts' a ≡ starts a)
              (some : 1 ≤ object.len)
              (clear : (c : ℕ) (life : Life) → lives c ≡ Some life → Meet (object_of life.object) (object_of object) → ⊥) where
            live_there : live_of lives' object.cell ≡ Some (object_of object)
            live_there = ap (λ (c : ℕ). live_of lives' c) in_cell ∙ ap (λ (o : Option Life). option_map (λ l. object_of l.object) o) alive

            not_live : (c : ℕ) (life : Life) → lives c ≡ Some life → c ≢ cell
            not_live c life is same =
                let l = h.living.live_is c (object_of life.object) (ap (λ (o : Option Life). option_map (λ l. object_of l.object) o) is) in
                own l.2.place l.2.call l.2.over l.2.there.0 (made_new l.2.place l.2.call l.2.there) (made_cell l.2.place l.2.call l.2.there ∙ l.0 ∙ same ∙ sym names)
              where
                made_cell : (i : ℕ) (a : Call) → IsMadeAt calls i a (object_of life.object) → cell_at a ≡ life.object.cell
                made_cell i a made = made_at_cell calls i a (object_of life.object) made

                made_new : (i : ℕ) (a : Call) → IsMadeAt calls i a (object_of life.object) → IsNew a.entry.command
                made_new i a made = made_by_new calls i a (object_of life.object) made

            pub made_new_ends : Holds calls waits' lives' starts' cells serials' freed
            made_new_ends = record {
              queue = queue;
              history = h.history;
              living = made_ends calls (HasEnded calls waits) (HasEnded calls waits') this.place this.call this.there split keep now is_new fair
                  (live_of lives) (live_of lives') serials serials' h.living own
                  (object_of object) makes fresh ((more_serials object.serial).1 (inl refl)) (λ s has. (more_serials s).1 (inr has))
                  (λ s has. elim ((more_serials s).0 has) [ inl one ↦ inr one | inr old ↦ inl old ])
                  live_there
                  (λ c two. ap (λ (o : Option Life). option_map (λ l. object_of l.object) o) (others c (λ e. two (e ∙ sym in_cell))))
                  (subst (λ (c : ℕ). NoneFrees calls c) (sym in_cell) unfreed)
                  (λ c x is meet. let l = life_of lives c x is in clear c l.0 l.1 (subst (λ (y : AnObject). Meet y (object_of object)) (sym l.2) meet))
                  (λ k f is. h.queue.reach this.place k this.call f this.there is waiting);
              judges = other_ends calls waits waits' key pending h.queue stop.was stop.gone stop.others lives lives' h.judges new_is_no_access
                  (λ x made freed. unfreed freed.place freed.free freed.there freed.frees
                  (freed.names ∙ (let m = made.1 in let one : object_of object ≡ x = cc (makes, m) in ap (λ (y : AnObject). y.cell) (sym one)) ∙ in_cell))
                  (λ d life is. elim (eqb_tells d cell) [
                    | inl same ↦ inr (
                        let at = subst (λ (q : ℕ). lives' q ≡ Some life) same.1 is in
                        let one : record { object = object; judge = None } ≡ life = cc (alive, at) in
                        subst (λ (l : Life). IsJudged calls waits' l.object l.judge) one
                        (placed_none 0 object.cell calls (λ i a there access.
                        let own = accesses_cell object.cell a access in
                        untouched i a there (access_is_no_new a.entry.command own.0) (own.1 ∙ in_cell))))
                    | inr apart ↦ inl (sym (others d apart.1) ∙ is)
                  ])
                  (λ d life is. (life, others d (not_live d life is) ∙ is));
              started = λ c life is. elim (eqb_tells c cell) [
                | inl same ↦
                    let at = subst (λ (q : ℕ). lives' q ≡ Some life) same.1 is in
                    let one : record { object = object; judge = None } ≡ life = cc (alive, at) in
                    subst (λ (l : Life). starts' l.object.address ≡ Some c) one (set ∙ ap (λ (q : ℕ). Some q) (sym same.1))
                | inr apart ↦
                    let old = sym (others c apart.1) ∙ is in
                    others_set life.object.address (λ e. clear c life old (meets life (filled c life old) e)) ∙ h.started c life old
              ];
              starts_of = λ address c is. elim (eqb_tells address object.address) [
                | inl same ↦
                    let at = subst (λ (q : ℕ). starts' q ≡ Some c) same.1 is in
                    let one : c ≡ cell = cc (at, set) in
                    (record { object = object; judge = None }, subst (λ (q : ℕ). lives' q ≡ Some (record { object = object; judge = None })) (sym one) alive, sym same.1)
                | inr apart ↦
                    let s = h.starts_of address c (sym (others_set address apart.1) ∙ is) in
                    (s.0, others c (not_live c s.0 s.1) ∙ s.1, s.2)
              ];
              numbered = λ c life is. elim (eqb_tells c cell) [
                | inl same ↦
                    let at = subst (λ (q : ℕ). lives' q ≡ Some life) same.1 is in
                    let one : record { object = object; judge = None } ≡ life = cc (alive, at) in
                    subst (λ (l : Life). (b : Call) × IsMadeAt calls l.object.number b (object_of l.object)) one
                    (this.call, (subst (λ (n : ℕ). IsAt calls n this.call) (sym at_place) this.there, makes))
                | inr apart ↦ h.numbered c life (sym (others c apart.1) ∙ is)
              ];
              has_cell = h.has_cell;
              of_cell = h.of_cell;
              freed_is = h.freed_is;
            }
              where
                meets : (life : Life) → 1 ≤ life.object.len → life.object.address ≡ object.address → Meet (object_of life.object) (object_of object)
                meets life long same = (omega (arith, some, same), omega (arith, long, same))

                filled : (c : ℕ) (life : Life) → lives c ≡ Some life → 1 ≤ life.object.len
                filled c life is =
                    let l = h.living.live_is c (object_of life.object) (ap (λ (o : Option Life). option_map (λ l. object_of l.object) o) is) in
                    fair_length l.2.call.entry.command l.2.call.entry.reply (object_of life.object) l.2.there.1 (h.living.fair l.2.place l.2.call l.2.over l.2.there.0)
