-- A call begins: what a timeline knows.
use Rattle.std.proofs.Common.{◌≡◌, ◌≢◌, ◌↔◌, ℕ, zero, suc, ◌+◌, ◌*◌, ◌%◌, ◌⊎◌, inl, inr, true, List, [], ◌∷◌, ◌++◌, length, arith, refl, sym, subst, ◌∙◌, ap, Option, Some, None, option_map}
use Rattle.model_memory.specs.Plain.{Entry}
use Rattle.model_words.specs.declared.commands.Command.{Command}
use Rattle.model_words.specs.declared.commands.Command.TheVariants.{New, Free}
use Rattle.model_words.specs.declared.commands.Reply.{Reply}
use Rattle.model_intervals.specs.Intervals.{Call}
use Rattle.model_intervals.specs.Objects.{is_access, object_made}
use Rattle.model_intervals.specs.OverlappingCalls.{IsAt, IsFree, IsNew, cell_at, cell_of}
use Rattle.history_number_set.specs.Ranges.{Has}
use Rattle.history_overlaps.specs.Accesses.{access_of}
use Rattle.history_overlaps.specs.Begins.{IsFirstAccess, IsNewPending, IsStray}
use Rattle.history_overlaps.specs.Judges.{live_of}
use Rattle.history_overlaps.specs.LifeSteps.{HasBegun}
use Rattle.history_overlaps.specs.Lives.{IsFreed, IsNamed}
use Rattle.history_overlaps.specs.Misuses.{IsMisusedAt}
use Rattle.history_overlaps.specs.Queues.{MayBegin, Suits, object_of}
use Rattle.history_overlaps.specs.Standing.{HasBegunIn, IsMisusedSo, Stands, lives_of, starts_of, waits_of}
use Rattle.history_overlaps.specs.Timelines.{FewOpen, Holds, StartsWaiting}
use Rattle.history_overlaps.specs.declared.life.Life.{Life}
use Rattle.history_overlaps.specs.declared.misuses.Misuse.TheVariants.{CellAgain, NotAfterNew, NotBeforeFree}
use Rattle.history_overlaps.specs.declared.misuses.NotBegun.{NotBegun}
use Rattle.history_overlaps.specs.declared.misuses.NotBegun.TheVariants.{Misused}
use Rattle.history_overlaps.specs.declared.pending.Pending.{Pending}
use Rattle.history_overlaps.specs.declared.pending.Pending.TheVariants.{Made, Refused, Free as FreeEnds, Access}
use Rattle.history_overlaps.specs.declared.timeline.Timeline.{Timeline}
use Rattle.history_overlaps.proofs.BegunWrong.{before_new, behind_free, not_idle, used_cell}
use Rattle.history_overlaps.proofs.Finish.{life_of}
use Rattle.history_overlaps.proofs.LifeSteps.{few_begun, judged_now}
use Rattle.history_overlaps.proofs.QueueSteps.{small_place}
use Rattle.history_overlaps.proofs.StateAccess.{access_of_cell, access_starts, free_starts}
use Rattle.history_overlaps.proofs.StateBegin.{new_starts}

-- the parts of a timeline where a call has begun
abbrev pub BegunParts : Timeline → (ℕ → Option Life) → (ℕ → Option ℕ) → (ℕ → Type 0) → (ℕ → Type 0) → (ℕ → Type 0) → ℕ → Entry → Pending → Type 0
BegunParts old lives' starts' cells' serials' freed' number entry pending = (calls : List Call) (call : Call) (waits' : ℕ → Option Pending) → length calls ≡ number → call.entry ≡ entry
    → Stands calls old → MayBegin calls (waits_of old) call → StartsWaiting calls call (waits_of old) waits' pending
    → Holds (calls ++ call ∷ []) waits' lives' starts' cells' serials' freed'

-- an access to a live object
pub access_so : (old : Timeline) (lives' : ℕ → Option Life) (number cell : ℕ) (entry : Entry) → HasBegunIn (lives_of old) lives' cell number entry
    → is_access entry.command ≡ true → cell_of entry.command ≡ cell
    → BegunParts old lives' (starts_of old) (Has old.cells) (Has old.serials) (Has old.freed) number entry (Access cell)
access_so old lives' number cell entry begun access names calls call waits' long is holds may starting =
    let life = begun.0 in let life' = begun.1 in let alive = begun.2 in let set = begun.3 in let same = begun.4 in let steps = begun.5 in
    let access' = subst (λ (e : Entry). is_access e.command ≡ true) (sym is) access in
    let names' : cell_at call ≡ cell = subst (λ (e : Entry). cell_of e.command ≡ cell) (sym is) names in
    let in_cell = (holds.living.live_is cell (object_of life.object) (ap (λ (o : Option Life). option_map (λ l. object_of l.object) o) alive)).0 in
    let own = access_of_cell life.object.cell call access' (names' ∙ sym in_cell) in
    let steps' = subst (λ (e : Entry). HasBegun life life' (length calls) (access_of life.object.address e.command e.reply)) (sym is)
    (subst (λ (n : ℕ). HasBegun life life' n (access_of life.object.address entry.command entry.reply)) (sym long) steps) in
    let judged = judged_now calls call (waits_of old) waits' (Access cell) starting may holds.queue life life' steps' same own (holds.judges.judged cell life alive) in
    access_starts calls call (waits_of old) waits' (Access cell) starting may (lives_of old) (starts_of old) (Has old.cells) (Has old.serials) (Has old.freed) holds
    cell names' life alive lives' life' access' refl set.0 same set.1 judged

-- the `free` of a live object to which no access waits
pub free_so : (old : Timeline) (lives' : ℕ → Option Life) (starts' : ℕ → Option ℕ) (freed' : ℕ → Type 0) (number cell : ℕ) (entry : Entry) (life : Life) → entry.command ≡ Free cell
    → IsFirstAccess (waits_of old) cell None
    → lives_of old cell ≡ Some life → lives' cell ≡ None → ((c : ℕ) → c ≢ cell → lives' c ≡ lives_of old c)
    → starts' life.object.address ≡ None → ((a : ℕ) → a ≢ life.object.address → starts' a ≡ starts_of old a)
    → ((c : ℕ) → freed' c ↔ ((c ≡ cell) ⊎ Has old.freed c))
    → BegunParts old lives' starts' (Has old.cells) (Has old.serials) freed' number entry FreeEnds
free_so old lives' starts' freed' number cell entry life frees idle alive gone others unset others_set more calls call waits' long is holds may starting =
    let frees' : call.entry.command ≡ Free cell = ap (λ (e : Entry). e.command) is ∙ frees in
    free_starts calls call (waits_of old) waits' FreeEnds starting may (lives_of old) (starts_of old) (Has old.cells) (Has old.serials) (Has old.freed) holds
    cell (ap (λ (c : Command). cell_of c) frees') life alive lives' starts' freed' (subst (λ (c : Command). IsFree c) (sym frees') tt) refl idle gone others unset others_set more

-- a `new` of a cell that no earlier `new` has
pub new_so : (old : Timeline) (cells' : ℕ → Type 0) (number cell len word : ℕ) (entry : Entry) (pending : Pending) → entry.command ≡ New cell len word
    → IsNewPending number cell len entry.reply pending → (Has old.cells cell → ⊥) → ((c : ℕ) → cells' c ↔ ((c ≡ cell) ⊎ Has old.cells c))
    → BegunParts old (lives_of old) (starts_of old) cells' (Has old.serials) (Has old.freed) number entry pending
new_so old cells' number cell len word entry pending is_new will unused more calls call waits' long is holds may starting =
    let is_new' : call.entry.command ≡ New cell len word = ap (λ (e : Entry). e.command) is ∙ is_new in
    let names : cell_at call ≡ cell = ap (λ (c : Command). cell_of c) is_new' in
    new_starts calls call (waits_of old) waits' pending starting may (lives_of old) (starts_of old) (Has old.cells) (Has old.serials) (Has old.freed) holds
    (subst (λ (n : ℕ). Suits call n pending) (sym long)
    (suits pending (subst (λ (e : Entry). IsNewPending number cell len e.reply pending) (sym is) will) is_new')) cells'
    (subst (λ (c : Command). IsNew c) (sym is_new') tt) (no_access entry.reply pending will)
    (λ has. unused (subst (λ (c : ℕ). Has old.cells c) names has))
    (λ c. subst (λ (d : ℕ). cells' c ↔ ((c ≡ d) ⊎ Has old.cells c)) (sym names) (more c))
  where
    suits : (p : Pending) → IsNewPending number cell len call.entry.reply p → call.entry.command ≡ New cell len word → Suits call number p
    suits (Made x) will is = (subst (λ (c : Command). object_made c call.entry.reply ≡ Some (object_of x)) (sym is) (will.1 word), will.0)
    suits (Refused l refusal) will is = (cell, word, is ∙ ap (λ (q : ℕ). New cell q word) (sym will.0), will.1)
    suits FreeEnds will is = absurd will
    suits (Access c) will is = absurd will

    no_access : (reply : Reply) (p : Pending) → IsNewPending number cell len reply p → (c : ℕ) → p ≡ Access c → ⊥
    no_access reply (Made x) will c e = cc e
    no_access reply (Refused l refusal) will c e = cc e
    no_access reply FreeEnds will c e = will
    no_access reply (Access d) will c e = will

-- ---- calls that break a rule of use

-- a `new` of a cell that an earlier `new` has
pub again_so : (old : Timeline) (number cell len word : ℕ) (entry : Entry) → entry.command ≡ New cell len word → Has old.cells cell
    → IsMisusedSo old number entry (Misused (record { number = number; misuse = CellAgain }))
again_so old number cell len word entry is_new has calls call long is holds may =
    let is_new' : call.entry.command ≡ New cell len word = ap (λ (e : Entry). e.command) is ∙ is_new in
    subst (λ (n : ℕ). IsMisusedAt (calls ++ call ∷ []) n CellAgain) long
    (used_cell calls call (waits_of old) may (subst (λ (c : Command). IsNew c) (sym is_new') tt)
    (subst (λ (c : ℕ). IsNamed calls c) (sym (ap (λ (c : Command). cell_of c) is_new')) (holds.of_cell cell has)))

-- a call on no live object
module _ (old : Timeline) (number cell : ℕ) (entry : Entry) (none : lives_of old cell ≡ None) (names : cell_of entry.command ≡ cell) where
  freed_so : Has old.freed cell → IsMisusedSo old number entry (Misused (record { number = number; misuse = NotBeforeFree }))
  freed_so has calls call long is holds may =
      subst (λ (n : ℕ). IsMisusedAt (calls ++ call ∷ []) n NotBeforeFree) long
      (behind_free calls call (waits_of old) may (subst (λ (c : ℕ). IsFreed calls c) (sym (named call is)) ((holds.freed_is cell).0 has)))
    where
      named : (call : Call) → call.entry ≡ entry → cell_at call ≡ cell
      named call is = subst (λ (e : Entry). cell_of e.command ≡ cell) (sym is) names

  unmade_so : (Has old.freed cell → ⊥) → (IsNew entry.command → ⊥) → IsMisusedSo old number entry (Misused (record { number = number; misuse = NotAfterNew }))
  unmade_so unfreed no_new calls call long is holds may =
      let named : cell_at call ≡ cell = subst (λ (e : Entry). cell_of e.command ≡ cell) (sym is) names in
      subst (λ (n : ℕ). IsMisusedAt (calls ++ call ∷ []) n NotAfterNew) long
      (before_new calls call (waits_of old) may (live_of (lives_of old)) (Has old.serials) holds.living
      (subst (λ (e : Entry). IsNew e.command → ⊥) (sym is) no_new)
      (subst (λ (c : ℕ). live_of (lives_of old) c ≡ None) (sym named) (ap (λ (o : Option Life). option_map (λ l. object_of l.object) o) none))
      (λ freed. unfreed ((holds.freed_is cell).1 (subst (λ (c : ℕ). IsFreed calls c) named freed))))

  pub stray_so : (not_begun : NotBegun) → IsStray (Has old.freed) number cell not_begun → (IsNew entry.command → ⊥) → IsMisusedSo old number entry not_begun
  stray_so not_begun stray no_new = elim stray [
    | inl freed ↦ subst (λ (b : NotBegun). IsMisusedSo old number entry b) (sym freed.1) (freed_so freed.0)
    | inr unmade ↦ subst (λ (b : NotBegun). IsMisusedSo old number entry b) (sym unmade.1) (unmade_so unmade.0 no_new)
  ]

-- a `free` of an object to which an access waits
pub busy_so : (old : Timeline) (number cell access : ℕ) (entry : Entry) → entry.command ≡ Free cell → IsFirstAccess (waits_of old) cell (Some access)
    → IsMisusedSo old number entry (Misused (record { number = access; misuse = NotBeforeFree }))
busy_so old number cell access entry frees waiting calls call long is holds may =
    let frees' : call.entry.command ≡ Free cell = ap (λ (e : Entry). e.command) is ∙ frees in
    let at = holds.queue.keyed waiting.0 (Access cell) waiting.1 in
    let key = at.is_key in let small = small_place calls (waits_of old) holds.queue at.place at.call at.there in let told = waiting.2 in
    let place : at.place ≡ access = omega (arith, key, small, told) in
    subst (λ (n : ℕ). IsMisusedAt (calls ++ call ∷ []) n NotBeforeFree) place
    (not_idle calls call (waits_of old) may (subst (λ (c : Command). IsFree c) (sym frees') tt) at.place at.call at.there
    (Access cell, subst (λ (q : ℕ). waits_of old q ≡ Some (Access cell)) at.is_key waiting.1)
    (at.suits.1 ∙ sym (ap (λ (c : Command). cell_of c) frees')))

-- what is open where an object is live no more
pub few_less : (lives lives' : ℕ → Option Life) (count : ℕ) → ((c : ℕ) (life : Life) → lives' c ≡ Some life → lives c ≡ Some life) → FewOpen lives count → FewOpen lives' count
few_less lives lives' count old few c life judge number is = few c life judge number (old c life is)

pub few_more : (lives : ℕ → Option Life) (count : ℕ) → FewOpen lives count → FewOpen lives (count + 1)
few_more lives count few c life judge number is has opened = let low = few c life judge number is has opened in omega (arith, low)

pub few_begun_in : (lives lives' : ℕ → Option Life) (cell count : ℕ) (entry : Entry) → FewOpen lives count → HasBegunIn lives lives' cell count entry → FewOpen lives' (count + 1)
few_begun_in lives lives' cell count entry few begun =
    few_begun lives lives' cell count begun.0 begun.1 (access_of begun.0.object.address entry.command entry.reply) few begun.2 begun.3.0 begun.3.1 begun.5

-- ---- a timeline of no call

pub nothing_stands : (waits : ℕ → Option Pending) (lives : ℕ → Option Life) (starts : ℕ → Option ℕ) (cells serials freed : ℕ → Type 0)
    → ((key : ℕ) → waits key ≡ None) → ((c : ℕ) → lives c ≡ None) → ((a : ℕ) → starts a ≡ None) → ((n : ℕ) → cells n → ⊥) → ((n : ℕ) → serials n → ⊥) → ((n : ℕ) → freed n → ⊥)
    → Holds [] waits lives starts cells serials freed
nothing_stands waits lives starts cells serials freed no_wait no_life no_start no_cell no_serial no_freed = record {
  queue = record {
    keyed = λ key p is. absurd (let no = no_wait key in cc (no, is));
    reach = λ i j a b at_i at_j w. absurd (nowhere i a at_i);
    order = λ i j a b over at_i at_j w. absurd (nowhere i a at_i);
    few = omega arith;
  };
  history = record {
    take_time = λ i d below. absurd (omega (arith, below));
    have_effects = λ i d below. absurd (omega (arith, below));
    have_cells = λ i d below. absurd (omega (arith, below));
    own_cells = λ i j a b apart at_i at_j new_i new_j. absurd (nowhere i a at_i);
    after_new = λ i a is other. absurd (nowhere i a is);
    before_free = λ i j a f apart at_i at_j frees same. absurd (nowhere i a at_i);
  };
  living = record {
    fair = λ i a over is. absurd (nowhere i a is);
    has_serial = λ i a x over is. absurd (nowhere i a is.0);
    of_serial = λ s has. absurd (no_serial s has);
    serials_once = λ i j a b x y apart over_i over_j at_i at_j. absurd (nowhere i a at_i.0);
    apart = λ i j a b x y apart over_i over_j at_i at_j meet. absurd (nowhere i a at_i.0);
    live_is = λ c x is. absurd (let l = life_of lives c x is in let no = no_life c in let some = l.1 in cc (no, some));
    made_is = λ i a x over is. absurd (nowhere i a is.0);
  };
  judges = record {
    judged = λ c life is. absurd (let no = no_life c in cc (no, is));
    settled = λ i a x over made freed. absurd (nowhere i a made.0);
    access = λ key c is. absurd (let no = no_wait key in cc (no, is));
  };
  started = λ c life is. absurd (let no = no_life c in cc (no, is));
  starts_of = λ a c is. absurd (let no = no_start a in cc (no, is));
  numbered = λ c life is. absurd (let no = no_life c in cc (no, is));
  has_cell = λ i a is is_new. absurd (nowhere i a is);
  of_cell = λ c has. absurd (no_cell c has);
  freed_is = λ c. (λ f. absurd (no_freed c f), λ f. absurd (nowhere f.place f.free f.there));
}
  where
    nowhere : (i : ℕ) (a : Call) → IsAt [] i a → ⊥
    nowhere zero a is = cc is
    nowhere (suc i) a is = cc is
