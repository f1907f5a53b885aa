-- Calls end: the judges of the live objects.
use Rattle.std.proofs.Common.{◌≡◌, ◌≢◌, ◌↔◌, ℕ, suc, ◌⊎◌, inl, inr, true, false, List, [], ◌∷◌, refl, sym, subst, ◌∙◌, Option, Some, None}
use Rattle.std.proofs.lemmas.Bool.Decides.{eqb_tells}
use Rattle.model_intervals.specs.Intervals.{Call}
use Rattle.model_words.specs.declared.commands.Command.{Command}
use Rattle.model_words.specs.declared.commands.Command.TheVariants.{New}
use Rattle.model_words.specs.declared.commands.Reply.{Reply}
use Rattle.model_intervals.specs.Objects.{Object as AnObject, IsMadeAt, is_access, object_made}
use Rattle.model_intervals.specs.OverlappingCalls.{IsAt, cell_at}
use Rattle.history_overlaps.specs.Accesses.{is_access_of, placed_from}
use Rattle.history_overlaps.specs.Judges.{AccessJudge, IsExplained, IsJudged, Judges}
use Rattle.history_overlaps.specs.declared.life.Life.{Life}
use Rattle.history_overlaps.specs.Lives.{IsFreed}
use Rattle.history_overlaps.specs.Queues.{HasEnded, IsWaiting, Queue, WaitsAt, key_of}
use Rattle.history_overlaps.specs.declared.objects.NewObject.{NewObject}
use Rattle.history_overlaps.specs.declared.pending.Pending.{Pending}
use Rattle.history_overlaps.specs.declared.pending.Pending.TheVariants.{Access}
use Rattle.history_overlaps.proofs.AccessOrders.{tells}
use Rattle.history_overlaps.proofs.CallPlaces.{at_same}
use Rattle.history_overlaps.proofs.Follows.{follow_other_end}
use Rattle.history_overlaps.proofs.JudgesBegin.{no_access_of, other_access_of}
use Rattle.history_overlaps.proofs.QueueSteps.{ended_or_this, ending, one_key, small_place, waited_too}

-- where no call is an access to a cell, its list of accesses is empty
pub placed_none : (place cell : ℕ) (calls : List Call) → ((i : ℕ) (a : Call) → IsAt calls i a → is_access_of cell a ≡ true → ⊥) → placed_from place cell calls ≡ []
placed_none place cell [] none = refl
placed_none place cell (call ∷ calls) none = elim (tells (is_access_of cell call)) [
  | inl is ↦ absurd (none 0 call refl is)
  | inr other ↦ rw other (placed_none (suc place) cell calls (λ i a is. none (suc i) a is))
]

module _ (calls : List Call) (waits waits' : ℕ → Option Pending) (key : ℕ) (pending : Pending) (queue : Queue calls waits) (at : waits key ≡ Some pending)
    (gone : waits' key ≡ None) (others : (q : ℕ) → q ≢ key → waits' q ≡ waits q) (lives lives' : ℕ → Option Life) (h : Judges calls waits lives) where
  abbrev pub this : WaitsAt calls key pending
  this = ending calls waits waits' key pending queue at gone others

  pub it_was_waiting : IsWaiting waits this.call this.place
  it_was_waiting = (pending, subst (λ (q : ℕ). waits q ≡ Some pending) this.is_key at)

  pub it_waits_no_more : IsWaiting waits' this.call this.place → ⊥
  it_waits_no_more w = let none = subst (λ (q : ℕ). waits' q ≡ None) this.is_key gone in let some = w.1 in cc (none, some)

  pub others_wait : (i : ℕ) (a : Call) → IsAt calls i a → i ≢ this.place → IsWaiting waits a i ↔ IsWaiting waits' a i
  others_wait i a is apart = (
    λ w. (w.0, others (key_of a i) (λ same. apart (one_place i a is (same ∙ this.is_key))) ∙ w.1),
    λ w. (w.0, (waited_too calls waits waits' key pending queue at gone others (key_of a i) w.0 w.1).1),
  )
    where
      one_place : (i : ℕ) (a : Call) → IsAt calls i a → key_of a i ≡ key_of this.call this.place → i ≡ this.place
      one_place i a is same = one_key a this.call i this.place (small_place calls waits queue i a is) (small_place calls waits queue this.place this.call this.there) same

  pub judged_other : (object : NewObject) (judge : Option AccessJudge) → is_access_of object.cell this.call ≡ false → IsJudged calls waits object judge
      → IsJudged calls waits' object judge
  judged_other object None other none = none
  judged_other object (Some judge) other follows =
      follow_other_end calls waits waits' this.place this.call object this.there it_was_waiting it_waits_no_more others_wait judge follows other

  settled_still : ((x : AnObject) → IsMadeAt calls this.place this.call x → IsFreed calls x.cell → ⊥)
      → (i : ℕ) (a : Call) (x : AnObject) → HasEnded calls waits' i → IsMadeAt calls i a x → IsFreed calls x.cell → IsExplained calls x
  settled_still unfreed i a x over is freed = elim (ended_or_this calls waits waits' key pending queue at gone others i over) [
    | inl old ↦ h.settled i a x old is freed
    | inr same ↦ absurd (
        let there = subst (λ (q : ℕ). IsMadeAt calls q a x) same is in
        let one = at_same calls this.place this.call a this.there there.0 in
        unfreed x (this.there, subst (λ (b : Call). object_made b.entry.command b.entry.reply ≡ Some x) (sym one) there.1) freed)
  ]

  -- a call that is no access ends
  pub other_ends : is_access this.call.entry.command ≡ false
      → ((x : AnObject) → IsMadeAt calls this.place this.call x → IsFreed calls x.cell → ⊥)
      → ((c : ℕ) (life : Life) → lives' c ≡ Some life → (lives c ≡ Some life) ⊎ IsJudged calls waits' life.object life.judge)
      → ((c : ℕ) (life : Life) → lives c ≡ Some life → (now : Life) × (lives' c ≡ Some now))
      → Judges calls waits' lives'
  other_ends other unfreed keeps stays = record {
    judged = λ c life is. elim (keeps c life is) [
      | inl old ↦ judged_other life.object life.judge (no_access_of life.object.cell this.call other) (h.judged c life old)
      | inr new ↦ new
    ];
    settled = settled_still unfreed;
    access = λ q c is.
        let life = h.access q c (waited_too calls waits waits' key pending queue at gone others q (Access c) is).1 in stays c life.0 life.1;
  }

  -- an access ends
  pub access_ends : (cell : ℕ) → is_access this.call.entry.command ≡ true → cell_at this.call ≡ cell
      → ((c : ℕ) (life : Life) → lives' c ≡ Some life → life.object.cell ≡ c)
      → ((life : Life) → lives' cell ≡ Some life → IsJudged calls waits' life.object life.judge)
      → ((c : ℕ) → c ≢ cell → lives' c ≡ lives c)
      → (life : Life) × (lives' cell ≡ Some life)
      → Judges calls waits' lives'
  access_ends cell access names in_cell judged_now others_live alive = record {
    judged = λ c life is. elim (eqb_tells c cell) [
      | inl same ↦ judged_now life (subst (λ (q : ℕ). lives' q ≡ Some life) same.1 is)
      | inr apart ↦ judged_other life.object life.judge
          (other_access_of life.object.cell this.call (λ e. apart.1 (sym (in_cell c life is) ∙ sym e ∙ names)))
          (h.judged c life (sym (others_live c apart.1) ∙ is))
    ];
    settled = settled_still (λ x made freed. access_makes_none this.call.entry.command this.call.entry.reply access x made.1);
    access = λ q c is. elim (eqb_tells c cell) [
      | inl same ↦ subst (λ (d : ℕ). (life : Life) × (lives' d ≡ Some life)) (sym same.1) alive
      | inr apart ↦
          let life = h.access q c (waited_too calls waits waits' key pending queue at gone others q (Access c) is).1 in (life.0, others_live c apart.1 ∙ life.1)
    ];
  }
    where
      access_makes_none : (command : Command) (reply : Reply) → is_access command ≡ true → (x : AnObject) → object_made command reply ≡ Some x → ⊥
      access_makes_none (New cell len word) reply access x made = cc access
      access_makes_none command reply access x made = cc made
