-- Calls begin: the judges of the live objects.
use Rattle.std.proofs.Common.{◌≡◌, ◌≢◌, ◌↔◌, ℕ, inl, inr, Bool, true, false, ◌&&◌, List, [], ◌∷◌, ◌++◌, length, map, refl, sym, subst, ◌∙◌, ap, Option, Some, None}
use Rattle.std.specs.List.Sorted.{IsPermutation}
use Rattle.std.proofs.lemmas.Bool.Decides.{eqb_tells}
use Rattle.model_words.specs.declared.commands.Command.{Command}
use Rattle.model_words.specs.declared.commands.Command.TheVariants.{Free}
use Rattle.model_intervals.specs.Intervals.{Call}
use Rattle.model_intervals.specs.Objects.{Object as AnObject, IsMadeAt, accesses_of, is_access}
use Rattle.model_intervals.specs.OverlappingCalls.{IsAt, IsFree, cell_at}
use Rattle.history_overlaps.specs.Accesses.{is_access_of}
use Rattle.history_overlaps.specs.Judges.{AccessJudge, IsExplained, IsJudged, Judges}
use Rattle.history_overlaps.specs.declared.life.Life.{Life}
use Rattle.history_overlaps.specs.Lives.{IsFreed, NoneFrees}
use Rattle.history_overlaps.specs.Queues.{HasEnded, IsWaiting, MayBegin, Queue, key_of}
use Rattle.history_overlaps.specs.declared.objects.NewObject.{NewObject}
use Rattle.history_overlaps.specs.declared.pending.Pending.{Pending}
use Rattle.history_overlaps.specs.declared.pending.Pending.TheVariants.{Access}
use Rattle.history_overlaps.proofs.AccessOrders.{accesses_are, call_at}
use Rattle.history_overlaps.proofs.CallPlaces.{at_one}
use Rattle.history_overlaps.proofs.Follows.{follow_other, placed_other}
use Rattle.history_overlaps.proofs.LivesBegin.{old_place}
use Rattle.history_overlaps.proofs.QueueSteps.{ended_before, ended_below, waited_before, waits_still}

-- a call of another cell, or that is no access, is no access of a cell
pub no_access_of : (cell : ℕ) (call : Call) → is_access call.entry.command ≡ false → is_access_of cell call ≡ false
no_access_of cell call other = rw other refl

pub other_access_of : (cell : ℕ) (call : Call) → cell_at call ≢ cell → is_access_of cell call ≡ false
other_access_of cell call apart = elim (eqb_tells (cell_at call) cell) [
  | inl same ↦ absurd (apart same.1)
  | inr other ↦ rw other.0 (either (is_access call.entry.command))
]
  where
    either : (b : Bool) → (b && false) ≡ false
    either true = refl
    either false = refl

access_is_no_free : (command : Command) → is_access command ≡ true → IsFree command → ⊥
access_is_no_free (Free cell) access frees = cc access
access_is_no_free command access frees = frees

-- accesses that stay
pub accesses_stay : (calls : List Call) (call : Call) (cell : ℕ) → is_access_of cell call ≡ false → accesses_of cell (calls ++ call ∷ []) ≡ accesses_of cell calls
accesses_stay calls call cell other = sym (accesses_are 0 cell (calls ++ call ∷ [])) ∙ ap (λ xs. map call_at xs) (placed_other cell calls call other) ∙ accesses_are 0 cell calls

pub explained_still : (calls : List Call) (call : Call) (x : AnObject) → is_access_of x.cell call ≡ false → IsExplained calls x → IsExplained (calls ++ call ∷ []) x
explained_still calls call x other h = (
  h.0,
  record {
    same = subst (λ xs. IsPermutation h.0 xs) (sym (accesses_stay calls call x.cell other)) h.1.same;
    in_time = h.1.in_time;
    last = h.1.last;
    answers = h.1.answers;
  },
)

module _ (calls : List Call) (call : Call) (waits waits' : ℕ → Option Pending) (pending : Pending) (queue : Queue calls waits) (may : MayBegin calls waits call)
    (now : waits' (key_of call (length calls)) ≡ Some pending) (others : (q : ℕ) → q ≢ key_of call (length calls) → waits' q ≡ waits q)
    (lives lives' : ℕ → Option Life) (h : Judges calls waits lives) where
  stays : (i : ℕ) (a : Call) → IsAt calls i a → IsWaiting waits a i ↔ IsWaiting waits' a i
  stays i a is = (waits_still calls call waits waits' pending queue may now others i a is, waited_before calls call waits waits' pending queue may now others i a is)

  pub judged_still : (object : NewObject) (judge : Option AccessJudge) → is_access_of object.cell call ≡ false → IsJudged calls waits object judge
      → IsJudged (calls ++ call ∷ []) waits' object judge
  judged_still object None other none = placed_other object.cell calls call other ∙ none
  judged_still object (Some judge) other follows = follow_other calls call waits waits' object may stays judge follows other

  -- what had ended before
  made_before : (i : ℕ) (a : Call) (x : AnObject) → HasEnded (calls ++ call ∷ []) waits' i → IsMadeAt (calls ++ call ∷ []) i a x
      → HasEnded calls waits i × IsMadeAt calls i a x
  made_before i a x over is =
      let before = ended_before calls call waits waits' pending queue may now others i over in
      (before, (old_place calls call (HasEnded calls waits) (ended_below calls waits) i a before is.0, is.1))

  -- a call that is no access begins
  pub other_begins : is_access call.entry.command ≡ false
      → ((c : ℕ) (life : Life) → lives' c ≡ Some life → lives c ≡ Some life)
      → ((i : ℕ) (a : Call) (x : AnObject) → HasEnded calls waits i → IsMadeAt calls i a x → IsFreed (calls ++ call ∷ []) x.cell → IsExplained calls x)
      → ((key c : ℕ) → waits key ≡ Some (Access c) → (life : Life) × (lives' c ≡ Some life))
      → ((c : ℕ) → pending ≡ Access c → ⊥)
      → Judges (calls ++ call ∷ []) waits' lives'
  other_begins other keeps settles still no_access = record {
    judged = λ c life is. judged_still life.object life.judge (no_access_of life.object.cell call other) (h.judged c life (keeps c life is));
    settled = λ i a x over is freed. let b = made_before i a x over is in
        explained_still calls call x (no_access_of x.cell call other) (settles i a x b.0 b.1 freed);
    access = λ key c is. elim (eqb_tells key (key_of call (length calls))) [
      | inl same ↦ absurd (no_access c (let at = subst (λ (q : ℕ). waits' q ≡ Some pending) (sym same.1) now in cc (at, is)))
      | inr apart ↦ still key c (sym (others key apart.1) ∙ is)
    ];
  }

  -- an access to a live object begins
  pub access_begins : (cell : ℕ) → is_access call.entry.command ≡ true → cell_at call ≡ cell
      → ((c : ℕ) (life : Life) → lives' c ≡ Some life → life.object.cell ≡ c)
      → ((life : Life) → lives' cell ≡ Some life → IsJudged (calls ++ call ∷ []) waits' life.object life.judge)
      → ((c : ℕ) → c ≢ cell → lives' c ≡ lives c)
      → (life : Life) × (lives' cell ≡ Some life)
      → NoneFrees calls cell → pending ≡ Access cell
      → Judges (calls ++ call ∷ []) waits' lives'
  access_begins cell access names in_cell judged_now others_live alive unfreed is_access = record {
    judged = λ c life is. elim (eqb_tells c cell) [
      | inl same ↦ judged_now life (subst (λ (q : ℕ). lives' q ≡ Some life) same.1 is)
      | inr apart ↦ judged_still life.object life.judge
          (other_access_of life.object.cell call (λ e. apart.1 (sym (in_cell c life is) ∙ sym e ∙ names)))
          (h.judged c life (sym (others_live c apart.1) ∙ is))
    ];
    settled = λ i a x over is freed. let b = made_before i a x over is in
        let freed_before : IsFreed calls x.cell = elim (at_one calls call freed.place freed.free freed.there) [
          | inl old ↦ record { place = freed.place; free = freed.free; there = old; frees = freed.frees; names = freed.names }
          | inr new ↦ absurd (access_is_no_free call.entry.command access (subst (λ (q : Call). IsFree q.entry.command) (sym new.1) freed.frees))
        ] in
        explained_still calls call x
        (other_access_of x.cell call (λ e. unfreed freed_before.place freed_before.free freed_before.there freed_before.frees (freed_before.names ∙ sym e ∙ names)))
        (h.settled i a x b.0 b.1 freed_before);
    access = λ key c is. elim (eqb_tells c cell) [
      | inl same ↦ subst (λ (q : ℕ). (life : Life) × (lives' q ≡ Some life)) (sym same.1) alive
      | inr apart ↦ elim (eqb_tells key (key_of call (length calls))) [
        | inl here ↦ absurd (apart.1 (let at = subst (λ (q : ℕ). waits' q ≡ Some pending) (sym here.1) now in access_cell c cell (let e : Access c ≡ Access cell = cc (at, is, is_access) in e)))
        | inr old ↦ let life = h.access key c (sym (others key old.1) ∙ is) in (life.0, others_live c apart.1 ∙ life.1)
      ]
    ];
  }
    where
      access_cell : (c d : ℕ) → Access c ≡ Access d → c ≡ d
      access_cell c d same = cc same
