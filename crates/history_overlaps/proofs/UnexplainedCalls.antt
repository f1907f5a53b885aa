-- The recorded answer of an access that no order explains, and the possible answers.
use Rattle.std.proofs.Common.{◌≡◌, ℕ, ◌⊎◌, inl, inr, true, List, ap, refl, sym, subst, ◌∙◌, Option, Some, None, option_map, slice_get}
use Rattle.std.specs.Prelude.{IfSome}
use Rattle.std.proofs.lemmas.Bool.Decides.{eqb_tells}
use Rattle.std.proofs.lemmas.Option.{slice_get_within}
use Rattle.model_words.specs.declared.commands.Command.{Command}
use Rattle.model_words.specs.declared.commands.Command.TheVariants.{Put, Get, Addr}
use Rattle.model_words.specs.declared.commands.Reply.{Reply}
use Rattle.model_words.specs.declared.commands.Reply.TheVariants.{Done, Bytes, At}
use Rattle.model_intervals.specs.Intervals.{Call}
use Rattle.model_intervals.specs.Objects.{IsMadeAt, Object as AnObject, is_access}
use Rattle.model_intervals.specs.OverlappingCalls.{HasEffect, IsAt, cell_at}
use Rattle.text_words.specs.RecordedWords.{plain_reply}
use Rattle.text_words.specs.declared.recorded.RecordedReply.{RecordedReply}
use Rattle.history_object.specs.declared.access.Access.{Access}
use Rattle.history_object.specs.declared.access.Access.TheVariants.{Nothing, Elsewhere}
use Rattle.history_object.specs.Following.{IsCallOf, TakesPlace}
use Rattle.history_object.specs.ObjectBytes.{State}
use Rattle.history_object.specs.declared.refutation.Refutation.{Refutation}
use Rattle.history_object.proofs.Places.{get_set_cases, get_set_other}
use Rattle.history_parts.specs.Parts.{IsRefutedBeside}
use Rattle.history_overlaps.specs.Accesses.{access_of}
use Rattle.history_overlaps.specs.Ends.{IsToldIn}
use Rattle.history_overlaps.specs.Judges.{AccessJudge, IsJudged}
use Rattle.history_overlaps.specs.LifeSteps.{IsToldAtEnd}
use Rattle.history_overlaps.specs.Possible.{ArePossible, IsUnexplainedBy, IsUnexplainedCall}
use Rattle.history_overlaps.specs.Queues.{object_of}
use Rattle.history_overlaps.specs.Timelines.{Holds}
use Rattle.history_overlaps.specs.declared.life.AccessEnd.TheVariants.{Unexplained as NotExplained}
use Rattle.history_overlaps.specs.declared.life.Life.{Life}
use Rattle.history_overlaps.specs.declared.objects.NewObject.{NewObject}
use Rattle.history_overlaps.specs.declared.pending.Pending.{Pending}
use Rattle.history_overlaps.specs.declared.possible.Unexplained.{Unexplained}
use Rattle.history_overlaps.proofs.CallPlaces.{at_same}
use Rattle.history_overlaps.proofs.LivesWrong.{all_at}

-- ---- the pending accesses

-- an access that is pending after one began is this one, or was pending before
pub taken_call : (number : ℕ) (access : Access) (old new : AccessJudge) → TakesPlace number access old new → (n : ℕ) (other : Access) → IsCallOf new n other
    → ((n ≡ number) × (other ≡ access)) ⊎ IsCallOf old n other
taken_call number access old new takes n other (place, is_number, is_call) =
    let numbers = subst (λ (xs : List (Option ℕ)). slice_get xs place ≡ Some (Some n)) takes.numbers is_number in
    let pending = subst (λ (xs : List (Option Access)). slice_get xs place ≡ Some (Some other)) takes.pending is_call in
    elim (get_set_cases old.numbers takes.place place (Some number) (Some n) (slice_get_within old.numbers takes.place None takes.free) numbers) [
      | inl here ↦ elim (get_set_cases old.standing.pending takes.place place (Some access) (Some other) (slice_get_within old.standing.pending takes.place None takes.no_call) pending) [
        | inl both ↦ inl ((let e = here.1 in cc e), (let e = both.1 in cc e))
        | inr apart ↦ absurd (apart.0 here.0)
      ]
      | inr apart ↦ inr (place, apart.1, sym (get_set_other old.standing.pending takes.place place (Some access) apart.0) ∙ pending)
    ]

-- ---- its answer

-- what is told of a refutation
pub told_at_end : {O : Type 0} (old : Life) (judge : AccessJudge) (number : ℕ) (ended : Option (Refutation O State Access)) (refutation : Refutation O State Access)
    (told : Unexplained) → old.judge ≡ Some judge → ended ≡ Some refutation → IfSome ended (IsRefutedBeside judge number)
    → IsUnexplainedBy old.object.address old.object.len refutation.call told → told.object ≡ old.object → IsToldAtEnd old number (NotExplained told)
told_at_end {O} old judge number ended refutation told has is refuted by of_object =
    let beside = subst (λ (o : Option (Refutation O State Access)). IfSome o (IsRefutedBeside judge number)) is refuted in
    let at_end = beside.refuted in (judge, refutation.call, has, (at_end.0, at_end.1, at_end.2.0), by, of_object)

-- the answer of an access, and the possible answers, are those of the call
told_of : (x : AnObject) (command : Command) (reply : Reply) (told : Unexplained) → HasEffect command reply → is_access command ≡ true
    → IsUnexplainedBy x.address x.len (access_of x.address command reply) told → (reply ≡ plain_reply told.answer) × ArePossible x command reply told.possible
told_of x (Put cell off bytes) Done told effect access is = (ap (λ (r : RecordedReply). plain_reply r) (sym is.0), is.1)
told_of x (Get cell off len) (Bytes answered) told effect access is = (ap (λ (r : RecordedReply). plain_reply r) (sym is.0), is.1)
told_of x (Addr cell) (At answered) told effect access is = elim (eqb_tells answered x.address) [
  | inl same ↦
      let right : access_of x.address (Addr cell) (At answered) ≡ Nothing = rw same.0 refl in
      let told' = subst (λ (a : Access). IsUnexplainedBy x.address x.len a told) right is in
      (ap (λ (q : ℕ). At q) same.1 ∙ ap (λ (r : RecordedReply). plain_reply r) (sym told'.0), told'.1)
  | inr other ↦
      let wrong : access_of x.address (Addr cell) (At answered) ≡ Elsewhere answered = rw other.0 refl in
      let told' = subst (λ (a : Access). IsUnexplainedBy x.address x.len a told) wrong is in
      (ap (λ (r : RecordedReply). plain_reply r) (sym told'.0), told'.1)
]
told_of x (Put cell off bytes) reply told effect access is = absurd effect
told_of x (Get cell off len) reply told effect access is = absurd effect
told_of x (Addr cell) reply told effect access is = absurd effect
told_of x command reply told effect access is = absurd (cc access)

pub unexplained_call : (calls : List Call) (waits : ℕ → Option Pending) (lives : ℕ → Option Life) (starts : ℕ → Option ℕ) (cells serials freed : ℕ → Type 0)
    → Holds calls waits lives starts cells serials freed → (number cell : ℕ) (call : Call) → IsAt calls number call → is_access call.entry.command ≡ true → cell_at call ≡ cell
    → (told : Unexplained) → IsToldIn lives cell number (NotExplained told) → IsUnexplainedCall calls call told
unexplained_call calls waits lives starts cells serials freed h number cell call there access names told (life, alive, (judge, accessed, has, is_call, is, of_object)) =
    let followed = subst (λ (j : Option AccessJudge). IsJudged calls waits life.object j) has (h.judges.judged cell life alive) in
    let own = followed.is_call number accessed is_call in
    let same = at_same calls number own.0 call own.1 there in
    let of_call : accessed ≡ access_of life.object.address call.entry.command call.entry.reply
    = subst (λ (a : Call). accessed ≡ access_of life.object.address a.entry.command a.entry.reply) same own.2 in
    let effect = all_at (λ (b : Call). HasEffect b.entry.command b.entry.reply) calls number call h.history.have_effects there in
    let both = told_of (object_of life.object) call.entry.command call.entry.reply told effect access
    (subst (λ (a : Access). IsUnexplainedBy life.object.address life.object.len a told) of_call is) in
    let m = h.numbered cell life alive in record {
      access = access;
      answers = both.0;
      maker = m.0;
      made = subst (λ (o : NewObject). IsMadeAt calls o.number m.0 (object_of o)) (sym of_object) m.1;
      named = ap (λ (o : NewObject). o.cell) of_object
          ∙ (h.living.live_is cell (object_of life.object) (ap (λ (o : Option Life). option_map (λ l. object_of l.object) o) alive)).0 ∙ sym names;
      possible = subst (λ (o : NewObject). ArePossible (object_of o) call.entry.command call.entry.reply told.possible) (sym of_object) both.1;
    }
