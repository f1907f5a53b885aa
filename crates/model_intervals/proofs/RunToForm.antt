-- A legal run of calls has the middle form, by induction over the calls.
use Rattle.std.proofs.Common.{◌≡◌, ◌≢◌, ℕ, ◌⊎◌, inl, inr, true, false, List, [], ◌∷◌, length, map, replicate, ap, refl, sym, subst, ◌∙◌, Some}
use Rattle.std.proofs.lemmas.Bool.Decides.{eqb_tells}
use Rattle.std.proofs.lemmas.List.{length-replicate}
use Rattle.model_history.specs.Recorded.{Recorded, RecordedRuns, RecordedStep, any_allocator, was_given}
use Rattle.model_memory.specs.Memory.{Object}
use Rattle.model_memory.specs.Plain.{Entry}
use Rattle.model_intervals.specs.Intervals.{Call}
use Rattle.model_intervals.specs.Objects.{Object as NewObject}
use Rattle.model_intervals.specs.OverlappingCalls.{HasEffect, cell_at}
use Rattle.model_intervals.proofs.AfterStep.{frees_from, other_call, own_call, ready_on}
use Rattle.model_intervals.proofs.MiddleForm.{GiveApart, GoesInTime, IsFresh, IsLegalFrom, IsReady, LeavesFree, frees, is_free, made_by, of_cell}
use Rattle.model_intervals.proofs.Lists.{every_weaker}
use Rattle.model_intervals.proofs.CellStates.{Gone, IsNamed, Leads, Live, CellState, after, live_at, state_of}
use Rattle.model_intervals.proofs.StepFacts.{can_fair, can_object, live_goes_on, made_is_new, made_so, not_given, step_can, step_serials, serials_after, vacant_apart, IsKept}
use Rattle.model_intervals.proofs.Steps.{Moves, step_moves}

-- the calls' entries
abbrev pub entries_of : List Call → List Entry
entries_of calls = map (λ call. call.entry) calls

-- one step: the middle form before it, from the middle form after it
module _ (r n : Recorded) (call : Call) (rest : List Call) (named : IsNamed r.memory) (ready : IsReady r (call ∷ rest))
    (step : RecordedStep any_allocator r call.entry.command call.entry.reply n)
    (moves : Moves r.memory (cell_at call) call.entry.command call.entry.reply n.memory) (after_it : IsLegalFrom n rest) where
  effect : HasEffect call.entry.command call.entry.reply
  effect = ready.effects.0

  each_before : (c : ℕ) → (t : CellState) × Leads (state_of r.memory c) (of_cell c (call ∷ rest)) t
  each_before c = elim (eqb_tells c (cell_at call)) [
    | inl same ↦ let later = after_it.each c in (
      later.0,
      subst (λ cs. Leads (state_of r.memory c) cs later.0) (sym (own_call c call rest same.1))
          (state_of n.memory c, subst (λ d. after (state_of r.memory d) call.entry.command call.entry.reply ≡ Some (state_of n.memory d)) (sym same.1) moves.here, later.1),
    )
    | inr other ↦ let later = after_it.each c in (
      later.0,
      subst (λ cs. Leads (state_of r.memory c) cs later.0) (sym (other_call c call rest other.1))
          (subst (λ s. Leads s (of_cell c rest) later.0) (moves.others c other.1) later.1),
    )
  ]

  serials_is : n.serials ≡ serials_after r.serials (made_by call)
  serials_is = step_serials r call.entry.command call.entry.reply n effect step

  was_not : (x : NewObject) → was_given n.serials x.serial ≡ false
      → (was_given r.serials x.serial ≡ false) × ((y : NewObject) → made_by call ≡ Some y → y.serial ≢ x.serial)
  was_not x h = not_given r.serials (made_by call) x.serial (ap (λ ss. was_given ss x.serial) (sym serials_is) ∙ h)

  -- an object that the call makes meets no live object
  leaves_free : (c : ℕ) (o : Object) → state_of r.memory c ≡ Live o → LeavesFree o.address (length o.bytes) call
  leaves_free c o is y makes low high =
      let live = live_at r.memory c o is in
      let can = can_object r call.entry.command call.entry.reply y (step_can r call.entry.command call.entry.reply n step) makes in
      vacant_apart r.memory y.address y.len live.index o can.vacant live.live can.some (named.filled live.index o live.live) low high

  live_on : (c : ℕ) (o : Object) → state_of r.memory c ≡ Live o → (frees c call ≡ true) ⊎ GoesInTime c o.address (length o.bytes) rest
  live_on c o is = elim (eqb_tells c (cell_at call)) [
    | inl same ↦ own same.1 (live_goes_on o call.entry.command call.entry.reply (state_of n.memory (cell_at call))
        (ap (λ s. after s call.entry.command call.entry.reply) (sym is ∙ ap (state_of r.memory) same.1) ∙ moves.here))
    | inr other ↦ inr (after_it.live c o (moves.others c other.1 ∙ is))
  ]
    where
      own : c ≡ cell_at call → ((is_free call.entry.command ≡ true) × (state_of n.memory (cell_at call) ≡ Gone)) ⊎ IsKept o (state_of n.memory (cell_at call))
          → (frees c call ≡ true) ⊎ GoesInTime c o.address (length o.bytes) rest
      own same (inl freed) = inl (frees_from c call freed.0 (sym same))
      own same (inr kept) =
          let later = after_it.live c kept.object (ap (state_of n.memory) same ∙ kept.is) in
          inr (subst (λ a. GoesInTime c a (length o.bytes) rest) kept.address_is (subst (λ l. GoesInTime c kept.object.address l rest) kept.long later))

  live_before : (c : ℕ) (o : Object) → state_of r.memory c ≡ Live o → GoesInTime c o.address (length o.bytes) (call ∷ rest)
  live_before c o is = elim (live_on c o is) [
    | inl freed ↦ inl freed
    | inr later ↦ inr (leaves_free c o is, later)
  ]

  clear_before : (x : NewObject) → made_by call ≡ Some x → GoesInTime x.cell x.address x.len rest
  clear_before x makes =
      let so = made_so call.entry.command call.entry.reply x makes in
      let was = ready.unmade.0 (made_is_new call.entry.command call.entry.reply x makes) in
      let new : Object = record { address = x.address; bytes = replicate x.len 0 } in
      let both : Some (Live new) ≡ Some (state_of n.memory (cell_at call)) = sym so.1 ∙ ap (λ s. after s call.entry.command call.entry.reply) (sym was) ∙ moves.here in
      let is : Live new ≡ state_of n.memory (cell_at call) = cc both in
      let later = after_it.live x.cell new (ap (state_of n.memory) so.0 ∙ sym is) in
      subst (λ l. GoesInTime x.cell x.address l rest) (length-replicate x.len 0) later

  legal_before : IsLegalFrom r (call ∷ rest)
  legal_before = record {
    each = each_before;
    fair = (can_fair r call.entry.command call.entry.reply (step_can r call.entry.command call.entry.reply n step), after_it.fair);
    fresh = (
      λ x makes. (can_object r call.entry.command call.entry.reply x (step_can r call.entry.command call.entry.reply n step) makes).fresh,
      every_weaker (IsFresh n.serials) (IsFresh r.serials) rest (λ later h x makes. (was_not x (h x makes)).0) after_it.fresh,
    );
    once = (every_weaker (IsFresh n.serials) (GiveApart call) rest (λ later h x y makes_x makes_y. (was_not y (h y makes_y)).1 x makes_x) after_it.fresh, after_it.once);
    live = live_before;
    clear = (clear_before, after_it.clear);
  }

-- the middle form of the empty list
none_left : (r : Recorded) → IsLegalFrom r []
none_left r = record { each = λ c. (state_of r.memory c, refl); fair = tt; fresh = tt; once = tt; live = λ c o is. tt; clear = tt }

pub runs_legal : (r : Recorded) (rest : List Call) (end : Recorded) → IsNamed r.memory → IsReady r rest → RecordedRuns any_allocator r (entries_of rest) end
    → IsLegalFrom r rest
runs_legal r [] end named ready run = none_left r
runs_legal r (call ∷ rest) end named ready run =
    let moves = step_moves r call.entry.command call.entry.reply run.0 named ready.within.0 ready.effects.0 ready.unmade.0 run.1 in
    legal_before r run.0 call rest named ready run.1 moves (runs_legal run.0 rest end moves.named (ready_on r run.0 call rest moves ready) run.2)
