-- Calls in the middle form are a legal run, by induction over the calls.
use Rattle.std.proofs.Common.{◌≡◌, ℕ, ◌+◌, ◌<◌, inl, inr, true, false, List, [], ◌∷◌, length, ap, refl, sym, subst, ◌∙◌, Some}
use Rattle.std.proofs.lemmas.Bool.Decides.{eqb_tells}
use Rattle.model_history.specs.Recorded.{Recorded, RecordedRuns, RecordedStep, any_allocator, was_given}
use Rattle.model_memory.specs.Memory.{Object}
use Rattle.model_memory.specs.Plain.{IsVacantRange}
use Rattle.model_intervals.specs.Intervals.{Call}
use Rattle.model_intervals.specs.Objects.{Object as NewObject}
use Rattle.model_intervals.specs.OverlappingCalls.{HasEffect, cell_at}
use Rattle.model_intervals.proofs.AfterStep.{frees_own, other_call, own_call, ready_on}
use Rattle.model_intervals.proofs.MiddleForm.{GiveApart, GoesInTime, IsFresh, IsLegalFrom, IsReady, is_free, made_by, of_cell}
use Rattle.model_intervals.proofs.Lists.{Every, every_both}
use Rattle.model_intervals.proofs.CellStates.{Gone, IsNamed, Leads, Live, CellState, Unmade, after, live_state, state_of}
use Rattle.model_intervals.proofs.StepFacts.{free_is_gone, can_make, live_goes_on, made_from_unmade, gone_ends, new_is_no_free, step_serials, still_not_given, vacant_from}
use Rattle.model_intervals.proofs.Steps.{Moves, step_moves}
use Rattle.model_intervals.proofs.StepsBack.{CanMake, step_back}
use Rattle.model_intervals.proofs.RunToForm.{entries_of}

-- the first call can be taken
module _ (r : Recorded) (call : Call) (rest : List Call) (named : IsNamed r.memory) (legal : IsLegalFrom r (call ∷ rest)) where
  -- an object that the call makes meets no live object
  apart : (y : NewObject) → made_by call ≡ Some y → (c : ℕ) (o : Object) → state_of r.memory c ≡ Live o → o.address < y.address + y.len
      → y.address < o.address + length o.bytes → ⊥
  apart y makes c o is low high = elim (legal.live c o is) [
    | inl freed ↦ (let clash : true ≡ false = sym (frees_own c call freed).0 ∙ new_is_no_free call.entry.command call.entry.reply y makes in cc clash)
    | inr kept ↦ kept.0 y makes low high
  ]

  vacant : (y : NewObject) → made_by call ≡ Some y → IsVacantRange r.memory y.address y.len
  vacant y makes = vacant_from r.memory y.address y.len (λ index o live low high.
      let holder = named.named index o live in
      apart y makes holder.0 o (live_state r.memory holder.0 o (record { index = index; root = holder.1; live = live })) low high)

  can : CanMake r call.entry.command call.entry.reply
  can = can_make r call.entry.command call.entry.reply legal.fair.0 (λ y makes. (legal.fresh.0 y makes, vacant y makes))

  goes : (u : CellState) × (after (state_of r.memory (cell_at call)) call.entry.command call.entry.reply ≡ Some u)
  goes =
      let own = legal.each (cell_at call) in
      let leads = subst (λ cs. Leads (state_of r.memory (cell_at call)) cs own.0) (own_call (cell_at call) call rest refl) own.1 in
      (leads.0, leads.1)

-- one step: the middle form after it, from the middle form before it
module _ (r n : Recorded) (call : Call) (rest : List Call) (effect : HasEffect call.entry.command call.entry.reply) (legal : IsLegalFrom r (call ∷ rest))
    (step : RecordedStep any_allocator r call.entry.command call.entry.reply n)
    (moves : Moves r.memory (cell_at call) call.entry.command call.entry.reply n.memory) where
  each_after : (c : ℕ) → (t : CellState) × Leads (state_of n.memory c) (of_cell c rest) t
  each_after c = elim (eqb_tells c (cell_at call)) [
    | inl same ↦
        let own = legal.each c in
        let leads = subst (λ cs. Leads (state_of r.memory c) cs own.0) (own_call c call rest same.1) own.1 in
        let here : after (state_of r.memory c) call.entry.command call.entry.reply ≡ Some (state_of n.memory c) =
        subst (λ d. after (state_of r.memory d) call.entry.command call.entry.reply ≡ Some (state_of n.memory d)) (sym same.1) moves.here in
        let both : Some leads.0 ≡ Some (state_of n.memory c) = sym leads.1 ∙ here in
        let is : leads.0 ≡ state_of n.memory c = cc both in
        (own.0, subst (λ s. Leads s (of_cell c rest) own.0) is leads.2)
    | inr other ↦
        let own = legal.each c in
        let leads = subst (λ cs. Leads (state_of r.memory c) cs own.0) (other_call c call rest other.1) own.1 in
        (own.0, subst (λ s. Leads s (of_cell c rest) own.0) (sym (moves.others c other.1)) leads)
  ]

  fresh_after : Every (IsFresh n.serials) rest
  fresh_after = every_both (IsFresh r.serials) (GiveApart call) (IsFresh n.serials) rest (λ later fresh apart y makes_y.
      ap (λ ss. was_given ss y.serial) (step_serials r call.entry.command call.entry.reply n effect step)
      ∙ still_not_given r.serials (made_by call) y.serial (fresh y makes_y) (λ x makes_x. apart x y makes_x makes_y)) legal.fresh.1 legal.once.0

  -- the cell of the call
  own_live : (s : CellState) → state_of r.memory (cell_at call) ≡ s → (o : Object) → state_of n.memory (cell_at call) ≡ Live o
      → GoesInTime (cell_at call) o.address (length o.bytes) rest
  own_live Unmade was o is =
      let so = made_from_unmade call.entry.command call.entry.reply o (ap (λ s. after s call.entry.command call.entry.reply) (sym was) ∙ moves.here ∙ ap Some is) in
      let x = so.object in
      let later = legal.clear.0 x so.makes in
      subst (λ l. GoesInTime (cell_at call) o.address l rest) (sym so.long)
      (subst (λ a. GoesInTime (cell_at call) a x.len rest) so.address_is (subst (λ c. GoesInTime c x.address x.len rest) so.cell_is later))
  own_live Gone was o is = absurd (gone_ends call.entry.command call.entry.reply (state_of n.memory (cell_at call)) (ap (λ s. after s call.entry.command call.entry.reply) (sym was) ∙ moves.here))
  own_live (Live old) was o is = elim (live_goes_on old call.entry.command call.entry.reply (Live o) (ap (λ s. after s call.entry.command call.entry.reply) (sym was) ∙ moves.here ∙ ap Some is)) [
    | inl freed ↦ absurd (let clash = freed.1 in cc clash)
    | inr kept ↦
        let same : kept.object ≡ o = (let both = kept.is in cc both) in
        let address : old.address ≡ o.address = sym kept.address_is ∙ ap (λ (z : Object). z.address) same in
        let long : length old.bytes ≡ length o.bytes = sym kept.long ∙ ap (λ (z : Object). length z.bytes) same in
        elim (legal.live (cell_at call) old was) [
          | inl freed ↦ absurd (free_ends (frees_own (cell_at call) call freed).0)
          | inr later ↦ subst (λ a. GoesInTime (cell_at call) a (length o.bytes) rest) address (subst (λ l. GoesInTime (cell_at call) old.address l rest) long later.1)
        ]
  ]
    where
      free_ends : is_free call.entry.command ≡ true → ⊥
      free_ends free = free_is_gone old call.entry.command call.entry.reply o free
          (ap (λ s. after s call.entry.command call.entry.reply) (sym was) ∙ moves.here ∙ ap Some is)

  live_after : (c : ℕ) (o : Object) → state_of n.memory c ≡ Live o → GoesInTime c o.address (length o.bytes) rest
  live_after c o is = elim (eqb_tells c (cell_at call)) [
    | inl same ↦ subst (λ d. GoesInTime d o.address (length o.bytes) rest) (sym same.1)
        (own_live (state_of r.memory (cell_at call)) refl o (ap (state_of n.memory) (sym same.1) ∙ is))
    | inr other ↦ elim (legal.live c o (sym (moves.others c other.1) ∙ is)) [
      | inl freed ↦ absurd (other.1 (sym (frees_own c call freed).1))
      | inr later ↦ later.1
    ]
  ]

  legal_after : IsLegalFrom n rest
  legal_after = record { each = each_after; fair = legal.fair.1; fresh = fresh_after; once = legal.once.1; live = live_after; clear = legal.clear.1 }

pub legal_runs : (r : Recorded) (rest : List Call) → IsNamed r.memory → IsReady r rest → IsLegalFrom r rest
    → (end : Recorded) × RecordedRuns any_allocator r (entries_of rest) end
legal_runs r [] named ready legal = (r, refl)
legal_runs r (call ∷ rest) named ready legal =
    let first = goes r call rest named legal in
    let step = step_back r call.entry.command call.entry.reply first.0 ready.effects.0 first.1 (can r call rest named legal) in
    let moves = step_moves r call.entry.command call.entry.reply step.0 named ready.within.0 ready.effects.0 ready.unmade.0 step.1 in
    let later = legal_runs step.0 rest moves.named (ready_on r step.0 call rest moves ready) (legal_after r step.0 call rest ready.effects.0 legal step.1 moves) in
    (later.0, (step.0, step.1, later.1))
