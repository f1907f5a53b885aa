-- What a step leaves of the premises for the rest of a history.
use Rattle.std.proofs.Common.{◌≡◌, ◌≢◌, ℕ, inl, inr, true, nat_eq, List, ◌∷◌, ap, refl, sym, ◌∙◌}
use Rattle.std.proofs.lemmas.Bool.{eq-eqb, ne_eqb, and_parts, eqb-true}
use Rattle.std.proofs.lemmas.Bool.Decides.{eqb_tells}
use Rattle.model_history.specs.Recorded.{Recorded}
use Rattle.model_intervals.specs.Intervals.{Call}
use Rattle.model_intervals.specs.OverlappingCalls.{IsNew, cell_at}
use Rattle.model_intervals.proofs.Lists.{every_both}
use Rattle.model_intervals.proofs.MiddleForm.{AreNewApart, IsReady, frees, is_free, of_cell}
use Rattle.model_intervals.proofs.CellStates.{Unmade, after, state_of}
use Rattle.model_intervals.proofs.StepFacts.{unmade_goes_on}
use Rattle.model_intervals.proofs.Steps.{Moves}

-- a step does not use the cell of a later `new`
still_unmade : (r n : Recorded) (call later : Call) → Moves r.memory (cell_at call) call.entry.command call.entry.reply n.memory → AreNewApart call later
    → (IsNew later.entry.command → state_of r.memory (cell_at later) ≡ Unmade) → IsNew later.entry.command → state_of n.memory (cell_at later) ≡ Unmade
still_unmade r n call later moves apart unmade is_new = elim (eqb_tells (cell_at later) (cell_at call)) [
  | inl same ↦ absurd (apart (unmade_goes_on call.entry.command call.entry.reply (state_of n.memory (cell_at call))
      (ap (λ s. after s call.entry.command call.entry.reply) (sym (unmade is_new) ∙ ap (state_of r.memory) same.1) ∙ moves.here)) is_new (sym same.1))
  | inr other ↦ moves.others (cell_at later) other.1 ∙ unmade is_new
]

pub ready_on : (r n : Recorded) (call : Call) (rest : List Call) → Moves r.memory (cell_at call) call.entry.command call.entry.reply n.memory → IsReady r (call ∷ rest)
    → IsReady n rest
ready_on r n call rest moves ready = record {
  effects = ready.effects.1;
  within = ready.within.1;
  unmade = every_both (AreNewApart call) (λ later. IsNew later.entry.command → state_of r.memory (cell_at later) ≡ Unmade)
      (λ later. IsNew later.entry.command → state_of n.memory (cell_at later) ≡ Unmade) rest (λ later apart unmade. still_unmade r n call later moves apart unmade)
      ready.own.0 ready.unmade.1;
  own = ready.own.1;
}

-- the calls of a cell, after one more call in front
pub own_call : (c : ℕ) (call : Call) (rest : List Call) → c ≡ cell_at call → of_cell c (call ∷ rest) ≡ call ∷ of_cell c rest
own_call c call rest same = rw (eq-eqb (cell_at call) c (sym same)) refl

pub other_call : (c : ℕ) (call : Call) (rest : List Call) → c ≢ cell_at call → of_cell c (call ∷ rest) ≡ of_cell c rest
other_call c call rest apart = rw (ne_eqb (cell_at call) c (λ same. apart (sym same))) refl

-- `frees` taken apart and put together
pub frees_own : (c : ℕ) (call : Call) → frees c call ≡ true → (is_free call.entry.command ≡ true) × (cell_at call ≡ c)
frees_own c call h = let both = and_parts (is_free call.entry.command) (nat_eq (cell_at call) c) h in (both.0, eqb-true (cell_at call) c both.1)

pub frees_from : (c : ℕ) (call : Call) → is_free call.entry.command ≡ true → cell_at call ≡ c → frees c call ≡ true
frees_from c call free same = rw (free, eq-eqb (cell_at call) c same) refl
