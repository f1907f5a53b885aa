-- What is told where the judge stops, is told of the text. Where a rule is broken, no earlier flaw is hidden.
use Rattle.std.proofs.Common.{◌≡◌, ◌≢◌, ℕ, zero, suc, ◌+◌, ◌<◌, ◌≤◌, inl, inr, List, [], ◌∷◌, ◌++◌, length, arith, refl, sym, subst, ◌∙◌, ap, Option, None}
use Rattle.std.specs.Io.KnownBytes.{Consumes, IsAtEnd}
use Rattle.std.proofs.lemmas.List.{append-nil}
use Rattle.model_intervals.specs.Completions.{HasCompletion}
use Rattle.model_intervals.specs.Intervals.{Call}
use Rattle.model_intervals.specs.OverlappingCalls.{IsAt}
use Rattle.model_intervals.proofs.LaterCalls.{completed_after, fewer_ended}
use Rattle.history_object.specs.declared.faults.JudgeFault.{JudgeFault}
use Rattle.history_object.specs.declared.faults.JudgeFault.TheVariants.{TooMany, TooManyPending, Memory}
use Rattle.history_reading.specs.CallInputs.{HasCome}
use Rattle.history_reading.specs.CallReadings.{CallReading, calls_of}
use Rattle.history_reading.specs.declared.call_inputs.CallInput.{CallInput}
use Rattle.history_overlaps.specs.Checks.{EndedBeforeOne, HasJudged}
use Rattle.history_overlaps.specs.Stops.{EndedBy, StopsAt, StopsEnd}
use Rattle.history_overlaps.specs.Undecided.{IsStoppedIn}
use Rattle.history_overlaps.specs.declared.stops.Stop.{Stop}
use Rattle.history_overlaps.specs.declared.verdicts.CallVerdict.TheVariants.{Undecided}
use Rattle.history_overlaps.proofs.CallPlaces.{at_below, at_one, at_same}
use Rattle.history_overlaps.proofs.CheckSteps.{read_on_from}

-- ---- the place of a stop

pub stop_end_below : (calls : List Call) (number most : ℕ) (fault : JudgeFault) → fault ≢ Memory → StopsEnd calls number most fault → number < length calls
stop_end_below calls number most TooMany other stop = at_below calls number stop.0 stop.1.there
stop_end_below calls number most TooManyPending other none = absurd none
stop_end_below calls number most Memory other stop = absurd (other refl)

pub stop_below : (calls : List Call) (call : Call) (most : ℕ) (stop : Stop) → StopsAt calls call most stop → stop.number ≤ length calls
stop_below calls call most stop (inl ((a, is, early), why)) = let below = at_below calls stop.number a is in omega (arith, below)
stop_below calls call most stop (inr (at, why)) = omega (arith, at)

-- ---- the judge stops before a call begins

module _ (history : CallInput) (left left' : Option (List ℕ)) (calls : List Call) (call : Call) (come : HasCome history left left' (calls ++ call ∷ [])) where
  stopped_in : (number most : ℕ) (fault : JudgeFault) → fault ≢ Memory → StopsAt calls call most (record { number = number; fault = fault })
      → IsStoppedIn left' come.come.text calls number most fault
  stopped_in number most TooManyPending other (inl (ended, none)) = absurd none
  stopped_in number most TooManyPending other (inr (at, crowded)) =
      (call, at, crowded, λ more. let on = read_on_from history left left' calls call come more in (on.later, on.are))
  stopped_in number most TooMany other (inl ((a, is, early), (one, manifold))) = (
    one,
    manifold,
    inl (λ more.
        let on = read_on_from history left left' calls call come more in
        let same = at_same calls number a one is manifold.there in
        let end : one.end < call.begin = subst (λ (c : Call). c.end < call.begin) same early in
        (call ∷ on.later, on.are, λ j b at_b. let late = on.from j b at_b in omega (arith, end, late))),
  )
  stopped_in number most TooMany other (inr (at, none)) = absurd none
  stopped_in number most Memory other stops = absurd (other refl)

  pub undecided_before : (most : ℕ) (stop : Stop) (line : ℕ) (fault : JudgeFault) → line ≡ stop.number + 2 → fault ≡ stop.fault → fault ≢ Memory
      → StopsAt calls call most stop → HasJudged most left left' (Undecided line fault)
  undecided_before most stop line fault in_line is other stops = (
    come.come.text,
    come.come.taken,
    record {
      calls = calls;
      number = stop.number;
      in_line = in_line;
      stopped = stopped_in stop.number most fault other (subst (λ (f : JudgeFault). StopsAt calls call most (record { number = stop.number; fault = f })) (sym is) stops);
    },
  )

-- ---- the judge stops when all calls have begun

pub undecided_at_end : (left left' : Option (List ℕ)) (text : List ℕ) (calls : List Call) → Consumes left left' text → IsAtEnd left'
    → calls_of text ≡ record { calls = calls; fault = None } → (most : ℕ) (stop : Stop) (line : ℕ) (fault : JudgeFault) → line ≡ stop.number + 2 → fault ≡ stop.fault
    → fault ≢ Memory → StopsEnd calls stop.number most stop.fault → HasJudged most left left' (Undecided line fault)
undecided_at_end left left' text calls taken at_end is most stop line fault in_line same other stops = (
  text,
  taken,
  record {
    calls = calls;
    number = stop.number;
    in_line = in_line;
    stopped = at_fault fault other (subst (λ (f : JudgeFault). StopsEnd calls stop.number most f) (sym same) stops);
  },
)
  where
    nowhere : (i : ℕ) (a : Call) → IsAt [] i a → ⊥
    nowhere zero a at = cc at
    nowhere (suc i) a at = cc at

    at_fault : (f : JudgeFault) → f ≢ Memory → StopsEnd calls stop.number most f → IsStoppedIn left' text calls stop.number most f
    at_fault TooMany other' (call, manifold) = (
      call,
      manifold,
      inr (([], ap (λ (r : CallReading). r.calls) is ∙ sym (append-nil calls), λ j b at_b. absurd (nowhere j b at_b)), at_end),
    )
    at_fault TooManyPending other' none = absurd none
    at_fault Memory other' stops' = absurd (other' refl)

-- ---- a rule is broken

-- the calls that ended before the last one began are those that ended before some call began
pub completed_with : (calls : List Call) (call : Call) → call.begin ≤ call.end → ((i : ℕ) (a : Call) → IsAt calls i a → a.begin ≤ call.begin)
    → HasCompletion calls (EndedBy calls call.begin) → HasCompletion (calls ++ call ∷ []) (EndedBeforeOne (calls ++ call ∷ []))
completed_with calls call takes_time in_order completion =
    fewer_ended (calls ++ call ∷ []) (EndedBy calls call.begin) (EndedBeforeOne (calls ++ call ∷ [])) among
    (completed_after calls (call ∷ []) (EndedBy calls call.begin)
    (λ i over. (over.0, over.1, λ j b at_b. let early = over.2 in let same = only j b at_b in subst (λ (c : Call). over.0.end < c.begin) same early)) completion)
  where
    only : (j : ℕ) (b : Call) → IsAt (call ∷ []) j b → call ≡ b
    only zero b at = cc at
    only (suc zero) b at = cc at
    only (suc (suc j)) b at = cc at

    latest : (j : ℕ) (b : Call) → IsAt (calls ++ call ∷ []) j b → b.begin ≤ call.begin
    latest j b at = elim (at_one calls call j b at) [
      | inl old ↦ in_order j b old
      | inr new ↦ subst (λ (c : Call). c.begin ≤ call.begin) new.1 (omega arith)
    ]

    among : (i : ℕ) → EndedBeforeOne (calls ++ call ∷ []) i → EndedBy calls call.begin i
    among i (a, b, j, at_i, at_j, early) = let last = latest j b at_j in elim (at_one calls call i a at_i) [
      | inl old ↦ (a, old, omega (arith, early, last))
      | inr new ↦ absurd (
          let end : call.end < b.begin = subst (λ (c : Call). c.end < b.begin) (sym new.1) early in omega (arith, end, last, takes_time))
    ]
