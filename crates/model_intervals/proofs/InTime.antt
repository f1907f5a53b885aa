-- Completions of the calls of a recording, of which some were pending when the recording stopped.
use Rattle.std.proofs.Common.{ℕ, zero, suc, ◌<◌, true, List, [], ◌∷◌, arith, refl, sym, subst, length}
use Rattle.model_intervals.specs.Completions.{EndsInTime, HasCompletion, never}
use Rattle.model_intervals.specs.CompletionLaws.{AllInTimeAreLinearizable, ExplainedAreCompleted}
use Rattle.model_intervals.specs.Intervals.{Call, IsLinearizable}
use Rattle.model_intervals.proofs.AllEnded.{all_ended_are_linearizable, picked_all}
use Rattle.model_intervals.proofs.LaterCalls.{fewer_ended}
use Rattle.model_intervals.proofs.Lists.{Every}
use Rattle.model_intervals.proofs.Places.{every_from}

-- if no call was pending, the call at each place ended
in_time : (calls : List Call) → Every (λ call. call.end < never) calls → (i : ℕ) → i < length calls → EndsInTime calls i
in_time [] all i below = absurd (omega (arith, below))
in_time (call ∷ calls) all zero below = (call, refl, all.0)
in_time (call ∷ calls) all (suc i) below = in_time calls all.1 i (omega (arith, below))

pub explained_are_completed : ExplainedAreCompleted
explained_are_completed calls explained = record {
  taken = λ i. true;
  all_ended = λ i over. refl;
  explained = subst (λ xs. IsLinearizable xs) (sym (picked_all (λ i. true) calls (λ i below. refl))) explained;
}

pub all_in_time_are_linearizable : AllInTimeAreLinearizable
all_in_time_are_linearizable calls all = (
  λ completion. (all_ended_are_linearizable calls).0 (fewer_ended calls (EndsInTime calls) (λ i. i < length calls) (in_time calls (every_from (λ call. call.end < never) calls all)) completion),
  explained_are_completed calls,
)
