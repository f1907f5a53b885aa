-- How an exploration and a verdict end that stop for an error, and what is known of the error.
use Rattle.std.proofs.Common.{◌≡◌, ◌≤◌, ℕ, Bool, true, List, Option, Result, Ok, Err, IfErr, arith, inr, refl}
use Rattle.model_jobs.specs.Texts.{ended}
use Rattle.run_command_line.specs.declared.explore_args.ExploreArgs.{ExploreArgs}
use Rattle.text_devices.specs.Transfer.{HasNotReadAll}
use Rattle.text_devices.specs.declared.faults.ReplayError.{ReplayError}
use Rattle.text_devices.specs.declared.faults.ReplayError.TheVariants.{Read, Write, Memory, Text}
use Rattle.explore_interleavings.specs.declared.pair.MeshPair.{MeshPair}
use Rattle.explore_report.specs.Explorations.{HasTooMany}
use Rattle.explore_report.specs.declared.errors.ExploreError.{ExploreError}
use Rattle.explore_report.specs.declared.errors.ExploreError.TheVariants.{Replay, TooManyStates, NoOutcome, NotShown}
use Rattle.explore_report.specs.declared.wanted.Wanted.{Wanted}
use Rattle.run_program.specs.Explores.{EndsListing, EndsVerdict, HasFailedExplore, HasFailedVerdict, HasStoppedExplore, HasStoppedVerdict, explore_status, explore_text, meshes_of, verdict_status, verdict_text}
use Rattle.run_program.specs.Runs.{HasTold}
use Rattle.run_program.specs.Seen.{Seen}
use Rattle.run_program.specs.Status.{status_of_error}
use Rattle.run_program.specs.declared.criteria.Criteria.{Criteria}
use Rattle.run_program.specs.declared.verdict_error.VerdictError.{VerdictError}
use Rattle.run_program.specs.declared.verdict_error.VerdictError.TheVariants.{Explore, NoCondition, NoList, Unmatched}

-- the status is 1 where a text wasn't read to its end
pub unread_status : (failed : Bool) (error : ReplayError) → HasNotReadAll failed error → status_of_error error ≡ 1
unread_status failed Read is = refl
unread_status failed Memory is = refl
unread_status failed Write is = absurd is
unread_status failed (Text fault) is = absurd is

-- ---- what is known of an error

-- a result that is an error
abbrev stopped : (A : Type 0) → ExploreError → Result A ExploreError
stopped A error = Err error

module _ (A : Type 0) (error : ExploreError) where
  -- it is of one kind
  pub known_stop : (pairs : List MeshPair) (cancel : Option ℕ) (most : ℕ) (left left' written written' : Option (List ℕ))
      → (stopped A error ≡ stopped A TooManyStates → HasTooMany pairs cancel most left left') → HasStoppedExplore pairs cancel most left left' written written' error
  known_stop pairs cancel most left left' written written' many = go error many
    where
      go : (e : ExploreError) → (stopped A e ≡ stopped A TooManyStates → HasTooMany pairs cancel most left left')
          → HasStoppedExplore pairs cancel most left left' written written' e
      go TooManyStates many = many refl
      go (Replay e) many = tt
      go NoOutcome many = tt
      go NotShown many = tt

  -- and the device that it tells of has failed
  pub failed_stop : (input output : Bool) → (stopped A error ≡ stopped A (Replay Read) → input ≡ true) → (stopped A error ≡ stopped A (Replay Write) → output ≡ true)
      → HasFailedExplore input output error
  failed_stop input output read write = go error read write
    where
      go : (e : ExploreError) → (stopped A e ≡ stopped A (Replay Read) → input ≡ true) → (stopped A e ≡ stopped A (Replay Write) → output ≡ true)
          → HasFailedExplore input output e
      go TooManyStates read write = tt
      go (Replay Read) read write = read refl
      go (Replay Write) read write = write refl
      go (Replay Memory) read write = tt
      go (Replay (Text fault)) read write = tt
      go NoOutcome read write = tt
      go NotShown read write = tt

-- the same of a result
pub known_of : {A : Type 0} (result : Result A ExploreError) (pairs : List MeshPair) (cancel : Option ℕ) (most : ℕ) (left left' written written' : Option (List ℕ))
    → (result ≡ Err TooManyStates → HasTooMany pairs cancel most left left')
    → IfErr result (HasStoppedExplore pairs cancel most left left' written written')
known_of (Ok a) pairs cancel most left left' written written' many = tt
known_of {A} (Err e) pairs cancel most left left' written written' many = known_stop A e pairs cancel most left left' written written' many

pub failed_of : {A : Type 0} (result : Result A ExploreError) (input output : Bool) → (result ≡ Err (Replay Read) → input ≡ true)
    → (result ≡ Err (Replay Write) → output ≡ true) → IfErr result (HasFailedExplore input output)
failed_of (Ok a) input output read write = tt
failed_of {A} (Err e) input output read write = failed_stop A e input output read write

-- ---- how a run ends

-- no error has the status 0, and 4 is the greatest
explore_bounds : (error : ExploreError) → (1 ≤ explore_status error) × (explore_status error ≤ 4)
explore_bounds (Replay Read) = (omega arith, omega arith)
explore_bounds (Replay Write) = (omega arith, omega arith)
explore_bounds (Replay Memory) = (omega arith, omega arith)
explore_bounds (Replay (Text fault)) = (omega arith, omega arith)
explore_bounds TooManyStates = (omega arith, omega arith)
explore_bounds NoOutcome = (omega arith, omega arith)
explore_bounds NotShown = (omega arith, omega arith)

verdict_bounds : (error : VerdictError) → (1 ≤ verdict_status error) × (verdict_status error ≤ 4)
verdict_bounds (Explore error) = explore_bounds error
verdict_bounds (NoCondition demand number) = (omega arith, omega arith)
verdict_bounds (Unmatched condition) = (omega arith, omega arith)
verdict_bounds (NoList fault) = (omega arith, omega arith)

module _ (args : ExploreArgs) (before after : Seen) (status : ℕ) where
  -- an exploration stopped for an error, which was told
  pub listing_stops : (wanted : Wanted) (error : ExploreError) → status ≡ explore_status error
      → HasStoppedExplore (meshes_of args) args.cancel args.states before.left after.left before.written after.written error
      → HasFailedExplore after.input_failed after.output_failed error
      → HasTold after.errors_failed before.told after.told (ended (explore_text args.states error)) → EndsListing args wanted before after status
  listing_stops wanted error is known failed told =
      let bounds = explore_bounds error in
      record {
        done = λ none. absurd (omega (arith, bounds.0, is, none));
        stopped = λ _. (error, is, record { known = known; failed = failed; told = told });
        small = omega (arith, bounds.1, is);
      }

  -- and a verdict
  pub verdict_stops : (criteria : Criteria) (error : VerdictError) → status ≡ verdict_status error
      → HasStoppedVerdict args criteria before.left after.left before.written after.written error
      → HasFailedVerdict after.input_failed after.output_failed error
      → HasTold after.errors_failed before.told after.told (ended (verdict_text args.states error)) → EndsVerdict args criteria before after status
  verdict_stops criteria error is known failed told =
      let bounds = verdict_bounds error in
      record {
        done = λ none. absurd (omega (arith, bounds.0, is, none));
        found = λ _. inr (error, is, record { known = known; failed = failed; told = told });
        small = omega (arith, bounds.1, is);
      }
