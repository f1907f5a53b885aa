-- What is a run of two scripts, and what isn't.
use Rattle.std.proofs.Common.{◌≡◌, ℕ, zero, suc, ◌<◌, slice_index_or, refl, arith}
use Rattle.model_memory.specs.Memory.{empty_memory}
use Rattle.model_memory.specs.Plain.{Entry}
use Rattle.mesh_shared.specs.Runs.{commands_by, script_of}
use Rattle.mesh_shared.specs.RunLaws.{ExchangedIsNoBeginning, ExchangedIsNoRun, FirstAloneIsNoRun, StrangerIsNoBeginning, StrangerIsNoRun, WholeIsRun, WithoutLastIsBegun, WithoutLastIsNoRun, refused_new, two_scripts, whole_run}

-- what holds of 0 and of 1
below_two : (P : ℕ → Type 0) → P 0 → P 1 → (w : ℕ) → w < 2 → P w
below_two P first second zero below = first
below_two P first second (suc zero) below = second
below_two P first second (suc (suc w)) below = absurd (omega (arith, below))

pub whole_is_run : WholeIsRun
whole_is_run = record {
  legal = (empty_memory, (refl, refl), (empty_memory, (refl, refl), (empty_memory, (refl, refl), refl)));
  whole = below_two (λ w. commands_by w whole_run ≡ script_of two_scripts w) refl refl;
  no_other = known;
}
  where
    known : (i : ℕ) (d : Entry) → i < 3 → (slice_index_or whole_run i d).worker < 2
    known zero d below = omega arith
    known (suc i) d below = below_two (λ k. (slice_index_or whole_run (suc k) d).worker < 2) (omega arith) (omega arith) i (omega (arith, below))

pub without_last_is_begun : WithoutLastIsBegun
without_last_is_begun = grind arith

pub without_last_is_no_run : WithoutLastIsNoRun
without_last_is_no_run end run = let w = run.whole 1 (omega arith) in cc w

pub first_alone_is_no_run : FirstAloneIsNoRun
first_alone_is_no_run end run = let w = run.whole 1 (omega arith) in cc w

pub stranger_is_no_run : StrangerIsNoRun
stranger_is_no_run end run = let low : 2 < 2 = run.no_other 0 (refused_new 0 0) (omega arith) in omega (arith, low)

pub stranger_is_no_beginning : StrangerIsNoBeginning
stranger_is_no_beginning end begun = let low : 2 < 2 = begun.no_other 0 (refused_new 0 0) (omega arith) in omega (arith, low)

pub exchanged_is_no_run : ExchangedIsNoRun
exchanged_is_no_run end run = let w = run.whole 0 (omega arith) in cc w

pub exchanged_is_no_beginning : ExchangedIsNoBeginning
exchanged_is_no_beginning end begun = let w = begun.begun 0 (omega arith) in cc w
