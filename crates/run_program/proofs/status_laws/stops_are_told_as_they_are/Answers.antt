use Rattle.std.proofs.Common.{◌≡◌, ◌⊎◌, inl, inr, refl}
use Rattle.run_program.specs.Threads.{stop_of}
use Rattle.run_program.specs.declared.threads_error.ThreadsError.TheVariants.{Replay, Run, Thread}
use Rattle.mesh_lock.specs.declared.faults.FinishError.{FinishError}
use Rattle.mesh_shared.specs.declared.stops.RunError.{RunError}
use Rattle.mesh_shared.specs.declared.stops.RunError.TheVariants.{Memory as RunMemory, Thread as RunThread, History, Finish}
use Rattle.text_devices.specs.declared.faults.ReplayError.TheVariants.{Memory}
use Rattle.run_program.proofs.status_laws.stops_are_told_as_they_are.Goals as goal

of_memory : (error : RunError) → stop_of error ≡ Replay Memory → error ≡ RunMemory
of_memory RunMemory h = refl
of_memory RunThread h = absurd (cc h)
of_memory History h = absurd (cc h)
of_memory (Finish fault) h = absurd (cc h)

of_thread : (error : RunError) → stop_of error ≡ Thread → error ≡ RunThread
of_thread RunMemory h = absurd (cc h)
of_thread RunThread h = refl
of_thread History h = absurd (cc h)
of_thread (Finish fault) h = absurd (cc h)

of_run : (error : RunError) → stop_of error ≡ Run → (error ≡ History) ⊎ ((fault : FinishError) × (error ≡ Finish fault))
of_run RunMemory h = absurd (cc h)
of_run RunThread h = absurd (cc h)
of_run History h = inl refl
of_run (Finish fault) h = inr (fault, refl)

told_run : (error : RunError) → (error ≡ History) ⊎ ((fault : FinishError) × (error ≡ Finish fault)) → stop_of error ≡ Run
told_run error (inl h) = rw h refl
told_run error (inr h) = rw h.1 refl

pub returns-clause-memory : goal.returns-clause-memory
returns-clause-memory c = λ error. (of_memory error, λ h. rw h refl)

pub returns-clause-thread : goal.returns-clause-thread
returns-clause-thread c = λ error. (of_thread error, λ h. rw h refl)

pub returns-clause-run : goal.returns-clause-run
returns-clause-run c = λ error. (of_run error, told_run error)
