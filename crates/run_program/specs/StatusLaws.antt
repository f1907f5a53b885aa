-- The status and the text of each error: properties that the definitions must have.
use Rattle.std.specs.Prelude.{◌≡◌, ◌↔◌, ◌⊎◌, codes}
use Rattle.model_words.specs.declared.faults.TextFault.{TextFault}
use Rattle.model_words.specs.declared.faults.FaultKind.TheVariants.{Cut, TooLong}
use Rattle.run_program.specs.Runs.{error_text}
use Rattle.run_program.specs.Status.{status_of_error}
use Rattle.run_program.specs.Threads.{stop_of, threads_status, threads_text}
use Rattle.run_program.specs.declared.threads_error.ThreadsError.{ThreadsError}
use Rattle.run_program.specs.declared.threads_error.ThreadsError.TheVariants.{Replay, TooShort, Thread, Run}
use Rattle.mesh_lock.specs.declared.faults.FinishError.{FinishError}
use Rattle.mesh_shared.specs.declared.stops.RunError.{RunError}
use Rattle.mesh_shared.specs.declared.stops.RunError.TheVariants.{Memory as RunMemory, Thread as RunThread, History, Finish}
use Rattle.text_devices.specs.declared.faults.ReplayError.{ReplayError}
use Rattle.text_devices.specs.declared.faults.ReplayError.TheVariants.{Memory, Text}

-- an error of a replay never has status 0
abbrev pub NoErrorIsDone : Type 0
NoErrorIsDone = (error : ReplayError) → status_of_error error ≡ 0 → ⊥

-- an error of a run in threads never has status 0
abbrev pub NoRunErrorIsDone : Type 0
NoRunErrorIsDone = (error : ThreadsError) → threads_status error ≡ 0 → ⊥

-- an error of a replay has status 2 if and only if it is a fault of the text
abbrev pub FaultyTextsAreTold : Type 0
FaultyTextsAreTold = (error : ReplayError) → (status_of_error error ≡ 2) ↔ ((fault : TextFault) × (error ≡ Text fault))

-- an error of a run in threads has status 2 if and only if it is a fault of the text or `TooShort`
abbrev pub FaultyFilesAreTold : Type 0
FaultyFilesAreTold = (error : ThreadsError) → (threads_status error ≡ 2) ↔ ((error ≡ TooShort) ⊎ ((fault : TextFault) × (error ≡ Replay (Text fault))))

-- a fault of the text is printed as the line's number and the fault's name
abbrev pub FaultsAreSpelt : Type 0
FaultsAreSpelt = (error_text (Text (record { line = 7; kind = Cut })) ≡ codes "line 7: CUT")
    × (error_text (Text (record { line = 0; kind = TooLong })) ≡ codes "line 0: TOO_LONG")
    × (threads_text (Replay (Text (record { line = 20; kind = Cut }))) ≡ codes "line 20: CUT")

-- an error that stops the threads is reported as out of memory if and only if an allocation failed before the threads
-- ended
abbrev pub WantOfMemoryIsTold : Type 0
WantOfMemoryIsTold = (error : RunError) → (stop_of error ≡ Replay Memory) ↔ (error ≡ RunMemory)

-- an error that stops the threads is reported as a thread fault if and only if a thread failed
abbrev pub ThreadFaultsAreTold : Type 0
ThreadFaultsAreTold = (error : RunError) → (stop_of error ≡ Thread) ↔ (error ≡ RunThread)

-- an error that stops the threads is reported as a run fault if and only if the journal was full, or `finish` returned
-- a fault
abbrev pub RunFaultsAreTold : Type 0
RunFaultsAreTold = (error : RunError) → (stop_of error ≡ Run) ↔ ((error ≡ History) ⊎ ((fault : FinishError) × (error ≡ Finish fault)))
