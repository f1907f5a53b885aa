use Rattle.std.proofs.Common.{◌≡◌, ◌⊎◌, inl, inr, refl}
use Rattle.std.specs.Fmt.{digits}
use Rattle.model_words.specs.declared.faults.TextFault.{TextFault}
use Rattle.run_program.specs.Status.{status_of_error}
use Rattle.run_program.specs.Threads.{threads_status}
use Rattle.run_program.specs.declared.threads_error.ThreadsError.{ThreadsError}
use Rattle.run_program.specs.declared.threads_error.ThreadsError.TheVariants.{Replay, TooShort, Thread, Run}
use Rattle.text_devices.specs.declared.faults.ReplayError.{ReplayError}
use Rattle.text_devices.specs.declared.faults.ReplayError.TheVariants.{Read, Write, Memory, Text}
use Rattle.run_program.proofs.status_laws.statuses_tell_errors_apart.Goals as goal

not_done : (error : ReplayError) → status_of_error error ≡ 0 → ⊥
not_done Read h = cc h
not_done Write h = cc h
not_done Memory h = cc h
not_done (Text fault) h = cc h

run_not_done : (error : ThreadsError) → threads_status error ≡ 0 → ⊥
run_not_done (Replay error) h = not_done error h
run_not_done TooShort h = cc h
run_not_done Thread h = cc h
run_not_done Run h = cc h

faulty : (error : ReplayError) → status_of_error error ≡ 2 → (fault : TextFault) × (error ≡ Text fault)
faulty Read h = absurd (cc h)
faulty Write h = absurd (cc h)
faulty Memory h = absurd (cc h)
faulty (Text fault) h = (fault, refl)

faulty_back : (error : ReplayError) → ((fault : TextFault) × (error ≡ Text fault)) → status_of_error error ≡ 2
faulty_back Read h = absurd (cc h.1)
faulty_back Write h = absurd (cc h.1)
faulty_back Memory h = absurd (cc h.1)
faulty_back (Text fault) h = refl

run_faulty : (error : ThreadsError) → threads_status error ≡ 2 → (error ≡ TooShort) ⊎ ((fault : TextFault) × (error ≡ Replay (Text fault)))
run_faulty (Replay Read) h = absurd (cc h)
run_faulty (Replay Write) h = absurd (cc h)
run_faulty (Replay Memory) h = absurd (cc h)
run_faulty (Replay (Text fault)) h = inr (fault, refl)
run_faulty TooShort h = inl refl
run_faulty Thread h = absurd (cc h)
run_faulty Run h = absurd (cc h)

run_faulty_back : (error : ThreadsError) → (error ≡ TooShort) ⊎ ((fault : TextFault) × (error ≡ Replay (Text fault))) → threads_status error ≡ 2
run_faulty_back (Replay error) (inl h) = absurd (cc h)
run_faulty_back TooShort (inl h) = refl
run_faulty_back Thread (inl h) = absurd (cc h)
run_faulty_back Run (inl h) = absurd (cc h)
run_faulty_back (Replay Read) (inr h) = absurd (cc h.1)
run_faulty_back (Replay Write) (inr h) = absurd (cc h.1)
run_faulty_back (Replay Memory) (inr h) = absurd (cc h.1)
run_faulty_back (Replay (Text fault)) (inr h) = refl
run_faulty_back TooShort (inr h) = refl
run_faulty_back Thread (inr h) = absurd (cc h.1)
run_faulty_back Run (inr h) = absurd (cc h.1)

pub returns-clause-done : goal.returns-clause-done
returns-clause-done c = not_done

pub returns-clause-run_done : goal.returns-clause-run_done
returns-clause-run_done c = run_not_done

pub returns-clause-text : goal.returns-clause-text
returns-clause-text c = λ error. (faulty error, faulty_back error)

pub returns-clause-file : goal.returns-clause-file
returns-clause-file c = λ error. (run_faulty error, run_faulty_back error)

pub returns-clause-spelt : goal.returns-clause-spelt
unfolding digits
returns-clause-spelt c = (refl, refl, refl)
