-- Why a run that is asked for a certificate stops.
use Rattle.std.proofs.Common.{◌≡◌, ℕ, Bool, false, List, Option, Result, Ok, Err, IfErr, IsErrAnd, inr, refl, subst, sym}
use Rattle.text_devices.specs.Transfer.{HasNotReadAll, HasReadAll}
use Rattle.text_devices.specs.declared.faults.ReplayError.{ReplayError}
use Rattle.text_devices.specs.declared.faults.ReplayError.TheVariants.{Read, Write, Memory, Text}
use Rattle.history_reading.specs.declared.faults.CallError.{CallError}
use Rattle.history_reading.specs.declared.faults.CallError.TheVariants.{Text as CallText, Order as CallOrder, Read as CallRead, Memory as CallMemory}
use Rattle.run_command_line.specs.declared.check_args.CheckArgs.{CheckArgs}
use Rattle.run_program.specs.Checks.{check_error_of}
use Rattle.run_program.specs.Certificates.{HasBegunVerdict, HasFailedCertificate, HasStoppedJudging, HasStoppedCertificate, HasStoppedCertificateOf, HasStoppedWriting, IsNotJudged}
use Rattle.run_program.specs.declared.check_error.CheckError.{CheckError}
use Rattle.run_program.specs.declared.check_error.CheckError.TheVariants.{Replay, Order}
use Rattle.run_program.proofs.CertificateEnds.{keeps_same}

-- a text in memory isn't judged for an error that is no read fault
pub judging_stops : (text : List ℕ) (error : CallError) (fault : CheckError) → fault ≡ check_error_of error → (error ≡ CallRead → ⊥) → IsNotJudged text error
    → HasStoppedJudging text fault
judging_stops text (CallText why) fault is read known = subst (HasStoppedJudging text) (sym is) known
judging_stops text (CallOrder line) fault is read known = subst (HasStoppedJudging text) (sym is) known
judging_stops text CallRead fault is read known = absurd (read refl)
judging_stops text CallMemory fault is read known = subst (HasStoppedJudging text) (sym is) tt

-- what is returned for an error that is no read fault
pub judging_stops_as : {T : Type 0} (text : List ℕ) (error : CallError) (result : Result T CheckError) → IsErrAnd result (λ fault. fault ≡ check_error_of error)
    → (error ≡ CallRead → ⊥) → IsNotJudged text error → IfErr result (HasStoppedJudging text)
judging_stops_as text error (Ok value) is read known = tt
judging_stops_as text error (Err fault) is read known = judging_stops text error fault is read known

-- a text that isn't judged stops the run, and nothing was written
pub unjudged_stops : (text : List ℕ) (args : CheckArgs) (written : Option (List ℕ)) (error : CheckError) → HasStoppedJudging text error
    → HasStoppedCertificateOf args text written written error
unjudged_stops text args written (Replay Read) stopped = absurd stopped
unjudged_stops text args written (Replay Write) stopped = absurd stopped
unjudged_stops text args written (Replay Memory) stopped = keeps_same written
unjudged_stops text args written (Replay (Text fault)) stopped = (stopped, keeps_same written)
unjudged_stops text args written (Order line) stopped = (stopped, keeps_same written)

-- then no device has failed
pub unjudged_fails : (text : List ℕ) (output : Bool) (error : CheckError) → output ≡ false → HasStoppedJudging text error → HasFailedCertificate false output error
unjudged_fails text output (Replay Read) sound stopped = absurd stopped
unjudged_fails text output (Replay Write) sound stopped = absurd stopped
unjudged_fails text output (Replay Memory) sound stopped = (refl, sound)
unjudged_fails text output (Replay (Text fault)) sound stopped = (refl, sound)
unjudged_fails text output (Order line) sound stopped = (refl, sound)

-- a line of a judgement that wasn't written stops the run
pub unwritten_stops : (text : List ℕ) (args : CheckArgs) (line : List ℕ) (written written' : Option (List ℕ)) (error : CheckError)
    → (HasStoppedWriting line written written' (Replay Write) → HasBegunVerdict args text written written') → HasStoppedWriting line written written' error
    → HasStoppedCertificateOf args text written written' error
unwritten_stops text args line written written' (Replay Read) begun stopped = absurd stopped
unwritten_stops text args line written written' (Replay Write) begun stopped = inr (begun stopped)
unwritten_stops text args line written written' (Replay Memory) begun stopped = stopped
unwritten_stops text args line written written' (Replay (Text fault)) begun stopped = absurd stopped
unwritten_stops text args line written written' (Order number) begun stopped = absurd stopped

-- what stops the run after the input's text was read
pub read_stops : (args : CheckArgs) (left left' written written' : Option (List ℕ)) (text : List ℕ) (error : CheckError) → HasReadAll left left' text
    → HasStoppedCertificateOf args text written written' error → HasStoppedCertificate args left left' written written' error
read_stops args left left' written written' text (Replay Read) read stopped = absurd stopped
read_stops args left left' written written' text (Replay Write) read stopped = (text, read, stopped)
read_stops args left left' written written' text (Replay Memory) read stopped = stopped
read_stops args left left' written written' text (Replay (Text fault)) read stopped = (text, read, stopped)
read_stops args left left' written written' text (Order line) read stopped = (text, read, stopped)

-- a run whose input wasn't read to its end has written nothing
pub unread_stops : (args : CheckArgs) (left left' written : Option (List ℕ)) (input : Bool) (error : ReplayError) → HasNotReadAll input error
    → HasStoppedCertificate args left left' written written (Replay error)
unread_stops args left left' written input Read unread = keeps_same written
unread_stops args left left' written input Memory unread = keeps_same written
unread_stops args left left' written input Write unread = absurd unread
unread_stops args left left' written input (Text fault) unread = absurd unread

-- then the input has failed, or no device
pub unread_fails : (input output : Bool) (error : ReplayError) → output ≡ false → HasNotReadAll input error → HasFailedCertificate input output (Replay error)
unread_fails input output Read sound unread = (unread, sound)
unread_fails input output Memory sound unread = (unread, sound)
unread_fails input output Write sound unread = absurd unread
unread_fails input output (Text fault) sound unread = absurd unread

-- what a run returns that read the input's text, and stopped then
pub read_stops_as : (args : CheckArgs) (left left' written written' : Option (List ℕ)) (text whole : List ℕ) (result : Result ℕ CheckError) → text ≡ whole
    → HasReadAll left left' whole → IfErr result (HasStoppedCertificateOf args text written written') → IfErr result (HasStoppedCertificate args left left' written written')
read_stops_as args left left' written written' text whole (Ok status) same read stopped = tt
read_stops_as args left left' written written' text whole (Err error) same read stopped =
    read_stops args left left' written written' whole error read (subst (λ (t : List ℕ). HasStoppedCertificateOf args t written written' error) same stopped)
