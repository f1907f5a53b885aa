-- What a run writes if it is asked for a certificate of its verdict: an order of overlapping calls, or a witness of a
-- wrong answer.
use Rattle.std.specs.Prelude.{Bool, true, false, ◌≡◌, ◌<◌, ◌≤◌, ◌⊎◌, ℕ, List, Option, Some}
use Rattle.std.specs.Io.KnownBytes.{Appends, Keeps}
use Rattle.text_devices.specs.Transfer.{AppendsBeginning, HasReadAll}
use Rattle.text_devices.specs.declared.faults.ReplayError.TheVariants.{Read, Write, Memory, Text}
use Rattle.history_reading.specs.declared.faults.CallError.{CallError}
use Rattle.history_reading.specs.declared.faults.CallError.TheVariants.{Text as CallText, Order as CallOrder}
use Rattle.history_overlaps.specs.declared.verdicts.CallVerdict.TheVariants.{Linearizable, Flawed}
use Rattle.history_witness.specs.Witnesses.{IsWitness}
use Rattle.history_judge.specs.JudgementTexts.{judgement_text}
use Rattle.history_judge.specs.Judgements.{HasJudged, HasNotJudged}
use Rattle.history_judge.specs.declared.judging.Judgement.{Judgement}
use Rattle.history_judge.specs.declared.judging.Judgement.TheVariants.{Overlapping}
use Rattle.history_judge.specs.OrderedHistories.{HasNoAnswer, IsOrderedHistory, IsWithoutOrder}
use Rattle.history_judge.specs.declared.order_faults.OrderFault.TheVariants.{Undecided}
use Rattle.run_command_line.specs.declared.check_args.CheckArgs.{CheckArgs}
use Rattle.run_program.specs.Checks.{check_error_text, judgement_status, status_of_check}
use Rattle.run_program.specs.Runs.{IsDone, IsStoppedFor}
use Rattle.run_program.specs.Seen.{Seen}
use Rattle.run_program.specs.declared.check_error.CheckError.{CheckError}
use Rattle.run_program.specs.declared.check_error.CheckError.TheVariants.{Replay, Order}

-- a certificate of the judgement of a text: an order that explains the calls, if they are linearizable and an order is
-- asked for, or a witness of the wrong answer, if there is one and a witness is asked for
abbrev pub IsCertificate : CheckArgs → List ℕ → Judgement → List ℕ → Type 0
IsCertificate args text (Overlapping (Linearizable entries)) certificate = (args.is_ordered ≡ true) × IsOrderedHistory text certificate
IsCertificate args text (Overlapping (Flawed line flaw)) certificate = (args.is_witnessed ≡ true) × IsWitness text line certificate
IsCertificate args text judgement certificate = ⊥

-- no order was found. A call was pending when the recording stopped, or no order explains the text's calls, or a limit
-- of the search was exceeded
abbrev pub HasNoOrder : List ℕ → ℕ → Type 0
HasNoOrder text most = IsWithoutOrder text ⊎ HasNoAnswer text most Undecided

-- why there is no certificate: if an order is asked for and the calls are linearizable, no order was found. Of a
-- witness this claims nothing
abbrev pub HasNoCertificate : CheckArgs → List ℕ → Judgement → Type 0
HasNoCertificate args text (Overlapping (Linearizable entries)) = args.is_ordered ≡ true → HasNoOrder text args.configurations
HasNoCertificate args text judgement = Unit {0}

-- the text was judged, a certificate of the judgement was written, and the judgement has this status
pub record HasWrittenCertificate (args : CheckArgs) (text : List ℕ) (written written' : Option (List ℕ)) (status : ℕ) : Type 0 where
  pub judgement : Judgement
  pub rest : List ℕ
  pub judged : HasJudged args.configurations (Some text) (Some rest) judgement
  pub certificate : List ℕ
  pub certifies : IsCertificate args text judgement certificate
  pub wrote : Appends written written' certificate
  pub is_status : status ≡ judgement_status judgement

-- the text was judged, the judgement's line was written, and the judgement has this status. No certificate was found
pub record HasWrittenVerdict (args : CheckArgs) (text : List ℕ) (written written' : Option (List ℕ)) (status : ℕ) : Type 0 where
  pub judgement : Judgement
  pub rest : List ℕ
  pub judged : HasJudged args.configurations (Some text) (Some rest) judgement
  pub uncertified : HasNoCertificate args text judgement
  pub wrote : Appends written written' (judgement_text args.configurations judgement)
  pub is_status : status ≡ judgement_status judgement

-- either a certificate was written, or the line of a judgement with this status
abbrev pub HasToldCertificateOf : CheckArgs → List ℕ → Option (List ℕ) → Option (List ℕ) → ℕ → Type 0
HasToldCertificateOf args text written written' status =
    HasWrittenCertificate args text written written' status ⊎ HasWrittenVerdict args text written written' status

-- the input was read to its end. Either a certificate for its text was written, or a judgement with this status
abbrev pub HasToldCertificate : CheckArgs → Option (List ℕ) → Option (List ℕ) → Option (List ℕ) → Option (List ℕ) → ℕ → Type 0
HasToldCertificate args left left' written written' status =
    (text : List ℕ) × HasReadAll left left' text × HasToldCertificateOf args text written written' status

-- a certificate or a judgement with this status was written, no device failed, and no message was printed
abbrev pub HasEndedWell : CheckArgs → Seen → Seen → ℕ → Type 0
HasEndedWell args before after status = IsDone (λ left left' written written'. HasToldCertificate args left left' written written' status) before after

-- the text was judged, and a beginning of a certificate was written
pub record HasBegunCertificate (args : CheckArgs) (text : List ℕ) (written written' : Option (List ℕ)) : Type 0 where
  pub judgement : Judgement
  pub rest : List ℕ
  pub judged : HasJudged args.configurations (Some text) (Some rest) judgement
  pub certificate : List ℕ
  pub certifies : IsCertificate args text judgement certificate
  pub begun : AppendsBeginning written written' certificate

-- the text was judged, and a beginning of the judgement's line was written. No certificate was found
pub record HasBegunVerdict (args : CheckArgs) (text : List ℕ) (written written' : Option (List ℕ)) : Type 0 where
  pub judgement : Judgement
  pub rest : List ℕ
  pub judged : HasJudged args.configurations (Some text) (Some rest) judgement
  pub uncertified : HasNoCertificate args text judgement
  pub begun : AppendsBeginning written written' (judgement_text args.configurations judgement)

-- the text isn't judged, for this fault
abbrev pub IsNotJudged : List ℕ → CallError → Type 0
IsNotJudged text fault = (rest : List ℕ) × HasNotJudged (Some text) (Some rest) fault

-- why a text in memory isn't judged. No read of it fails, and nothing is written
abbrev pub HasStoppedJudging : List ℕ → CheckError → Type 0
HasStoppedJudging text (Replay Read) = ⊥
HasStoppedJudging text (Replay Write) = ⊥
HasStoppedJudging text (Replay Memory) = Unit {0}
HasStoppedJudging text (Replay (Text fault)) = IsNotJudged text (CallText fault)
HasStoppedJudging text (Order line) = IsNotJudged text (CallOrder line)

-- why a line wasn't written: the output took only a beginning of it, or an allocation failed and nothing was written
abbrev pub HasStoppedWriting : List ℕ → Option (List ℕ) → Option (List ℕ) → CheckError → Type 0
HasStoppedWriting line written written' (Replay Read) = ⊥
HasStoppedWriting line written written' (Replay Write) = AppendsBeginning written written' line
HasStoppedWriting line written written' (Replay Memory) = Keeps written written'
HasStoppedWriting line written written' (Replay (Text fault)) = ⊥
HasStoppedWriting line written written' (Order line_number) = ⊥

-- what is known of a text, and what was written, if neither a certificate nor a judgement was written for this error.
-- No error of the input is possible
abbrev pub HasStoppedCertificateOf : CheckArgs → List ℕ → Option (List ℕ) → Option (List ℕ) → CheckError → Type 0
HasStoppedCertificateOf args text written written' (Replay Read) = ⊥
HasStoppedCertificateOf args text written written' (Replay Write) = HasBegunCertificate args text written written' ⊎ HasBegunVerdict args text written written'
HasStoppedCertificateOf args text written written' (Replay Memory) = Keeps written written'
HasStoppedCertificateOf args text written written' (Replay (Text fault)) = IsNotJudged text (CallText fault) × Keeps written written'
HasStoppedCertificateOf args text written written' (Order line) = IsNotJudged text (CallOrder line) × Keeps written written'

-- the input was read to its end, and this holds of its text
abbrev pub HasReadTextThat : (List ℕ → Type 0) → Option (List ℕ) → Option (List ℕ) → Type 0
HasReadTextThat Holds left left' = (text : List ℕ) × HasReadAll left left' text × Holds text

-- what was read and written before a run that is asked for a certificate stopped for this error. If the input or an
-- allocation failed, nothing was written. Otherwise the input was read to its end
abbrev pub HasStoppedCertificate : CheckArgs → Option (List ℕ) → Option (List ℕ) → Option (List ℕ) → Option (List ℕ) → CheckError → Type 0
HasStoppedCertificate args left left' written written' (Replay Read) = Keeps written written'
HasStoppedCertificate args left left' written written' (Replay Write) =
    HasReadTextThat (λ text. HasStoppedCertificateOf args text written written' (Replay Write)) left left'
HasStoppedCertificate args left left' written written' (Replay Memory) = Keeps written written'
HasStoppedCertificate args left left' written written' (Replay (Text fault)) =
    HasReadTextThat (λ text. HasStoppedCertificateOf args text written written' (Replay (Text fault))) left left'
HasStoppedCertificate args left left' written written' (Order line) =
    HasReadTextThat (λ text. HasStoppedCertificateOf args text written written' (Order line)) left left'

-- the device that the error names has failed, and no device before it. If the error names none, no device has failed
abbrev pub HasFailedCertificate : Bool → Bool → CheckError → Type 0
HasFailedCertificate input output (Replay Read) = (input ≡ true) × (output ≡ false)
HasFailedCertificate input output (Replay Write) = (input ≡ false) × (output ≡ true)
HasFailedCertificate input output (Replay Memory) = (input ≡ false) × (output ≡ false)
HasFailedCertificate input output (Replay (Text fault)) = (input ≡ false) × (output ≡ false)
HasFailedCertificate input output (Order line) = (input ≡ false) × (output ≡ false)

-- how a run that is asked for a certificate ends. If the status is 0, a certificate or a judgement was written.
-- Otherwise a judgement with this status was written, or the run stopped for an error with this status. The status is
-- at most 4
pub record EndsCertificate (args : CheckArgs) (before after : Seen) (status : ℕ) : Type 0 where
  pub done : status ≡ 0 → HasEndedWell args before after status
  pub found : 0 < status
      → HasEndedWell args before after status
      ⊎ ((error : CheckError) × (status ≡ status_of_check error) × IsStoppedFor check_error_text HasFailedCertificate (HasStoppedCertificate args) before after error)
  pub small : status ≤ 4
