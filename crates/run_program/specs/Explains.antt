-- What is said of a text that has a fault.
use Rattle.std.specs.Prelude.{◌≡◌, ◌⊎◌, ℕ, Bool, if◌then◌else◌, nat_eq, List, ◌++◌, Option, Some, codes, decimal}
use Rattle.std.specs.Io.KnownBytes.{Keeps}
use Rattle.model_jobs.specs.Texts.{ended}
use Rattle.history_judge.specs.Judgements.{HasNotJudged}
use Rattle.history_reading.specs.declared.faults.CallError.TheVariants.{Text as CallText, Order as CallOrder}
use Rattle.run_program.specs.Runs.{HasTold}
use Rattle.run_program.specs.declared.explain.Found.{Found}
use Rattle.run_program.specs.declared.explain.Found.TheVariants.{Text, Order, NoObject}
use Rattle.savings_report.specs.Inputs.{HasNotReported}
use Rattle.savings_report.specs.declared.errors.SavingsError.TheVariants.{Replay, NotAHistory}
use Rattle.savings_report.specs.declared.options.SavingsOptions.{SavingsOptions}
use Rattle.text_devices.specs.Transfer.{HasReadAll}
use Rattle.text_devices.specs.declared.faults.ReplayError.TheVariants.{Text as ReplayText}
use Rattle.text_job.specs.Read.{HasFound}
use Rattle.text_reasons.specs.Added.{HasAddedReason}
use Rattle.text_reasons.specs.declared.kinds.TextKind.{TextKind}
use Rattle.text_reasons.specs.declared.kinds.TextKind.TheVariants.{Job, History}

-- the text, read as one of this kind, has this fault
abbrev pub IsFound : TextKind → List ℕ → Found → Type 0
IsFound Job text (Text fault) = (rest : Option (List ℕ)) × HasFound (Some text) rest fault
IsFound Job text (Order line) = ⊥
IsFound Job text (NoObject line) = ⊥
IsFound History text (Text fault) = (rest : Option (List ℕ)) × HasNotJudged (Some text) rest (CallText fault)
IsFound History text (Order line) = (rest : Option (List ℕ)) × HasNotJudged (Some text) rest (CallOrder line)
IsFound History text (NoObject line) = ⊥

-- a report with these options stops for this fault of the text
abbrev pub IsFoundBySavings : SavingsOptions → List ℕ → Found → Type 0
IsFoundBySavings options text (Text fault) = (rest : Option (List ℕ)) × HasNotReported options (Some text) rest (Replay (ReplayText fault))
IsFoundBySavings options text (Order line) = ⊥
IsFoundBySavings options text (NoObject line) = (rest : Option (List ℕ)) × HasNotReported options (Some text) rest (NotAHistory line)

-- the beginning of a line about a line of a text, or about the whole text if the number is 0
abbrev pub place_text : List ℕ → ℕ → List ℕ
place_text name line = if nat_eq line 0 then name ++ codes ": " else name ++ codes ":" ++ decimal line ++ codes ": "

-- the line, with its end, about a fault of a text: where it is, and the reason
abbrev pub IsLineOf : List ℕ → TextKind → Found → List ℕ → Type 0
IsLineOf name wanted (Text fault) line = (told : List ℕ) × HasAddedReason (place_text name fault.line) told wanted fault × (line ≡ ended told)
IsLineOf name wanted (Order number) line =
    line ≡ ended (place_text name number ++ codes "BEGIN is below that of the line before, or not above the END of the worker's last call")
IsLineOf name wanted (NoObject number) line = line ≡ ended (place_text name number ++ codes "a free or an alias of a cell that holds no live object")

-- the line is about a fault that the whole text of the input has
pub record IsExplanation (Finds : List ℕ → Found → Type 0) (name : List ℕ) (wanted : TextKind) (left : Option (List ℕ)) (line : List ℕ) : Type 0 where
  pub text : List ℕ
  pub behind : Option (List ℕ)
  pub read : HasReadAll left behind text
  pub found : Found
  pub finds : Finds text found
  pub is_line : IsLineOf name wanted found line

-- a line about a fault that the text of the input has was told, or nothing
abbrev pub HasExplained : (List ℕ → Found → Type 0) → List ℕ → TextKind → Option (List ℕ) → Bool → Option (List ℕ) → Option (List ℕ) → Type 0
HasExplained Finds name wanted left failed told told' =
    Keeps told told' ⊎ ((line : List ℕ) × IsExplanation Finds name wanted left line × HasTold failed told told' line)
