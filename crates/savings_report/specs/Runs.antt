-- A run, which makes the calls so far in both heaps and samples them, and what an entry does to it.
use Rattle.std.specs.Prelude.{◌≡◌, ◌≤◌, ℕ, ◌+◌, ◌<◌, ◌-◌, ◌^◌, List, [], ◌∷◌, ◌++◌, Option, length}
use Rattle.text_devices.specs.declared.faults.ReplayError.TheVariants.{Read, Write, Text, Memory}
use Rattle.savings_report.specs.declared.table.samples.Sample.{Sample}
use Rattle.savings_replay.specs.Followed.{Followed, Goes, NoAddresses as HasNoAddresses, NoObject as HasNoObject, Outcome}
use Rattle.savings_replay.specs.Follows.{Follows, HasNumbers}
use Rattle.savings_replay.specs.declared.calls.Call.{Call}
use Rattle.savings_replay.specs.declared.taken.Taken.{Taken}
use Rattle.savings_replay.specs.declared.taken.Taken.TheVariants.{Made, NoAddresses, NoObject}
use Rattle.savings_report.specs.Gathered.{IsOf, calls_in}
use Rattle.savings_report.specs.Reports.{NotHistory, Report, UsedUp, by_call}
use Rattle.savings_report.specs.Samples.{sample_of}
use Rattle.savings_report.specs.declared.errors.SavingsError.{SavingsError}
use Rattle.savings_report.specs.declared.errors.SavingsError.TheVariants.{Replay, NotAHistory}
use Rattle.savings_report.specs.declared.options.SavingsOptions.{SavingsOptions}
use Rattle.savings_report.specs.declared.runs.Run.{Run}

-- the run represents this state, and has gathered these samples, one after each call
pub record IsRun (run : Run) (options : SavingsOptions) (f : Followed) (samples : List Sample) : Type 0 where
  pub settings : run.savings.settings ≡ options.settings
  pub follows : Follows run.savings f
  pub gathered : IsOf run.gathered options samples
  pub calls : f.counts.calls ≡ length samples

-- the run has room for one more call and its sample
pub record HasRoom (run : Run) : Type 0 where
  pub numbers : HasNumbers run.savings
  pub calls : calls_in run.gathered < 2 ^ 32 - 1

-- the run after a call with this outcome: the call was made and a sample was taken after it, or the call can't be made
-- and nothing changed
abbrev pub IsCallTaken : Run → SavingsOptions → Followed → List Sample → Outcome → Taken → Type 0
IsCallTaken run options f samples (Goes next) Made = IsRun run options next (samples ++ sample_of next ∷ [])
IsCallTaken run options f samples HasNoObject NoObject = IsRun run options f samples
IsCallTaken run options f samples HasNoAddresses NoAddresses = IsRun run options f samples
IsCallTaken run options f samples _ _ = ⊥

-- whatever the old run represents, the new run represents what the call leads to, or the same if the call can't be made
abbrev pub IsTakenBy : Run → Run → (SavingsOptions → Followed → Outcome) → Taken → Type 0
IsTakenBy old new outcome taken =
    (options : SavingsOptions) (f : Followed) (samples : List Sample) → IsRun old options f samples
    → IsCallTaken new options f samples (outcome options f) taken

-- the run represents this state and these samples, and the next entry is on this line. The head and each call have a
-- line of their own before this line
pub record IsAt (run : Run) (line : ℕ) (options : SavingsOptions) (f : Followed) (samples : List Sample) : Type 0 where
  pub is_run : IsRun run options f samples
  pub few : length samples + 2 ≤ line

-- the new run represents the state and the samples after an entry with this call on this line, and the report goes on
-- from there
pub record IsPassed (new : Run) (line : ℕ) (call : Option Call) (options : SavingsOptions) (f : Followed) (samples : List Sample) : Type 0 where
  pub next : Followed
  pub seen : List Sample
  pub at : IsAt new (line + 1) options next seen
  pub on : (later : Followed → List Sample → Report) → by_call options.settings f samples line call later ≡ later next seen

-- whatever the old run represents, the new run represents what the entry leads to
abbrev pub Passes : Run → Run → ℕ → Option Call → Type 0
Passes old new line call = (options : SavingsOptions) (f : Followed) (samples : List Sample) → IsAt old line options f samples
    → IsPassed new line call options f samples

-- a heap has too few virtual pages left for the entry's call, which has this number; the run represents the state
-- before the call
pub record IsUsedUpBy (new : Run) (line : ℕ) (call : Option Call) (number : ℕ) (options : SavingsOptions) (f : Followed) (samples : List Sample) : Type 0 where
  pub is_run : IsRun new options f samples
  pub ends : (later : Followed → List Sample → Report) → by_call options.settings f samples line call later ≡ UsedUp number f samples

-- whatever the old run represents, a heap has too few virtual pages left for the entry's call, which has this number,
-- and the new run represents the same
abbrev pub UsesUp : Run → Run → ℕ → Option Call → ℕ → Type 0
UsesUp old new line call number = (options : SavingsOptions) (f : Followed) (samples : List Sample) → IsAt old line options f samples
    → IsUsedUpBy new line call number options f samples

-- whatever the old run represents, the report ends at the entry with this error. If an allocation failed, nothing is
-- claimed, and there is no other error
abbrev pub Fails : Run → ℕ → Option Call → SavingsError → Type 0
Fails old line call (NotAHistory at) = (options : SavingsOptions) (f : Followed) (samples : List Sample) → IsAt old line options f samples
    → (later : Followed → List Sample → Report) → by_call options.settings f samples line call later ≡ NotHistory at
Fails old line call (Replay Memory) = Unit {0}
Fails old line call (Replay (Text fault)) = (options : SavingsOptions) (f : Followed) (samples : List Sample) → IsAt old line options f samples → ⊥
Fails old line call (Replay Read) = ⊥
Fails old line call (Replay Write) = ⊥
