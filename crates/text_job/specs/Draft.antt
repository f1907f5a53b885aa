-- The state of a job that is being read.
use Rattle.std.specs.Prelude.{◌≡◌, ◌<◌, ◌≤◌, ℕ, Bool, true, false, List, [], ◌∷◌, ◌++◌, Result, Ok, length, map}
use Rattle.std.specs.List.{All}
use Rattle.model_jobs.specs.JobFiles.{Section as PlainSection, Draft as PlainDraft, AtVersion, AtPages, AtHistory, AtWorkers, AtFirstWorker, InScript, InPlan, AtEnd, IsValidLine, command_in, number_in, one_field}
use Rattle.model_words.specs.Words.{◌>>=◌}
use Rattle.model_words.specs.declared.commands.Command.{Command}
use Rattle.model_words.specs.declared.faults.FaultKind.{FaultKind}
use Rattle.model_words.specs.declared.versions.Version.{Version as FileVersion}
use Rattle.text_job.specs.Plan.{line_of}
use Rattle.text_job.specs.declared.draft.Section.{Section}
use Rattle.text_job.specs.declared.draft.Section.TheVariants.{Version, Pages, History, Workers, FirstWorker, Worker, Plan, Ended}
use Rattle.text_job.specs.declared.draft.Draft.{Draft}

-- the section of the definitions for a section of the code
abbrev pub section_of : Section → PlainSection
section_of Version = AtVersion
section_of Pages = AtPages
section_of History = AtHistory
section_of Workers = AtWorkers
section_of FirstWorker = AtFirstWorker
section_of (Worker worker) = InScript worker
section_of Plan = InPlan
section_of Ended = AtEnd

-- the draft of the definitions for a draft of the code
abbrev pub draft_of : Draft → PlainDraft
draft_of d = record {
  section = section_of d.section;
  version = d.version;
  pages = d.pages;
  history = d.history;
  workers = d.workers;
  finished = d.scripts.items;
  script = d.script;
  plan = map line_of d.plan.items;
}

-- whether a header line comes next, or the job has ended
abbrev pub is_in_header : Section → Bool
is_in_header (Worker worker) = false
is_in_header Plan = false
is_in_header _ = true

-- whether the header line `workers` or the line of the first worker comes next, or the job has ended
abbrev pub is_behind_sizes : Section → Bool
is_behind_sizes Workers = true
is_behind_sizes FirstWorker = true
is_behind_sizes Ended = true
is_behind_sizes _ = false

-- whether the section is a worker's script, so that a command may come next
abbrev pub is_in_script : Section → Bool
is_in_script (Worker worker) = true
is_in_script _ = false

-- the draft has no finished script, and no line of a plan
abbrev pub HasNoScript : Draft → Type 0
HasNoScript d = (d.scripts.items ≡ []) × (d.plan.items ≡ [])

-- the header lines up to `pages` were read, and their numbers are in range. The next two definitions go up to `history`
-- and up to `workers`
abbrev pub HasPages : Draft → Type 0
HasPages d = (1 ≤ d.pages) × (d.pages ≤ 4096)

abbrev pub HasHistory : Draft → Type 0
HasHistory d = HasPages d × (d.history ≤ 65536)

abbrev pub HasWorkers : Draft → Type 0
HasWorkers d = HasHistory d × (1 ≤ d.workers) × (d.workers ≤ 64)

-- the header was read, and each worker has its script. Each line of the plan is valid in the job's version and runs no
-- other worker
abbrev pub HasScripts : Draft → Type 0
HasScripts d = HasWorkers d × (length d.scripts.items ≡ d.workers) × All (IsValidLine d.version d.workers) (map line_of d.plan.items)

-- the draft contains what a job file has before this section
abbrev pub HasAllBefore : Section → Draft → Type 0
HasAllBefore Version d = HasNoScript d
HasAllBefore Pages d = HasNoScript d
HasAllBefore History d = HasPages d × HasNoScript d
HasAllBefore Workers d = HasHistory d × HasNoScript d
HasAllBefore FirstWorker d = HasWorkers d × HasNoScript d
HasAllBefore (Worker worker) d = HasWorkers d × (length d.scripts.items ≡ worker) × (worker < d.workers) × (d.plan.items ≡ [])
HasAllBefore Plan d = HasScripts d
HasAllBefore Ended d = HasScripts d

-- the draft contains what a job file has before the draft's own section
abbrev pub IsDraft : Draft → Type 0
IsDraft d = HasAllBefore d.section d

-- the number in the only field of a line, which must be this number
abbrev pub number_field_in : ℕ → List (List ℕ) → Result ℕ FaultKind
number_field_in number fields = one_field fields >>= λ field. number_in number number field

-- the script with the command of one more line added, or the line's fault
abbrev pub with_line : List Command → FileVersion → List ℕ → List (List ℕ) → Result (List Command) FaultKind
with_line script version word fields = command_in version word fields >>= λ command. Ok (script ++ command ∷ [])
