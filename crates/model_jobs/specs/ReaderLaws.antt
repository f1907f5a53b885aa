-- The reader accepts nothing but valid texts: what it accepts is the text of its result, and the result is in its
-- ranges.
use Rattle.std.specs.Prelude.{◌≡◌, ◌⊎◌, ◌↔◌, ℕ, ◌+◌, ◌<◌, ◌≤◌, List, [], ◌∷◌, ◌++◌, IsSome, Ok, length, map, codes, decimal}
use Rattle.std.specs.List.{All}
use Rattle.model_words.specs.Classes.{row_of}
use Rattle.model_jobs.specs.Jobs.{Line, Job}
use Rattle.model_jobs.specs.Texts.{address_text, byte_text, bytes_text, number_field, command_text, line_text, text}
use Rattle.model_jobs.specs.JobFiles.{number_in, address_in, bytes_in, byte_in, class_in, words_in, line_in, Draft, AtVersion, AtPages, AtHistory, AtWorkers, AtFirstWorker, InScript, InPlan, AtEnd, script_closed, take_line, version_of, read_text, IsValidLine, IsValidCommand, IsValidJob}
use Rattle.model_words.specs.declared.commands.Command.{Command}
use Rattle.model_words.specs.declared.versions.Version.{Version}

-- if a decimal field is read as a number, the field is the number's one spelling, and the number is in its range
abbrev pub NumberIsSpelt : Type 0
NumberIsSpelt = (least most : ℕ) (field : List ℕ) (n : ℕ) → number_in least most field ≡ Ok n → (field ≡ decimal n) × (least ≤ n) × (n ≤ most)

-- if a field is read as an address, the field is the address's one spelling, and the address is at most 268435455
abbrev pub AddressIsSpelt : Type 0
AddressIsSpelt = (field : List ℕ) (address : ℕ) → address_in field ≡ Ok address → (field ≡ address_text address) × (address ≤ 268435455)

-- if a field is read as a byte, the field is the byte's one spelling, and the byte is at most 255
abbrev pub ByteIsSpelt : Type 0
ByteIsSpelt = (field : List ℕ) (byte : ℕ) → byte_in field ≡ Ok byte → (field ≡ byte_text byte) × (byte ≤ 255)

-- if a field is read as bytes, the field is their one spelling, and they are 1 to 32 bytes
abbrev pub BytesAreSpelt : Type 0
BytesAreSpelt = (field bytes : List ℕ) → bytes_in 32 field ≡ Ok bytes
    → (field ≡ bytes_text bytes) × (1 ≤ length bytes) × (length bytes ≤ 32) × All (λ b. b ≤ 255) bytes

-- if a field is read as a class, the field is the one spelling of its size, and the size is in the class table
abbrev pub ClassIsSpelt : Type 0
ClassIsSpelt = (field : List ℕ) (class : ℕ) → class_in field ≡ Ok class → (field ≡ decimal class) × IsSome (row_of class)

-- if fields are read as words, the fields are the words' spellings, and each word is below 2^64
abbrev pub WordsAreSpelt : Type 0
WordsAreSpelt = (fields : List (List ℕ)) (words : List ℕ) → words_in fields ≡ Ok words
    → (fields ≡ map decimal words) × All (λ w. w ≤ 18446744073709551615) words

-- the line is this word and a number from `least` to `most`, and the draft after the line is `after` of the number
abbrev pub IsHeader : List ℕ → ℕ → ℕ → (ℕ → Draft) → List ℕ → Draft → Type 0
IsHeader word least most after line draft' =
    (n : ℕ) × (line ≡ word ++ number_field n) × (least ≤ n) × (n ≤ most) × (draft' ≡ after n)

-- the line is the head of the next worker, which exists, and the draft after the line has the script closed
abbrev pub IsNextWorker : Draft → ℕ → List ℕ → Draft → Type 0
IsNextWorker draft worker line draft' = (line ≡ codes "worker" ++ number_field (worker + 1)) × (worker + 1 < draft.workers)
    × (draft' ≡ script_closed draft (InScript (worker + 1)))

-- the line is the head of the plan, this worker is the last, and the draft after the line has the script closed
abbrev pub IsPlanHead : Draft → ℕ → List ℕ → Draft → Type 0
IsPlanHead draft worker line draft' = (line ≡ codes "plan") × (worker + 1 ≡ draft.workers) × (draft' ≡ script_closed draft InPlan)

-- the line is the text of a valid command, and the draft after the line has the command at the end of its script
abbrev pub IsCommandLine : Draft → List ℕ → Draft → Type 0
IsCommandLine draft line draft' = (command : Command) × (line ≡ command_text command) × IsValidCommand draft.version command
    × (draft' ≡ record draft { script = draft.script ++ command ∷ [] })

-- the line is `end`, and the draft after the line is at its end
abbrev pub IsEnd : Draft → List ℕ → Draft → Type 0
IsEnd draft line draft' = (line ≡ codes "end") × (draft' ≡ record draft { section = AtEnd })

-- the line is the text of a valid plan line, and the draft after the line has that plan line at the end of its plan
abbrev pub IsPlanLine : Draft → List ℕ → Draft → Type 0
IsPlanLine draft line draft' = (step : Line) × (line ≡ line_text step) × IsValidLine draft.version draft.workers step
    × (draft' ≡ record draft { plan = draft.plan ++ step ∷ [] })

-- if a line is accepted as the first line, it is the version line
abbrev pub VersionIsSpelt : Type 0
VersionIsSpelt = (draft draft' : Draft) (line : List ℕ) → draft.section ≡ AtVersion → take_line draft line ≡ Ok draft'
    → IsHeader (codes "mesh") 1 2 (λ n. record draft { section = AtPages; version = version_of n }) line draft'

-- if a line is accepted in place of the pages line, it is the pages line
abbrev pub PagesAreSpelt : Type 0
PagesAreSpelt = (draft draft' : Draft) (line : List ℕ) → draft.section ≡ AtPages → take_line draft line ≡ Ok draft'
    → IsHeader (codes "pages") 1 4096 (λ n. record draft { section = AtHistory; pages = n }) line draft'

-- if a line is accepted in place of the history line, it is the history line, with the journal's capacity
abbrev pub HistoryIsSpelt : Type 0
HistoryIsSpelt = (draft draft' : Draft) (line : List ℕ) → draft.section ≡ AtHistory → take_line draft line ≡ Ok draft'
    → IsHeader (codes "history") 0 65536 (λ n. record draft { section = AtWorkers; history = n }) line draft'

-- if a line is accepted in place of the workers line, it is the workers line
abbrev pub WorkersAreSpelt : Type 0
WorkersAreSpelt = (draft draft' : Draft) (line : List ℕ) → draft.section ≡ AtWorkers → take_line draft line ≡ Ok draft'
    → IsHeader (codes "workers") 1 64 (λ n. record draft { section = AtFirstWorker; workers = n }) line draft'

-- if a line is accepted in place of the first worker's head, it is that head
abbrev pub FirstWorkerIsSpelt : Type 0
FirstWorkerIsSpelt = (draft draft' : Draft) (line : List ℕ) → draft.section ≡ AtFirstWorker → take_line draft line ≡ Ok draft'
    → (line ≡ codes "worker" ++ number_field 0) × (draft' ≡ record draft { section = InScript 0 })

-- if a line is accepted in a worker's section, it is the next worker's head, the plan's head, or a command
abbrev pub ScriptLineIsSpelt : Type 0
ScriptLineIsSpelt = (draft draft' : Draft) (worker : ℕ) (line : List ℕ) → draft.section ≡ InScript worker → take_line draft line ≡ Ok draft'
    → IsNextWorker draft worker line draft' ⊎ (IsPlanHead draft worker line draft' ⊎ IsCommandLine draft line draft')

-- if the job has a worker and a line is accepted in the plan, it is the end or a line of the plan
abbrev pub PlanLineIsSpelt : Type 0
PlanLineIsSpelt = (draft draft' : Draft) (line : List ℕ) → draft.section ≡ InPlan → 1 ≤ draft.workers → take_line draft line ≡ Ok draft'
    → IsEnd draft line draft' ⊎ IsPlanLine draft line draft'

-- if there is a worker and fields are read as a line of a plan, the line is in its ranges
abbrev pub LineIsInRange : Type 0
LineIsInRange = (version : Version) (workers : ℕ) (word : List ℕ) (fields : List (List ℕ)) (line : Line) → 1 ≤ workers
    → line_in version workers word fields ≡ Ok line → IsValidLine version workers line

-- if a text is read as a job, the text is the job's text, has at most 1,048,576 bytes, and the job is in its ranges
abbrev pub ReadIsText : Type 0
ReadIsText = (bytes : List ℕ) (job : Job) → read_text bytes ≡ Ok job → IsValidJob job × (bytes ≡ text job) × (length bytes ≤ 1048576)

-- a text is read as a job if and only if it is the job's text, has at most 1,048,576 bytes, and the job is in its
-- ranges
abbrev pub ExactlyTextsAreRead : Type 0
ExactlyTextsAreRead = (bytes : List ℕ) (job : Job) → (read_text bytes ≡ Ok job) ↔ (IsValidJob job × (bytes ≡ text job) × (length bytes ≤ 1048576))
