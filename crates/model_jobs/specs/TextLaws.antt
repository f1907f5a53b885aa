-- The text of a job is read back as the job, as is proved of the definitions.
use Rattle.std.specs.Prelude.{◌≡◌, ℕ, ◌<◌, ◌≤◌, ◌^◌, List, [], ◌∷◌, ◌++◌, Ok, length, decimal}
use Rattle.std.specs.List.{All}
use Rattle.model_jobs.specs.Jobs.{Line, Job}
use Rattle.model_jobs.specs.Texts.{address_text, byte_text, bytes_text, command_text, line_text, text}
use Rattle.model_jobs.specs.JobFiles.{number_in, address_in, bytes_in, byte_in, Draft, InScript, InPlan, take_line, read_text, IsValidLine, IsValidCommand, IsValidJob}
use Rattle.model_words.specs.declared.commands.Command.{Command}

-- if a number is in its range and below 2^64, its decimal field is read as the number
abbrev pub NumberReadsBack : Type 0
NumberReadsBack = (least most n : ℕ) → n < 2 ^ 64 → least ≤ n → n ≤ most → number_in least most (decimal n) ≡ Ok n

-- if an address is at most 268435455, its field is read as the address
abbrev pub AddressReadsBack : Type 0
AddressReadsBack = (address : ℕ) → address ≤ 268435455 → address_in (address_text address) ≡ Ok address

-- if a byte is at most 255, its field is read as the byte
abbrev pub ByteReadsBack : Type 0
ByteReadsBack = (byte : ℕ) → byte ≤ 255 → byte_in (byte_text byte) ≡ Ok byte

-- the field of 1 to 32 bytes, each at most 255, is read as the bytes
abbrev pub BytesReadBack : Type 0
BytesReadBack = (bytes : List ℕ) → 1 ≤ length bytes → length bytes ≤ 32 → All (λ b. b ≤ 255) bytes → bytes_in 32 (bytes_text bytes) ≡ Ok bytes

-- in a worker's section, the line of a valid command adds the command at the end of the script that is being read
abbrev pub CommandReadsBack : Type 0
CommandReadsBack = (draft : Draft) (worker : ℕ) (command : Command) → draft.section ≡ InScript worker → IsValidCommand draft.version command
    → take_line draft (command_text command) ≡ Ok (record draft { script = draft.script ++ command ∷ [] })

-- in the plan of at most 64 workers, the text of a valid plan line adds that plan line at the end of the plan
abbrev pub LineReadsBack : Type 0
LineReadsBack = (draft : Draft) (line : Line) → draft.section ≡ InPlan → draft.workers ≤ 64 → IsValidLine draft.version draft.workers line
    → take_line draft (line_text line) ≡ Ok (record draft { plan = draft.plan ++ line ∷ [] })

-- if a job is in its ranges and its text has at most 1,048,576 bytes, the text is read as the job
abbrev pub JobReadsBack : Type 0
JobReadsBack = (job : Job) → IsValidJob job → length (text job) ≤ 1048576 → read_text (text job) ≡ Ok job
