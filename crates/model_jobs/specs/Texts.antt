-- The text of jobs and of answers: the one spelling of each line. This project's own choice.
use Rattle.std.specs.Prelude.{ℕ, zero, suc, ◌+◌, ◌/◌, ◌%◌, if◌then◌else◌, nat_lt, List, [], ◌∷◌, ◌++◌, length, map, codes, decimal}
use Rattle.std.specs.List.{flat_map}
use Rattle.model_jobs.specs.Jobs.{Line, RunWorker, PairClass, BeginMesh, StepMesh, CancelMesh, StepClass, CancelClass, WholeMesh, SweepGroup, MakeReport, Job, Answer, Replied, StoreBlocked, JournalFull, ScriptOver, StepsLeft, StepMade, PagesMeshed, PagesSwept, PairsFound, Reported, MesherRefused, answers}
use Rattle.model_words.specs.Refusals.{number_of, name_of}
use Rattle.model_search.specs.Search.{Pairing, Found}
use Rattle.model_heap.specs.Table.{Report}
use Rattle.model_words.specs.declared.commands.Command.{Command}
use Rattle.model_words.specs.declared.commands.Command.TheVariants.{New, Put, Get, Free, Alias, Addr, Peek, Poke, Copy as CopyBytes}
use Rattle.model_words.specs.declared.commands.Reply.{Reply}
use Rattle.model_words.specs.declared.commands.Reply.TheVariants.{Object as Made, Done, Bytes, At, Byte, Refused}
use Rattle.model_words.specs.declared.commands.StepKind.{StepKind}
use Rattle.model_words.specs.declared.commands.StepKind.TheVariants.{Protect, Copy, Remap, Unprotect, Release}
use Rattle.model_words.specs.declared.refusals.Refusal.{Refusal}
use Rattle.model_words.specs.declared.versions.Version.{Version}
use Rattle.model_words.specs.declared.versions.Version.TheVariants.{One, Two}

-- the hexadecimal digit of a value below 16, in lower case
abbrev pub hex_digit : ℕ → ℕ
hex_digit n = if nat_lt n 10 then 48 + n else 87 + n

-- the hexadecimal digits of a number without a leading zero. The first argument limits how many digits may follow the
-- first
abbrev pub hex_from : ℕ → ℕ → List ℕ
hex_from zero n = hex_digit (n % 16) ∷ []
hex_from (suc more) n = if nat_lt n 16 then hex_digit n ∷ [] else hex_from more (n / 16) ++ hex_digit (n % 16) ∷ []

-- an address in hexadecimal digits without a leading zero
abbrev pub address_text : ℕ → List ℕ
address_text n = hex_from 7 n

-- a byte in two hexadecimal digits
abbrev pub byte_text : ℕ → List ℕ
byte_text b = hex_digit (b / 16) ∷ hex_digit (b % 16) ∷ []

-- bytes in two hexadecimal digits each
abbrev pub bytes_text : List ℕ → List ℕ
bytes_text bytes = flat_map byte_text bytes

-- a field with the space before it
abbrev pub field : List ℕ → List ℕ
field text = 32 ∷ text

-- a decimal field with the space before it
abbrev pub number_field : ℕ → List ℕ
number_field n = field (decimal n)

-- a command's line, without its line end
abbrev pub command_text : Command → List ℕ
command_text (New cell len word) = codes "new" ++ number_field cell ++ number_field len ++ number_field word
command_text (Put cell off bytes) = codes "put" ++ number_field cell ++ number_field off ++ field (bytes_text bytes.items)
command_text (Get cell off len) = codes "get" ++ number_field cell ++ number_field off ++ number_field len
command_text (Free cell) = codes "free" ++ number_field cell
command_text (Alias to from) = codes "alias" ++ number_field to ++ number_field from
command_text (Addr cell) = codes "addr" ++ number_field cell
command_text (Peek address) = codes "peek" ++ field (address_text address)
command_text (Poke address byte) = codes "poke" ++ field (address_text address) ++ field (byte_text byte)
command_text (CopyBytes to to_off from from_off len) =
    codes "copy" ++ number_field to ++ number_field to_off ++ number_field from ++ number_field from_off ++ number_field len

-- the text of a plan line, without its line end
abbrev pub line_text : Line → List ℕ
line_text (RunWorker worker) = codes "run" ++ number_field worker
line_text (PairClass class t words) = codes "pair" ++ number_field class ++ number_field t ++ flat_map number_field words
line_text (BeginMesh source destination) = codes "begin" ++ number_field source ++ number_field destination
line_text StepMesh = codes "step"
line_text CancelMesh = codes "cancel"
line_text (StepClass class) = codes "step" ++ number_field class
line_text (CancelClass class) = codes "cancel" ++ number_field class
line_text (WholeMesh source destination) = codes "whole" ++ number_field source ++ number_field destination
line_text (SweepGroup group) = codes "sweep" ++ number_field group
line_text MakeReport = codes "report"

-- the number of a version
abbrev pub version_number : Version → ℕ
version_number One = 1
version_number Two = 2

-- a line with its line end
abbrev pub ended : List ℕ → List ℕ
ended line = line ++ 10 ∷ []

-- the lines of the workers' sections, numbered from `worker` on
abbrev pub sections_from : ℕ → List (List Command) → List (List ℕ)
sections_from worker [] = []
sections_from worker (script ∷ scripts) =
    (codes "worker" ++ number_field worker) ∷ (map command_text script ++ sections_from (worker + 1) scripts)

-- the lines of a job, without their line ends
abbrev pub job_lines : Job → List (List ℕ)
job_lines job =
    (codes "mesh" ++ number_field (version_number job.version)) ∷ (codes "pages" ++ number_field job.pages) ∷ (codes "history" ++ number_field job.history)
    ∷ (codes "workers" ++ number_field (length job.scripts))
    ∷ (sections_from 0 job.scripts ++ codes "plan" ∷ (map line_text job.plan ++ codes "end" ∷ []))

-- the text of a job
abbrev pub text : Job → List ℕ
text job = flat_map ended (job_lines job)

-- a refusal's line
abbrev pub refusal_text : Refusal → List ℕ
refusal_text refusal = codes "refused" ++ number_field (number_of refusal) ++ field (name_of refusal)

-- a reply's line, with addresses spelt by the given function
abbrev pub told_with : (ℕ → List ℕ) → Reply → List ℕ
told_with spelt (Made serial address) = codes "object" ++ number_field serial ++ codes " at" ++ field (spelt address)
told_with spelt Done = codes "done"
told_with spelt (Bytes bytes) = codes "bytes" ++ field (bytes_text bytes.items)
told_with spelt (At address) = codes "at" ++ field (spelt address)
told_with spelt (Byte byte) = codes "byte" ++ field (byte_text byte)
told_with spelt (Refused refusal) = refusal_text refusal

-- a reply's line
abbrev pub reply_text : Reply → List ℕ
reply_text reply = told_with address_text reply

-- the word of a kind of step
abbrev pub kind_text : StepKind → List ℕ
kind_text Protect = codes "protect"
kind_text Copy = codes "copy"
kind_text Remap = codes "remap"
kind_text Unprotect = codes "unprotect"
kind_text Release = codes "release"

-- the word `left`, and how many steps are left
abbrev pub left_text : ℕ → List ℕ
left_text n = codes "left" ++ number_field n

-- a pair's field with the space before it: source, colon, destination
abbrev pub pair_text : Pairing → List ℕ
pair_text pair = field (decimal pair.source ++ codes ":" ++ decimal pair.destination)

-- a search's line
abbrev pub found_text : Found → List ℕ
found_text found =
    codes "found" ++ number_field (length found.pairs) ++ codes " probes" ++ number_field found.probes ++ flat_map pair_text found.pairs

-- a report's line
abbrev pub report_text : Report → List ℕ
report_text report =
    codes "report objects" ++ number_field report.objects ++ codes " bytes" ++ number_field report.bytes ++ codes " mapped"
    ++ number_field report.mapped ++ codes " taken" ++ number_field report.taken ++ codes " saved" ++ number_field report.saved

-- an answer's line, without its line end
abbrev pub answer_text : Answer → List ℕ
answer_text (Replied reply) = reply_text reply
answer_text StoreBlocked = codes "blocked"
answer_text JournalFull = codes "history full"
answer_text ScriptOver = codes "over"
answer_text (StepsLeft n) = left_text n
answer_text (StepMade kind n) = kind_text kind ++ field (left_text n)
answer_text (PagesMeshed n) = codes "meshed" ++ number_field n
answer_text (PagesSwept n) = codes "swept" ++ number_field n
answer_text (PairsFound found) = found_text found
answer_text (Reported report) = report_text report
answer_text (MesherRefused refusal) = refusal_text refusal

-- the output of a job: the lines of its answers
abbrev pub output : Job → List ℕ
output job = flat_map (λ a. ended (answer_text a)) (answers job)
