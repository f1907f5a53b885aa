-- Reading a job's text: the job, or the first fault with its line. The format is this project's own choice.
use Rattle.std.specs.Prelude.{ℕ, ◌≡◌, ◌+◌, ◌-◌, ◌*◌, ◌<◌, ◌≤◌, Bool, true, false, ◌&&◌, not, if◌then◌else◌, nat_eq, nat_le, nat_lt, List, [], ◌∷◌, ◌++◌, Option, Some, None, IsSome, Result, Ok, Err, length, codes, decimal}
use Rattle.std.specs.List.{All, fold, list_all, list_any, slice_split}
use Rattle.model_words.specs.Classes.{row_of}
use Rattle.model_jobs.specs.Jobs.{Line, RunWorker, PairClass, BeginMesh, StepMesh, CancelMesh, StepClass, CancelClass, WholeMesh, SweepGroup, MakeReport, Job}
use Rattle.model_jobs.specs.Texts.{address_text, output}
use Rattle.model_words.specs.Words.{◌>>=◌, or_refuse, refuse_if}
use Rattle.model_words.specs.declared.commands.Command.{Command}
use Rattle.model_words.specs.declared.commands.Command.TheVariants.{New, Put, Get, Free, Alias, Addr, Peek, Poke, Copy as CopyBytes}
use Rattle.model_words.specs.declared.faults.FaultKind.{FaultKind}
use Rattle.model_words.specs.declared.faults.FaultKind.TheVariants.{TooLong, Trailing, LongLine, Cut, Byte, Word, Number, Hex}
use Rattle.model_words.specs.declared.faults.TextFault.{TextFault}
use Rattle.model_words.specs.declared.versions.Version.{Version}
use Rattle.model_words.specs.declared.versions.Version.TheVariants.{One, Two}

-- whether two lists of bytes are equal
abbrev pub are_same : List ℕ → List ℕ → Bool
are_same [] [] = true
are_same [] (y ∷ ys) = false
are_same (x ∷ xs) [] = false
are_same (x ∷ xs) (y ∷ ys) = nat_eq x y && are_same xs ys

-- whether the number is from `least` to `most`, both included
abbrev pub is_between : ℕ → ℕ → ℕ → Bool
is_between least most n = nat_le least n && nat_le n most

-- a number with one more decimal digit at its end
abbrev pub with_decimal : ℕ → ℕ → ℕ
with_decimal n byte = 10 * n + (byte - 48)

-- the number that decimal digits spell
abbrev pub decimal_value : List ℕ → ℕ
decimal_value digits = fold with_decimal 0 digits

-- the number in a decimal field. The field must be the number's one spelling, and the number must be from `least` to
-- `most`
abbrev pub number_in : ℕ → ℕ → List ℕ → Result ℕ FaultKind
number_in least most field =
    if are_same (decimal (decimal_value field)) field && is_between least most (decimal_value field) then Ok (decimal_value field) else Err Number

-- the value of a hexadecimal digit in lower case, or none for another byte
abbrev pub hex_value : ℕ → Option ℕ
hex_value byte =
    if is_between 48 57 byte then Some (byte - 48) else (if is_between 97 102 byte then Some (byte - 87) else None)

-- a number with one more hexadecimal digit at its end
abbrev pub with_hex : ℕ → ℕ → ℕ
with_hex n byte = 16 * n + (if nat_lt byte 97 then byte - 48 else byte - 87)

-- the number that hexadecimal digits spell
abbrev pub hex_number : List ℕ → ℕ
hex_number digits = fold with_hex 0 digits

-- the address in a hexadecimal field. The field must be the address's one spelling, and the address must be at most
-- 268435455
abbrev pub address_in : List ℕ → Result ℕ FaultKind
address_in field =
    if are_same (address_text (hex_number field)) field && nat_le (hex_number field) 268435455 then Ok (hex_number field) else Err Number

-- the byte that two hexadecimal digits spell
abbrev pub byte_from : ℕ → ℕ → Result ℕ FaultKind
byte_from high low = or_refuse Hex (hex_value high) >>= λ h. or_refuse Hex (hex_value low) >>= λ l. Ok (16 * h + l)

-- the bytes that hexadecimal digits spell, two digits each
abbrev pub bytes_from : List ℕ → Result (List ℕ) FaultKind
bytes_from [] = Ok []
bytes_from (high ∷ []) = Err Hex
bytes_from (high ∷ low ∷ digits) = byte_from high low >>= λ byte. bytes_from digits >>= λ bytes. Ok (byte ∷ bytes)

-- the bytes in a hexadecimal field: 1 to `most` of them
abbrev pub bytes_in : ℕ → List ℕ → Result (List ℕ) FaultKind
bytes_in most field = bytes_from field >>= λ bytes. refuse_if Hex (not (is_between 1 most (length bytes))) >>= λ _. Ok bytes

-- the byte in a field of two hexadecimal digits
abbrev pub byte_in : List ℕ → Result ℕ FaultKind
byte_in (high ∷ low ∷ []) = byte_from high low
byte_in field = Err Hex

-- the root cell in a field: 0 to 255
abbrev pub cell_in : List ℕ → Result ℕ FaultKind
cell_in field = number_in 0 255 field

-- the length, offset or group in a field: any number up to 65535
abbrev pub short_in : List ℕ → Result ℕ FaultKind
short_in field = number_in 0 65535 field

-- the word of a search or of a `new` in a field: any number below 2^64
abbrev pub word_in : List ℕ → Result ℕ FaultKind
word_in field = number_in 0 18446744073709551615 field

-- the size of a class in a field: one of the sizes in the class table
abbrev pub class_in : List ℕ → Result ℕ FaultKind
class_in field = word_in field >>= λ size. or_refuse Number (row_of size) >>= λ row. Ok size

-- the words in these fields, from left to right
abbrev pub words_in : List (List ℕ) → Result (List ℕ) FaultKind
words_in [] = Ok []
words_in (field ∷ fields) = word_in field >>= λ word. words_in fields >>= λ words. Ok (word ∷ words)

-- the fields after a line's word, if there is exactly one
abbrev pub one_field : List (List ℕ) → Result (List ℕ) FaultKind
one_field (a ∷ []) = Ok a
one_field fields = Err Word

-- the fields after a line's word, if there are exactly two
abbrev pub two_fields : List (List ℕ) → Result (List ℕ × List ℕ) FaultKind
two_fields (a ∷ b ∷ []) = Ok (a, b)
two_fields fields = Err Word

-- the fields after a line's word, if there are exactly three
abbrev pub three_fields : List (List ℕ) → Result (List ℕ × List ℕ × List ℕ) FaultKind
three_fields (a ∷ b ∷ c ∷ []) = Ok (a, b, c)
three_fields fields = Err Word

-- the fields after a line's word, if there are exactly five
abbrev pub five_fields : List (List ℕ) → Result (List ℕ × List ℕ × List ℕ × List ℕ × List ℕ) FaultKind
five_fields (a ∷ b ∷ c ∷ d ∷ e ∷ []) = Ok (a, b, c, d, e)
five_fields fields = Err Word

-- success if no field follows a line's word
abbrev pub no_field : List (List ℕ) → Result (Unit {0}) FaultKind
no_field [] = Ok tt
no_field (a ∷ fields) = Err Word

-- the fields after a line's word, if there are two and at most 32 more
abbrev pub two_and_more : List (List ℕ) → Result (List ℕ × List ℕ × List (List ℕ)) FaultKind
two_and_more (a ∷ b ∷ more) = refuse_if Word (nat_lt 32 (length more)) >>= λ _. Ok (a, b, more)
two_and_more fields = Err Word

-- the rules for the commands of a text: how a cell, a length or offset, and an address are read, the most bytes that a
-- command stores, loads or copies, and whether the command `copy` exists
pub record CommandRules : Type 0 where
  pub cell : List ℕ → Result ℕ FaultKind
  pub size : List ℕ → Result ℕ FaultKind
  pub place : List ℕ → Result ℕ FaultKind
  pub most : ℕ
  pub has_copy : Bool

-- the number of bytes that a command loads or copies: 1 to `most`
abbrev pub count_in : ℕ → List ℕ → Result ℕ FaultKind
count_in most field = number_in 1 most field

-- `new CELL LEN WORD`
abbrev pub new_in : CommandRules → List (List ℕ) → Result Command FaultKind
new_in rules fields =
    three_fields fields >>= λ f. rules.cell f.0 >>= λ cell. rules.size f.1 >>= λ len. word_in f.2 >>= λ word. Ok (New cell len word)

-- `put CELL OFF HEX`
abbrev pub put_in : CommandRules → List (List ℕ) → Result Command FaultKind
put_in rules fields =
    three_fields fields >>= λ f. rules.cell f.0 >>= λ cell. rules.size f.1 >>= λ off. bytes_in rules.most f.2 >>= λ bytes.
    Ok (Put cell off (record { items = bytes }))

-- `get CELL OFF LEN`
abbrev pub get_in : CommandRules → List (List ℕ) → Result Command FaultKind
get_in rules fields =
    three_fields fields >>= λ f. rules.cell f.0 >>= λ cell. rules.size f.1 >>= λ off. count_in rules.most f.2 >>= λ len. Ok (Get cell off len)

-- `free CELL`
abbrev pub free_in : CommandRules → List (List ℕ) → Result Command FaultKind
free_in rules fields = one_field fields >>= λ f. rules.cell f >>= λ cell. Ok (Free cell)

-- `alias CELL FROM`
abbrev pub alias_in : CommandRules → List (List ℕ) → Result Command FaultKind
alias_in rules fields = two_fields fields >>= λ f. rules.cell f.0 >>= λ to. rules.cell f.1 >>= λ from. Ok (Alias to from)

-- `addr CELL`
abbrev pub addr_in : CommandRules → List (List ℕ) → Result Command FaultKind
addr_in rules fields = one_field fields >>= λ f. rules.cell f >>= λ cell. Ok (Addr cell)

-- `peek ADDR`
abbrev pub peek_in : CommandRules → List (List ℕ) → Result Command FaultKind
peek_in rules fields = one_field fields >>= λ f. rules.place f >>= λ address. Ok (Peek address)

-- `poke ADDR BYTE`
abbrev pub poke_in : CommandRules → List (List ℕ) → Result Command FaultKind
poke_in rules fields = two_fields fields >>= λ f. rules.place f.0 >>= λ address. byte_in f.1 >>= λ byte. Ok (Poke address byte)

-- `copy TO OFF FROM OFF LEN`
abbrev pub copy_in : CommandRules → List (List ℕ) → Result Command FaultKind
copy_in rules fields =
    five_fields fields >>= λ f. rules.cell f.0 >>= λ to. rules.size f.1 >>= λ to_off. rules.cell f.2 >>= λ from.
    rules.size f.3 >>= λ from_off. count_in rules.most f.4 >>= λ len. Ok (CopyBytes to to_off from from_off len)

-- the command with this word and these fields, under these rules
abbrev pub ruled_command_in : CommandRules → List ℕ → List (List ℕ) → Result Command FaultKind
ruled_command_in rules word fields =
    if are_same word (codes "new") then new_in rules fields
    else (if are_same word (codes "put") then put_in rules fields
    else (if are_same word (codes "get") then get_in rules fields
    else (if are_same word (codes "free") then free_in rules fields
    else (if are_same word (codes "alias") then alias_in rules fields
    else (if are_same word (codes "addr") then addr_in rules fields
    else (if are_same word (codes "peek") then peek_in rules fields
    else (if are_same word (codes "poke") then poke_in rules fields
    else (if are_same word (codes "copy") && rules.has_copy then copy_in rules fields else Err Word))))))))

-- whether the file has version 2
abbrev pub is_second : Version → Bool
is_second One = false
is_second Two = true

-- the rules for the commands of a job file
abbrev pub job_rules : Version → CommandRules
job_rules version = record { cell = cell_in; size = short_in; place = address_in; most = 32; has_copy = is_second version }

-- the command of a job file with this word and these fields
abbrev pub command_in : Version → List ℕ → List (List ℕ) → Result Command FaultKind
command_in version word fields = ruled_command_in (job_rules version) word fields

-- `run W`
abbrev pub run_in : ℕ → List (List ℕ) → Result Line FaultKind
run_in workers fields = one_field fields >>= λ f. number_in 0 (workers - 1) f >>= λ worker. Ok (RunWorker worker)

-- `pair CLASS T WORD ..`
abbrev pub pair_in : List (List ℕ) → Result Line FaultKind
pair_in fields =
    two_and_more fields >>= λ f. class_in f.0 >>= λ class. number_in 0 64 f.1 >>= λ t. words_in f.2 >>= λ words. Ok (PairClass class t words)

-- `SRC DST`, the two groups of a mesh
abbrev pub groups_in : List (List ℕ) → Result (ℕ × ℕ) FaultKind
groups_in fields = two_fields fields >>= λ f. short_in f.0 >>= λ source. short_in f.1 >>= λ destination. Ok (source, destination)

-- a line with two groups after its word
abbrev pub of_groups_in : (ℕ → ℕ → Line) → List (List ℕ) → Result Line FaultKind
of_groups_in line fields = groups_in fields >>= λ groups. Ok (line groups.0 groups.1)

-- `sweep GROUP`
abbrev pub sweep_in : List (List ℕ) → Result Line FaultKind
sweep_in fields = one_field fields >>= λ f. short_in f >>= λ group. Ok (SweepGroup group)

-- a line without a field after its word
abbrev pub bare_in : Line → List (List ℕ) → Result Line FaultKind
bare_in line fields = no_field fields >>= λ _. Ok line

-- a line with the size of a class after its word
abbrev pub of_class_in : (ℕ → Line) → List (List ℕ) → Result Line FaultKind
of_class_in line fields = one_field fields >>= λ f. class_in f >>= λ class. Ok (line class)

-- `step` or `cancel`: without a field in version 1, with a field `CLASS` in version 2
abbrev pub of_mesh_in : Version → Line → (ℕ → Line) → List (List ℕ) → Result Line FaultKind
of_mesh_in One bare of_class fields = bare_in bare fields
of_mesh_in Two bare of_class fields = of_class_in of_class fields

-- the line of the plan with this word and these fields
abbrev pub line_in : Version → ℕ → List ℕ → List (List ℕ) → Result Line FaultKind
line_in version workers word fields =
    if are_same word (codes "run") then run_in workers fields
    else (if are_same word (codes "pair") then pair_in fields
    else (if are_same word (codes "begin") then of_groups_in BeginMesh fields
    else (if are_same word (codes "step") then of_mesh_in version StepMesh StepClass fields
    else (if are_same word (codes "cancel") then of_mesh_in version CancelMesh CancelClass fields
    else (if are_same word (codes "whole") then of_groups_in WholeMesh fields
    else (if are_same word (codes "sweep") then sweep_in fields
    else (if are_same word (codes "report") then bare_in MakeReport fields else Err Word)))))))

-- the position in a job's text: which header line comes next, or which section the next line is in
pub data Section : Type 0 where
  AtVersion : Section
  AtPages : Section
  AtHistory : Section
  AtWorkers : Section
  AtFirstWorker : Section
  InScript : ℕ → Section
  InPlan : Section
  AtEnd : Section

-- a partly read job: the section that was reached, the header's values, the finished scripts, the script that is being
-- read, and the plan so far
pub record Draft : Type 0 where
  pub section : Section
  pub version : Version
  pub pages : ℕ
  pub history : ℕ
  pub workers : ℕ
  pub finished : List (List Command)
  pub script : List Command
  pub plan : List Line

-- the draft before anything is read
abbrev pub blank_draft : Draft
blank_draft =
    record { section = AtVersion; version = One; pages = 0; history = 0; workers = 0; finished = []; script = []; plan = [] }

-- the draft moved to another section, with the script that was being read added to the finished ones
abbrev pub script_closed : Draft → Section → Draft
script_closed draft section =
    record draft { section = section; finished = draft.finished ++ draft.script ∷ []; script = [] }

-- the number of a header line, which must be the wanted word and one number from `least` to `most`
abbrev pub header_in : List ℕ → ℕ → ℕ → List ℕ → List (List ℕ) → Result ℕ FaultKind
header_in wanted least most word fields =
    refuse_if Word (not (are_same word wanted)) >>= λ _. one_field fields >>= λ f. number_in least most f

-- the draft after a line in a worker's section: the next worker's head, the plan's head if this worker is the last, or
-- a command
abbrev pub script_line : Draft → ℕ → List ℕ → List (List ℕ) → Result Draft FaultKind
script_line draft worker word fields =
    if are_same word (codes "worker") && nat_lt (worker + 1) draft.workers
    then (one_field fields >>= λ f. number_in (worker + 1) (worker + 1) f >>= λ next. Ok (script_closed draft (InScript (worker + 1))))
    else (if are_same word (codes "plan") && nat_eq (worker + 1) draft.workers
    then (no_field fields >>= λ _. Ok (script_closed draft InPlan))
    else (command_in draft.version word fields >>= λ command. Ok (record draft { script = draft.script ++ command ∷ [] })))

-- the draft after a line in the plan: the end, or a line of the plan
abbrev pub plan_line : Draft → List ℕ → List (List ℕ) → Result Draft FaultKind
plan_line draft word fields =
    if are_same word (codes "end") then (no_field fields >>= λ _. Ok (record draft { section = AtEnd }))
    else (line_in draft.version draft.workers word fields >>= λ line. Ok (record draft { plan = draft.plan ++ line ∷ [] }))

-- the version with this number, 1 or 2
abbrev pub version_of : ℕ → Version
version_of n = if nat_eq n 2 then Two else One

-- the draft after a line with this word and these fields in a section
abbrev pub take_in : Section → Draft → List ℕ → List (List ℕ) → Result Draft FaultKind
take_in AtVersion draft word fields =
    header_in (codes "mesh") 1 2 word fields >>= λ n. Ok (record draft { section = AtPages; version = version_of n })
take_in AtPages draft word fields =
    header_in (codes "pages") 1 4096 word fields >>= λ n. Ok (record draft { section = AtHistory; pages = n })
take_in AtHistory draft word fields =
    header_in (codes "history") 0 65536 word fields >>= λ n. Ok (record draft { section = AtWorkers; history = n })
take_in AtWorkers draft word fields =
    header_in (codes "workers") 1 64 word fields >>= λ n. Ok (record draft { section = AtFirstWorker; workers = n })
take_in AtFirstWorker draft word fields =
    header_in (codes "worker") 0 0 word fields >>= λ n. Ok (record draft { section = InScript 0 })
take_in (InScript worker) draft word fields = script_line draft worker word fields
take_in InPlan draft word fields = plan_line draft word fields
take_in AtEnd draft word fields = Err Trailing

-- whether the byte is allowed in a line
abbrev pub is_printable : ℕ → Bool
is_printable byte = is_between 32 126 byte

-- whether the list of bytes is empty
abbrev pub is_empty : List ℕ → Bool
is_empty [] = true
is_empty (b ∷ bs) = false

-- the draft after a line with these fields, none of which may be empty
abbrev pub take_fields : Draft → List (List ℕ) → Result Draft FaultKind
take_fields draft [] = Err Word
take_fields draft (word ∷ fields) =
    refuse_if Word (list_any is_empty (word ∷ fields)) >>= λ _. take_in draft.section draft word fields

-- the draft after a whole line of at most 1,024 bytes, all of them printable. Spaces separate the fields
abbrev pub take_line : Draft → List ℕ → Result Draft FaultKind
take_line draft line =
    refuse_if LongLine (nat_lt 1024 (length line)) >>= λ _. refuse_if Byte (not (list_all is_printable line)) >>= λ _.
    take_fields draft (slice_split (λ b. nat_eq b 32) line)

-- the fault of a kind at a line
abbrev pub fault_at : ℕ → FaultKind → TextFault
fault_at line kind = record { line = line; kind = kind }

-- whether the line `end` was read
abbrev pub has_ended : Section → Bool
has_ended AtEnd = true
has_ended section = false

-- the job that a complete draft describes
abbrev pub job_of : Draft → Job
job_of draft = record { version = draft.version; pages = draft.pages; history = draft.history; scripts = draft.finished; plan = draft.plan }

-- the job, or the fault, after the last line end: if the line `end` was read, nothing may follow, and otherwise the
-- text is faulty
abbrev pub last_in : ℕ → Draft → List ℕ → Result Job TextFault
last_in number draft rest =
    if has_ended draft.section then (if is_empty rest then Ok (job_of draft) else Err (fault_at number Trailing))
    else (if nat_lt 1024 (length rest) then Err (fault_at number LongLine) else Err (fault_at number Cut))

-- the result of a step of reading, with its fault placed at this line
abbrev pub or_fault : {A : Type 0} → ℕ → Result A FaultKind → Result A TextFault
or_fault number (Ok x) = Ok x
or_fault number (Err kind) = Err (fault_at number kind)

-- the job that the lines from this number on complete, or their first fault. The last item is the text after the last
-- line end
abbrev pub lines_in : ℕ → Draft → List (List ℕ) → Result Job TextFault
lines_in number draft [] = Err (fault_at number Cut)
lines_in number draft (line ∷ []) = last_in number draft line
lines_in number draft (line ∷ next ∷ lines) =
    if has_ended draft.section then Err (fault_at number Trailing)
    else (or_fault number (take_line draft line) >>= λ draft'. lines_in (number + 1) draft' (next ∷ lines))

-- the job that a text describes, or the text's first fault
abbrev pub read_text : List ℕ → Result Job TextFault
read_text bytes =
    refuse_if (fault_at 0 TooLong) (nat_lt 1048576 (length bytes)) >>= λ _. lines_in 1 blank_draft (slice_split (λ b. nat_eq b 10) bytes)

-- the numbers of a plan line are in their ranges, and a file of this version may have the line
abbrev pub IsValidLine : Version → ℕ → Line → Type 0
IsValidLine version workers (RunWorker worker) = worker < workers
IsValidLine version workers (PairClass class t words) =
    (IsSome (row_of class)) × (t ≤ 64) × (length words ≤ 32) × All (λ w. w ≤ 18446744073709551615) words
IsValidLine version workers (BeginMesh source destination) = (source ≤ 65535) × (destination ≤ 65535)
IsValidLine version workers StepMesh = version ≡ One
IsValidLine version workers CancelMesh = version ≡ One
IsValidLine version workers (StepClass class) = (version ≡ Two) × IsSome (row_of class)
IsValidLine version workers (CancelClass class) = (version ≡ Two) × IsSome (row_of class)
IsValidLine version workers (WholeMesh source destination) = (source ≤ 65535) × (destination ≤ 65535)
IsValidLine version workers (SweepGroup group) = group ≤ 65535
IsValidLine version workers MakeReport = Unit {0}

-- the numbers of a command are in their ranges, and a file of this version may have the command
abbrev pub IsValidCommand : Version → Command → Type 0
IsValidCommand version (New cell len word) = (cell ≤ 255) × (len ≤ 65535) × (word ≤ 18446744073709551615)
IsValidCommand version (Put cell off bytes) =
    (cell ≤ 255) × (off ≤ 65535) × (1 ≤ length bytes.items) × (length bytes.items ≤ 32) × All (λ b. b ≤ 255) bytes.items
IsValidCommand version (Get cell off len) = (cell ≤ 255) × (off ≤ 65535) × (1 ≤ len) × (len ≤ 32)
IsValidCommand version (Free cell) = cell ≤ 255
IsValidCommand version (Alias to from) = (to ≤ 255) × (from ≤ 255)
IsValidCommand version (Addr cell) = cell ≤ 255
IsValidCommand version (Peek address) = address ≤ 268435455
IsValidCommand version (Poke address byte) = (address ≤ 268435455) × (byte ≤ 255)
IsValidCommand version (CopyBytes to to_off from from_off len) =
    (version ≡ Two) × (to ≤ 255) × (to_off ≤ 65535) × (from ≤ 255) × (from_off ≤ 65535) × (1 ≤ len) × (len ≤ 32)

-- the numbers, commands and plan lines of a job are in their ranges
pub record IsValidJob (job : Job) : Type 0 where
  pub some_page : 1 ≤ job.pages
  pub most_pages : job.pages ≤ 4096
  pub most_history : job.history ≤ 65536
  pub some_worker : 1 ≤ length job.scripts
  pub most_workers : length job.scripts ≤ 64
  pub commands : All (λ script. All (IsValidCommand job.version) script) job.scripts
  pub lines : All (IsValidLine job.version (length job.scripts)) job.plan

-- the replay of a file: the output of its job, or the file's first fault
abbrev pub replayed : List ℕ → Result (List ℕ) TextFault
replayed bytes = read_text bytes >>= λ job. Ok (output job)
