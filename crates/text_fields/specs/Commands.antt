-- The commands of lines, in a job file or in a recorded history.
use Rattle.std.specs.Prelude.{ℕ, ◌≡◌, ◌≤◌, true, List, Result, Ok, Err, length}
use Rattle.model_jobs.specs.JobFiles.{CommandRules, job_rules, number_in}
use Rattle.model_words.specs.declared.commands.Command.{Command}
use Rattle.model_words.specs.declared.commands.Command.TheVariants.{New, Put, Get, Free, Alias, Addr, Peek, Poke, Copy as CopyBytes}
use Rattle.model_words.specs.declared.faults.FaultKind.{FaultKind}
use Rattle.text_fields.specs.Fields.{IsUnread, hex_in}
use Rattle.text_fields.specs.declared.commands.Dialect.{Dialect}
use Rattle.text_fields.specs.declared.commands.Dialect.TheVariants.{Job, History}
use Rattle.text_fields.specs.declared.commands.SpeltCommand.{SpeltCommand}
use Rattle.text_fields.specs.declared.faults.LineFault.{LineFault}
use Rattle.text_fields.specs.declared.commands.SpeltCommand.TheVariants.{New as SpeltNew, Put as SpeltPut, Get as SpeltGet, Free as SpeltFree, Alias as SpeltAlias, Addr as SpeltAddr, Peek as SpeltPeek, Poke as SpeltPoke, Copy as SpeltCopy}

-- a cell or a serial of a recorded history: any number below 2^32
abbrev pub wide_in : List ℕ → Result ℕ FaultKind
wide_in field = number_in 0 4294967295 field

-- a length or an offset of a recorded history: any number up to 2^47
abbrev pub size_in : List ℕ → Result ℕ FaultKind
size_in field = number_in 0 140737488355328 field

-- an address of a recorded history: any number below 2^48
abbrev pub place_in : List ℕ → Result ℕ FaultKind
place_in field = hex_in 11 281474976710655 field

-- the rules for the commands of a recorded history
abbrev pub history_rules : CommandRules
history_rules = record { cell = wide_in; size = size_in; place = place_in; most = 4096; has_copy = true }

-- the rules for the commands of a dialect
abbrev pub rules_of : Dialect → CommandRules
rules_of (Job version) = job_rules version
rules_of History = history_rules

-- the most bytes that a command of the dialect stores, loads or copies
abbrev pub most_bytes : Dialect → ℕ
most_bytes (Job version) = 32
most_bytes History = 4096

-- the greatest cell that a text of the dialect may name
abbrev pub most_cell : Dialect → ℕ
most_cell (Job version) = 255
most_cell History = 4294967295

-- the greatest length or offset that a text of the dialect may name
abbrev pub most_size : Dialect → ℕ
most_size (Job version) = 65535
most_size History = 140737488355328

-- the greatest address that a text of the dialect may name
abbrev pub most_place : Dialect → ℕ
most_place (Job version) = 268435455
most_place History = 281474976710655

-- the command of a line, as a command of the reference memory
abbrev pub plain_command : SpeltCommand → Command
plain_command (SpeltNew cell len word) = New cell len word
plain_command (SpeltPut cell off bytes) = Put cell off bytes
plain_command (SpeltGet cell off len) = Get cell off len
plain_command (SpeltFree cell) = Free cell
plain_command (SpeltAlias to from) = Alias to from
plain_command (SpeltAddr cell) = Addr cell
plain_command (SpeltPeek address) = Peek address
plain_command (SpeltPoke address byte) = Poke address byte
plain_command (SpeltCopy to to_off from from_off len) = CopyBytes to to_off from from_off len

-- the command is within these greatest values: `cells` for cells, `sizes` for offsets and the length of a new object,
-- `places` for an address
abbrev pub IsWithin : ℕ → ℕ → ℕ → SpeltCommand → Type 0
IsWithin cells sizes places (SpeltNew cell len word) = (cell ≤ cells) × (len ≤ sizes)
IsWithin cells sizes places (SpeltPut cell off bytes) = (cell ≤ cells) × (off ≤ sizes)
IsWithin cells sizes places (SpeltGet cell off len) = (cell ≤ cells) × (off ≤ sizes)
IsWithin cells sizes places (SpeltFree cell) = cell ≤ cells
IsWithin cells sizes places (SpeltAlias to from) = (to ≤ cells) × (from ≤ cells)
IsWithin cells sizes places (SpeltAddr cell) = cell ≤ cells
IsWithin cells sizes places (SpeltPeek address) = address ≤ places
IsWithin cells sizes places (SpeltPoke address byte) = address ≤ places
IsWithin cells sizes places (SpeltCopy to to_off from from_off len) =
    (to ≤ cells) × (to_off ≤ sizes) × (from ≤ cells) × (from_off ≤ sizes)

-- the command stores, loads or copies 1 to `most` bytes, or none at all
abbrev pub AccessesUpTo : ℕ → Command → Type 0
AccessesUpTo most (Put cell off bytes) = (1 ≤ length bytes.items) × (length bytes.items ≤ most)
AccessesUpTo most (Get cell off len) = (1 ≤ len) × (len ≤ most)
AccessesUpTo most (CopyBytes to to_off from from_off len) = (1 ≤ len) × (len ≤ most)
AccessesUpTo most command = Unit {0}

-- the command may be in a recorded history: it accesses at most 4096 bytes
abbrev pub IsRecordable : Command → Type 0
IsRecordable command = AccessesUpTo 4096 command

-- a line was read as this command, whose bytes are few enough for the dialect, and whose numbers are at most the
-- greatest ones of the dialect
pub record IsCommandOf (dialect : Dialect) (read : Result Command FaultKind) (command : SpeltCommand) : Type 0 where
  pub is : read ≡ Ok (plain_command command)
  pub in_range : AccessesUpTo (most_bytes dialect) (plain_command command)
  pub within : IsWithin (most_cell dialect) (most_size dialect) (most_place dialect) command

-- the result of reading a line is its command, or why nothing was read
abbrev pub IsReadAs : Dialect → Result Command FaultKind → Result SpeltCommand LineFault → Type 0
IsReadAs dialect read (Ok command) = IsCommandOf dialect read command
IsReadAs dialect read (Err fault) = IsUnread (most_bytes dialect) read fault
