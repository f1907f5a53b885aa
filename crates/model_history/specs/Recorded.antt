-- The reference memory of a recorded history, for any allocator. Allocators differ in bounds and choices, and this heap
-- is one case. This project's own choice.
use Rattle.std.specs.Prelude.{◌≡◌, ℕ, ◌≤◌, Bool, true, not, nat_eq, nat_le, nat_lt, List, [], ◌∷◌, ◌++◌, None, length, replicate}
use Rattle.std.specs.List.{list_any}
use Rattle.model_memory.specs.Memory.{Memory}
use Rattle.model_memory.specs.Plain.{Entry, IsVacantRange, PlainStep, made}
use Rattle.model_words.specs.declared.commands.Command.{Command}
use Rattle.model_words.specs.declared.commands.Command.TheVariants.{New}
use Rattle.model_words.specs.declared.commands.Reply.{Reply}
use Rattle.model_words.specs.declared.commands.Reply.TheVariants.{Object as Made, Refused}
use Rattle.model_words.specs.declared.refusals.Refusal.{Refusal}
use Rattle.model_words.specs.declared.refusals.Refusal.TheVariants.{Zero, TooLarge, NoPages, NoAddresses}

-- the bounds and choices of an allocator: the number of its root cells, the most bytes of an object, and the lengths
-- that it may refuse as too large. `may_be_next` says which serials it may give an object after the serials that were
-- given before
pub record Allocator : Type 0 where
  pub cells : ℕ
  pub longest : ℕ
  pub may_be_large : ℕ → Bool
  pub may_be_next : List ℕ → ℕ → Bool

-- this heap: 256 cells, objects of up to 2,048 bytes, and serials counted from 0
abbrev pub this_heap : Allocator
this_heap = record { cells = 256; longest = 2048; may_be_large = λ len. nat_lt 2048 len; may_be_next = λ serials serial. nat_eq serial (length serials) }

-- the number of cells that 32 bits can number
unfoldable pub many_cells : ℕ
many_cells = 4294967296

-- whether the serial was given before
abbrev pub was_given : List ℕ → ℕ → Bool
was_given serials serial = list_any (λ other. nat_eq other serial) serials

-- any allocator: 2^32 cells, so that each object can have its own, and objects of at most 2^47 bytes. It may refuse any
-- length above 0 as too large, and give any serial that it never gave before
abbrev pub any_allocator : Allocator
any_allocator = record {
  cells = many_cells;
  longest = 140737488355328;
  may_be_large = λ len. nat_le 1 len;
  may_be_next = λ serials serial. not (was_given serials serial);
}

-- a reference memory, and the serials that its objects were given, in the order of creation. The memory itself counts
-- its objects from 0
pub record Recorded : Type 0 where
  pub memory : Memory
  pub serials : List ℕ

-- the recorded memory before any entry: no object, and empty cells
abbrev pub nothing_recorded : Allocator → Recorded
nothing_recorded allocator = record { memory = record { objects = []; roots = replicate allocator.cells None }; serials = [] }

-- an allocator may refuse a `new` of this length for this reason
abbrev pub IsOwnRefusal : Allocator → ℕ → Refusal → Type 0
IsOwnRefusal allocator len Zero = len ≡ 0
IsOwnRefusal allocator len TooLarge = allocator.may_be_large len ≡ true
IsOwnRefusal allocator len NoPages = (1 ≤ len) × (len ≤ allocator.longest)
IsOwnRefusal allocator len NoAddresses = (1 ≤ len) × (len ≤ allocator.longest)
IsOwnRefusal allocator len _ = ⊥

-- a `new` may have this reply and leave this memory: an object with a serial of the allocator's choice at any vacant
-- range, or a refusal that changes nothing
abbrev pub RecordsNew : Allocator → Recorded → ℕ → ℕ → Reply → Recorded → Type 0
RecordsNew allocator r cell len (Made serial address) n =
    (1 ≤ len) × (len ≤ allocator.longest) × (allocator.may_be_next r.serials serial ≡ true) × IsVacantRange r.memory address len
    × (n ≡ record { memory = made r.memory cell len address; serials = r.serials ++ serial ∷ [] })
RecordsNew allocator r cell len (Refused refusal) n = IsOwnRefusal allocator len refusal × (n ≡ r)
RecordsNew allocator r cell len _ n = ⊥

-- a recorded step: a `new` as the allocator may answer it, or another command as a step of the reference memory,
-- without a new serial
abbrev pub RecordedStep : Allocator → Recorded → Command → Reply → Recorded → Type 0
RecordedStep allocator r (New cell len word) reply n = RecordsNew allocator r cell len reply n
RecordedStep allocator r command reply n = PlainStep r.memory command reply n.memory × (n.serials ≡ r.serials)

-- the entries lead from the first recorded memory to the last, step by step
abbrev pub RecordedRuns : Allocator → Recorded → List Entry → Recorded → Type 0
RecordedRuns allocator r [] n = n ≡ r
RecordedRuns allocator r (entry ∷ entries) n =
    (k : Recorded) × RecordedStep allocator r entry.command entry.reply k × RecordedRuns allocator k entries n

-- a legal history of an allocator: its entries lead from the memory before any entry to this end
abbrev pub IsRecorded : Allocator → List Entry → Recorded → Type 0
IsRecorded allocator entries end = RecordedRuns allocator (nothing_recorded allocator) entries end
