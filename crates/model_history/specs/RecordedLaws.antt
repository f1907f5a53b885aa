-- What follows from the definition of a recorded history.
use Rattle.std.specs.Prelude.{◌≡◌, ◌↔◌, ℕ, ◌<◌, List, ◌++◌, ◌∷◌}
use Rattle.std.specs.List.{All, range_with_len}
use Rattle.model_memory.specs.Memory.{Memory, next_serial}
use Rattle.model_memory.specs.Plain.{Entry, IsLegal}
use Rattle.model_words.specs.declared.commands.Command.{Command}
use Rattle.model_words.specs.declared.commands.Command.TheVariants.{New, Put, Get, Free, Alias, Addr, Peek, Poke, Copy as CopyBytes}
use Rattle.model_words.specs.declared.commands.Reply.TheVariants.{Object as Made}
use Rattle.model_history.specs.Recorded.{Allocator, IsRecorded, Recorded, any_allocator, this_heap}

-- a memory whose objects have the serials that this heap gives: 0, 1, ..
abbrev pub counted : Memory → Recorded
counted m = record { memory = m; serials = range_with_len 0 (next_serial m) }

-- a history is legal for this heap if and only if it is recorded for `this_heap`, and the ends agree
abbrev pub ThisHeapIsACase : Type 0
ThisHeapIsACase = (entries : List Entry) (end : Memory) → IsLegal entries end ↔ IsRecorded this_heap entries (counted end)

-- each cell of a command is below this number
abbrev pub HasCells : ℕ → Command → Type 0
HasCells cells (New cell len word) = cell < cells
HasCells cells (Put cell off bytes) = cell < cells
HasCells cells (Get cell off len) = cell < cells
HasCells cells (Free cell) = cell < cells
HasCells cells (Alias to from) = (to < cells) × (from < cells)
HasCells cells (Addr cell) = cell < cells
HasCells cells (Peek address) = Unit {0}
HasCells cells (Poke address byte) = Unit {0}
HasCells cells (CopyBytes to to_off from from_off len) = (to < cells) × (from < cells)

-- if the cells of all entries are below 256, a legal history of this heap is also one of any allocator
abbrev pub HeapHistoriesAreTaken : Type 0
HeapHistoriesAreTaken = (entries : List Entry) (end : Memory) → All (λ entry. HasCells 256 entry.command) entries → IsLegal entries end
    → (end' : Recorded) × IsRecorded any_allocator entries end'

-- a recorded history of an allocator has at most one end
abbrev pub RecordedHaveOneEnd : Type 0
RecordedHaveOneEnd = (allocator : Allocator) (entries : List Entry) (m n : Recorded) → IsRecorded allocator entries m → IsRecorded allocator entries n → m ≡ n

-- in a recorded history of any allocator, no two objects have the same serial
abbrev pub SerialsAreGivenOnce : Type 0
SerialsAreGivenOnce = (before between after : List Entry) (worker cell len word address worker' cell' len' word' address' serial : ℕ) (end : Recorded)
    → IsRecorded any_allocator (before ++ record { worker = worker; command = New cell len word; reply = Made serial address }
    ∷ (between ++ record { worker = worker'; command = New cell' len' word'; reply = Made serial address' } ∷ after)) end → ⊥
