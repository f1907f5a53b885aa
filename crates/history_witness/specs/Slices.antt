-- Slices: calls of a history that can be judged without the other calls. This project's own choice.
use Rattle.std.specs.Prelude.{◌≡◌, ℕ, ◌+◌, ◌≤◌, max, Bool, true, false, ◌&&◌, if◌then◌else◌, nat_eq, nat_le, nat_lt, List, [], ◌∷◌, length}
use Rattle.model_words.specs.declared.commands.Command.{Command}
use Rattle.model_words.specs.declared.commands.Command.TheVariants.{New, Put, Get, Free}
use Rattle.model_intervals.specs.Intervals.{Call}
use Rattle.model_intervals.specs.OverlappingCalls.{IsAt, cell_at}

-- whether the command stores the byte at this offset of the object of a cell
abbrev pub stores_at : ℕ → ℕ → Command → Bool
stores_at cell at (Put c off bytes) = nat_eq c cell && nat_le off at && nat_lt at (off + length bytes.items)
stores_at cell at command = false

-- whether the command loads the byte at this offset of the object of a cell
abbrev pub loads_at : ℕ → ℕ → Command → Bool
loads_at cell at (Get c off len) = nat_eq c cell && nat_le off at && nat_lt at (off + len)
loads_at cell at command = false

-- the begin of the call if it stores this byte and ends before the moment, or else 0
abbrev pub begin_before : ℕ → ℕ → ℕ → Call → ℕ
begin_before cell at moment call = if stores_at cell at call.entry.command && nat_lt call.end moment then call.begin else 0

-- the greatest begin of the calls that store this byte and end before the moment, or 0 if there is none
abbrev pub latest_begin : ℕ → ℕ → ℕ → List Call → ℕ
latest_begin cell at moment [] = 0
latest_begin cell at moment (call ∷ calls) = max (begin_before cell at moment call) (latest_begin cell at moment calls)

-- whether the command is the `new` or the `free` of a cell's object
abbrev pub is_new_or_free : ℕ → Command → Bool
is_new_or_free cell (New c len word) = nat_eq c cell
is_new_or_free cell (Free c) = nat_eq c cell
is_new_or_free cell command = false

-- the `new` and the `free` of a cell's object are taken, if they are among the calls
abbrev pub TakesNewAndFree : List Call → (ℕ → Bool) → ℕ → Type 0
TakesNewAndFree calls taken cell = (i : ℕ) (call : Call) → IsAt calls i call → is_new_or_free cell call.entry.command ≡ true → taken i ≡ true

-- each store is taken whose byte a load of the cell's object can return at this offset: it began before the load ended,
-- and no other store of the byte is between the two
abbrev pub TakesStoresAt : List Call → (ℕ → Bool) → ℕ → ℕ → Call → Type 0
TakesStoresAt calls taken cell at load = (i : ℕ) (store : Call) → IsAt calls i store → stores_at cell at store.entry.command ≡ true
    → store.begin ≤ load.end → latest_begin cell at load.begin calls ≤ store.end → taken i ≡ true

-- each store is taken whose byte the call can return at some offset
abbrev pub TakesStores : List Call → (ℕ → Bool) → Call → Type 0
TakesStores calls taken call = (at : ℕ) → loads_at (cell_at call) at call.entry.command ≡ true → TakesStoresAt calls taken (cell_at call) at call

-- the calls at the places in `taken` are a slice of the calls: with each call, the `new` and the `free` of its object
-- are taken, and each store whose byte the call can return
abbrev pub IsSlice : List Call → (ℕ → Bool) → Type 0
IsSlice calls taken = (i : ℕ) (call : Call) → IsAt calls i call → taken i ≡ true
    → TakesNewAndFree calls taken (cell_at call) × TakesStores calls taken call
