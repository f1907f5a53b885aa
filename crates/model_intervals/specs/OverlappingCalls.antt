-- What a history of overlapping calls is: each call names one object by its cell, between the object's creation and its
-- end. This project's own choice.
use Rattle.std.specs.Prelude.{◌≡◌, ◌≢◌, ℕ, ◌<◌, ◌≤◌, List, Some, slice_get}
use Rattle.std.specs.List.{All}
use Rattle.model_history.specs.Recorded.{many_cells}
use Rattle.model_words.specs.declared.commands.Command.{Command}
use Rattle.model_words.specs.declared.commands.Command.TheVariants.{New, Put, Get, Free, Alias, Addr, Peek, Poke, Copy as CopyBytes}
use Rattle.model_words.specs.declared.commands.Reply.{Reply}
use Rattle.model_words.specs.declared.commands.Reply.TheVariants.{Object as Made, Done, Bytes, At, Refused}
use Rattle.model_intervals.specs.Intervals.{Call}

-- the cell that a command names: of two cells the one that is written to, and 0 if a command names no cell
abbrev pub cell_of : Command → ℕ
cell_of (New cell len word) = cell
cell_of (Put cell off bytes) = cell
cell_of (Get cell off len) = cell
cell_of (Free cell) = cell
cell_of (Alias to from) = to
cell_of (Addr cell) = cell
cell_of (Peek address) = 0
cell_of (Poke address byte) = 0
cell_of (CopyBytes to to_off from from_off len) = to

-- the cell that a call names
abbrev pub cell_at : Call → ℕ
cell_at call = cell_of call.entry.command

-- a command names one object by its cell, and its answer reports its effect. Only a `new` may be refused
abbrev pub HasEffect : Command → Reply → Type 0
HasEffect (New cell len word) (Made serial address) = Unit {0}
HasEffect (New cell len word) (Refused refusal) = Unit {0}
HasEffect (Put cell off bytes) Done = Unit {0}
HasEffect (Get cell off len) (Bytes bytes) = Unit {0}
HasEffect (Free cell) Done = Unit {0}
HasEffect (Addr cell) (At address) = Unit {0}
HasEffect command reply = ⊥

-- the command is a `new`, whatever its answer
abbrev pub IsNew : Command → Type 0
IsNew (New cell len word) = Unit {0}
IsNew command = ⊥

-- the command made an object
abbrev pub MakesOne : Command → Reply → Type 0
MakesOne (New cell len word) (Made serial address) = Unit {0}
MakesOne command reply = ⊥

-- the command is a `free`
abbrev pub IsFree : Command → Type 0
IsFree (Free cell) = Unit {0}
IsFree command = ⊥

-- this call is at this place of the list
abbrev pub IsAt : List Call → ℕ → Call → Type 0
IsAt calls place call = slice_get calls place ≡ Some call

-- the object of a cell was made by a call that ended before this moment
pub record IsMadeBefore (calls : List Call) (cell moment : ℕ) : Type 0 where
  pub place : ℕ
  pub call : Call
  pub there : IsAt calls place call
  pub makes : MakesOne call.entry.command call.entry.reply
  pub names : cell_at call ≡ cell
  pub ended : call.end < moment

-- a history of calls that may overlap. No call ends before it begins, each names one object by a cell below 2^32, and
-- each `new` has a cell of its own. A call on an object begins after the object's `new` has ended, and ends before its
-- `free` begins
pub record IsHistory (calls : List Call) : Type 0 where
  pub take_time : All (λ call. call.begin ≤ call.end) calls
  pub have_effects : All (λ call. HasEffect call.entry.command call.entry.reply) calls
  pub have_cells : All (λ call. cell_at call < many_cells) calls
  pub own_cells : (i j : ℕ) (a b : Call) → i ≢ j → IsAt calls i a → IsAt calls j b → IsNew a.entry.command → IsNew b.entry.command → cell_at a ≢ cell_at b
  pub after_new : (i : ℕ) (call : Call) → IsAt calls i call → (IsNew call.entry.command → ⊥) → IsMadeBefore calls (cell_at call) call.begin
  pub before_free : (i j : ℕ) (call free : Call) → i ≢ j → IsAt calls i call → IsAt calls j free → IsFree free.entry.command → cell_at call ≡ cell_at free
      → call.end < free.begin
