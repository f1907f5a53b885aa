-- Examples of a few calls: which of them are a history, and which histories some order explains. The old byte is 0,
-- which a new object contains, and the new byte is 7, which `put_byte` stores.
use Rattle.std.specs.Prelude.{ℕ, List, [], ◌∷◌}
use Rattle.model_words.specs.declared.commands.Command.{Command}
use Rattle.model_words.specs.declared.commands.Command.TheVariants.{New, Put, Get, Free, Alias, Addr, Peek, Poke, Copy as CopyBytes}
use Rattle.model_words.specs.declared.commands.Reply.{Reply}
use Rattle.model_words.specs.declared.commands.Reply.TheVariants.{Object as Made, Done, Bytes, At, Byte, Refused}
use Rattle.model_words.specs.declared.refusals.Refusal.TheVariants.{Zero, TooLarge, NoPages, Empty, Outside}
use Rattle.model_intervals.specs.Intervals.{Call, IsLinearizable}
use Rattle.model_intervals.specs.OverlappingCalls.{IsHistory}

-- a history that some order explains
abbrev pub IsExplained : List Call → Type 0
IsExplained calls = IsHistory calls × IsLinearizable calls

-- a history that no order explains
abbrev pub IsUnexplained : List Call → Type 0
IsUnexplained calls = IsHistory calls × (IsLinearizable calls → ⊥)

-- ---- calls, each with its worker, its begin and its end

abbrev pub call : ℕ → ℕ → ℕ → Command → Reply → Call
call worker begin end command reply = record { begin = begin; end = end; entry = record { worker = worker; command = command; reply = reply } }

-- a call that makes an object of two bytes in a cell, with this serial and this address
abbrev pub new_object : ℕ → ℕ → ℕ → ℕ → ℕ → ℕ → Call
new_object worker begin end cell serial address = call worker begin end (New cell 2 0) (Made serial address)

-- the call from 0 to 1 that makes object 5 in cell 0 at 4096
abbrev pub first_object : Call
first_object = new_object 0 0 1 0 5 4096

-- a call that stores 7 in the first byte of the object of cell 0
abbrev pub put_byte : ℕ → ℕ → ℕ → Call
put_byte worker begin end = call worker begin end (Put 0 0 (record { items = 7 ∷ [] })) Done

-- a call that loads the first byte of the object of cell 0, and returns this byte
abbrev pub get_byte : ℕ → ℕ → ℕ → ℕ → Call
get_byte worker begin end byte = call worker begin end (Get 0 0 1) (Bytes (record { items = byte ∷ [] }))

-- a call that frees the object of cell 0
abbrev pub free_first : ℕ → ℕ → ℕ → Call
free_first worker begin end = call worker begin end (Free 0) Done

-- ---- accesses that overlap, and accesses that don't

-- a `get` that begins after a `put` has begun, and ends before the `put` ends
abbrev pub get_during_put : ℕ → List Call
get_during_put byte = first_object ∷ put_byte 0 2 5 ∷ get_byte 1 3 4 byte ∷ []

-- the `get` may return the old byte or the new one, and no other
abbrev pub OverlappingAccessesHaveEitherOrder : Type 0
OverlappingAccessesHaveEitherOrder = IsExplained (get_during_put 0) × IsExplained (get_during_put 7) × IsUnexplained (get_during_put 1)

-- a `get` that begins after a `put` has ended
abbrev pub get_after_put : ℕ → List Call
get_after_put byte = first_object ∷ put_byte 0 2 3 ∷ get_byte 1 4 5 byte ∷ []

-- the `get` may not return the old byte
abbrev pub StaleReadsAreUnexplained : Type 0
StaleReadsAreUnexplained = IsExplained (get_after_put 7) × IsUnexplained (get_after_put 0)

-- a `get` that begins at the moment when a `put` ends
abbrev pub get_at_end_of_put : ℕ → List Call
get_at_end_of_put byte = first_object ∷ put_byte 0 2 3 ∷ get_byte 1 3 4 byte ∷ []

-- if one access ends at the moment when another begins, the two may have either order
abbrev pub TouchingAccessesHaveEitherOrder : Type 0
TouchingAccessesHaveEitherOrder = IsExplained (get_at_end_of_put 0) × IsExplained (get_at_end_of_put 7)

-- calls of one worker are no exception: they may overlap, and if two of them touch, they may have either order
abbrev pub WorkersAreNotCompared : Type 0
WorkersAreNotCompared = IsExplained (first_object ∷ put_byte 0 2 5 ∷ get_byte 0 3 4 0 ∷ [])
    × IsExplained (first_object ∷ put_byte 0 2 3 ∷ get_byte 0 3 4 0 ∷ [])

-- two `get`, one after the other, during a `put`
abbrev pub two_gets_during_put : ℕ → ℕ → List Call
two_gets_during_put byte later = first_object ∷ put_byte 0 2 7 ∷ get_byte 1 3 4 byte ∷ get_byte 1 5 6 later ∷ []

-- if the first `get` returns the new byte, the second may not return the old byte
abbrev pub LaterReadsSeeTheNewByte : Type 0
LaterReadsSeeTheNewByte = IsExplained (two_gets_during_put 0 0) × IsExplained (two_gets_during_put 0 7) × IsExplained (two_gets_during_put 7 7)
    × IsUnexplained (two_gets_during_put 7 0)

-- ---- ranges of objects

-- the first object is freed from 4 to 6, and another object with an overlapping range is made from `begin` to `end`
abbrev pub range_taken_again : ℕ → ℕ → List Call
range_taken_again begin end = first_object ∷ free_first 0 4 6 ∷ new_object 1 begin end 1 6 4097 ∷ []

-- if the ranges of two objects overlap, the `free` of the first begins no later than the `new` of the other ends
abbrev pub MeetingRangesAreFreedFirst : Type 0
MeetingRangesAreFreedFirst = IsExplained (range_taken_again 5 7) × IsExplained (range_taken_again 2 4) × IsUnexplained (range_taken_again 2 3)

-- another object of two bytes is made at this address, and the first object is never freed
abbrev pub two_live_objects : ℕ → List Call
two_live_objects address = first_object ∷ new_object 1 2 3 1 6 address ∷ []

-- ranges of live objects may touch on either side, but may not overlap
abbrev pub LiveRangesAreApart : Type 0
LiveRangesAreApart = IsExplained (two_live_objects 4098) × IsExplained (two_live_objects 4094)
    × IsUnexplained (two_live_objects 4097) × IsUnexplained (two_live_objects 4095)

-- ---- answers

-- another object at 8192 with this serial is made after the first object was freed
abbrev pub serial_after_free : ℕ → List Call
serial_after_free serial = first_object ∷ free_first 0 2 3 ∷ new_object 0 4 5 1 serial 8192 ∷ []

-- no serial is given twice, even if the first object that had it was freed
abbrev pub SerialsAreGivenOnce : Type 0
SerialsAreGivenOnce = IsExplained (serial_after_free 6) × IsUnexplained (serial_after_free 5)

-- a `new` of this length with this answer
abbrev pub new_answered : ℕ → Reply → List Call
new_answered len reply = call 0 0 1 (New 0 len 0) reply ∷ []

-- a `new` makes no object of 0 bytes or of more than 2^47, and is refused only for a reason that fits its length
abbrev pub NewAnswersFitTheLength : Type 0
NewAnswersFitTheLength = IsUnexplained (new_answered 0 (Made 5 4096)) × IsUnexplained (new_answered 140737488355329 (Made 5 4096))
    × IsExplained (new_answered 0 (Refused Zero)) × IsUnexplained (new_answered 2 (Refused Zero))
    × IsExplained (new_answered 2 (Refused NoPages)) × IsUnexplained (new_answered 0 (Refused NoPages))
    × IsExplained (new_answered 140737488355328 (Refused NoPages)) × IsUnexplained (new_answered 140737488355329 (Refused NoPages))
    × IsExplained (new_answered 140737488355329 (Refused TooLarge)) × IsUnexplained (new_answered 2 (Refused Outside))

-- one call on the first object
abbrev pub one_access : Command → Reply → List Call
one_access command reply = first_object ∷ call 0 2 3 command reply ∷ []

-- a `put` that is done ends within its object
abbrev pub PutsEndWithin : Type 0
PutsEndWithin = IsExplained (one_access (Put 0 1 (record { items = 7 ∷ [] })) Done)
    × IsUnexplained (one_access (Put 0 1 (record { items = 7 ∷ 8 ∷ [] })) Done)

-- a `get` returns exactly the number of bytes that were asked for, and its range ends within its object
abbrev pub GetsReturnAll : Type 0
GetsReturnAll = IsExplained (one_access (Get 0 0 2) (Bytes (record { items = 0 ∷ 0 ∷ [] })))
    × IsUnexplained (one_access (Get 0 0 2) (Bytes (record { items = 0 ∷ [] })))
    × IsUnexplained (one_access (Get 0 0 1) (Bytes (record { items = 0 ∷ 0 ∷ [] })))
    × IsUnexplained (one_access (Get 0 1 2) (Bytes (record { items = 0 ∷ [] })))

-- `addr` returns the address of its object
abbrev pub AddrReturnsTheAddress : Type 0
AddrReturnsTheAddress = IsExplained (one_access (Addr 0) (At 4096)) × IsUnexplained (one_access (Addr 0) (At 4097))

-- ---- what is a history

-- a `put` that begins at this moment, on an object whose `new` ends at 1
abbrev pub put_begun_at : ℕ → List Call
put_begun_at begin = first_object ∷ put_byte 1 begin 5 ∷ []

-- a call on an object begins after the end of the `new` that made the object in the call's cell
abbrev pub CallsBeginAfterNew : Type 0
CallsBeginAfterNew = IsHistory (put_begun_at 2) × (IsHistory (put_begun_at 1) → ⊥) × (IsHistory (put_begun_at 0) → ⊥)
    × (IsHistory (call 0 0 1 (New 0 2 0) (Refused NoPages) ∷ put_byte 1 2 5 ∷ []) → ⊥)
    × (IsHistory (new_object 0 0 1 1 5 4096 ∷ put_byte 1 2 5 ∷ []) → ⊥)

-- a `put` that ends at this moment, on an object whose `free` begins at 4
abbrev pub put_ended_at : ℕ → List Call
put_ended_at end = first_object ∷ put_byte 1 2 end ∷ free_first 0 4 6 ∷ []

-- a call ends before the `free` of its object begins
abbrev pub CallsEndBeforeFree : Type 0
CallsEndBeforeFree = IsHistory (put_ended_at 3) × (IsHistory (put_ended_at 4) → ⊥) × (IsHistory (put_ended_at 5) → ⊥)

-- the first object is made in cell 0, and another object in the given cell
abbrev pub second_object : ℕ → List Call
second_object cell = first_object ∷ new_object 1 2 3 cell 6 8192 ∷ []

-- each `new` has a cell of its own, even if the object of an earlier `new` was freed, or the earlier `new` was refused
abbrev pub EachNewHasItsOwnCell : Type 0
EachNewHasItsOwnCell = IsHistory (second_object 1) × (IsHistory (second_object 0) → ⊥)
    × (IsHistory (first_object ∷ free_first 0 2 3 ∷ new_object 0 4 5 0 6 8192 ∷ []) → ⊥)
    × (IsHistory (call 0 0 1 (New 0 2 0) (Refused NoPages) ∷ new_object 0 2 3 0 5 4096 ∷ []) → ⊥)

-- an object is freed at most once
abbrev pub ObjectsAreFreedOnce : Type 0
ObjectsAreFreedOnce = IsHistory (first_object ∷ free_first 0 2 3 ∷ []) × (IsHistory (first_object ∷ free_first 0 2 3 ∷ free_first 0 4 5 ∷ []) → ⊥)

-- only a `new` may be refused
abbrev pub OnlyNewIsRefused : Type 0
OnlyNewIsRefused = IsHistory (new_answered 2 (Refused NoPages))
    × (IsHistory (one_access (Put 0 1 (record { items = 7 ∷ 8 ∷ [] })) (Refused Outside)) → ⊥)
    × (IsHistory (one_access (Get 0 1 2) (Refused Outside)) → ⊥)
    × (IsHistory (one_access (Addr 0) (Refused Empty)) → ⊥)
    × (IsHistory (one_access (Free 0) (Refused Empty)) → ⊥)

-- a history contains no `alias`, and no command on an address or on two objects
abbrev pub CallsNameOneObject : Type 0
CallsNameOneObject = (IsHistory (one_access (Alias 0 0) Done) → ⊥) × (IsHistory (one_access (Peek 4096) (Byte 0)) → ⊥)
    × (IsHistory (one_access (Poke 4096 7) Done) → ⊥) × (IsHistory (one_access (CopyBytes 0 0 0 1 1) Done) → ⊥)

-- a call may not end before it begins
abbrev pub CallsTakeTime : Type 0
CallsTakeTime = IsHistory (new_object 0 1 1 0 5 4096 ∷ []) × (IsHistory (new_object 0 1 0 0 5 4096 ∷ []) → ⊥)

-- a cell is below 2^32
abbrev pub CellsAreBounded : Type 0
CellsAreBounded = IsHistory (new_object 0 0 1 4294967295 5 4096 ∷ []) × (IsHistory (new_object 0 0 1 4294967296 5 4096 ∷ []) → ⊥)
