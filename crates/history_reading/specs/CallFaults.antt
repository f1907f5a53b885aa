-- Why the reading of a history of overlapping calls stops.
use Rattle.text_devices.specs.declared.faults.ReplayError.{ReplayError}
use Rattle.text_devices.specs.declared.faults.ReplayError.TheVariants.{Text as FaultyText, Read as FailedRead, Write as FailedWrite, Memory as OfMemory}
use Rattle.history_reading.specs.declared.faults.CallError.{CallError}
use Rattle.history_reading.specs.declared.faults.CallError.TheVariants.{Text, Read, Memory}

-- the error of reading calls, from the error of reading lines. A failed write, which reading lines never has, counts as
-- a failed read
abbrev pub call_error_of : ReplayError → CallError
call_error_of (FaultyText fault) = Text fault
call_error_of FailedRead = Read
call_error_of FailedWrite = Read
call_error_of OfMemory = Memory
