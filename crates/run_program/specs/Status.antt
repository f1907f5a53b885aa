-- The exit statuses.
use Rattle.std.specs.Prelude.{ℕ}
use Rattle.text_devices.specs.declared.faults.ReplayError.{ReplayError}
use Rattle.text_devices.specs.declared.faults.ReplayError.TheVariants.{Read, Write, Memory, Text}

-- the status of an error that stops a replay: 2 if the text has a fault, otherwise 1
abbrev pub status_of_error : ReplayError → ℕ
status_of_error (Text fault) = 2
status_of_error Read = 1
status_of_error Write = 1
status_of_error Memory = 1
