-- Why a replay stops.
use Rattle.text_fields.specs.declared.faults.ReadFault.{ReadFault}
use Rattle.text_fields.specs.declared.faults.ReadFault.TheVariants.{Text as ReadText, Memory as ReadMemory}
use Rattle.text_devices.specs.declared.faults.ReplayError.{ReplayError}
use Rattle.text_devices.specs.declared.faults.ReplayError.TheVariants.{Text, Memory}

-- the error of a replay that stops because it couldn't read its job
abbrev pub replay_error_of : ReadFault → ReplayError
replay_error_of (ReadText fault) = Text fault
replay_error_of ReadMemory = Memory
