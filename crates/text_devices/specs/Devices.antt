-- The parts of a device that contracts name, and when a call of a device is a failure.
use Rattle.std.specs.Prelude.{◌&&◌, ◌||◌, ◌==◌, ℕ, Bool, true, Result, Ok, Err, nat_lt}
use Rattle.text_devices.specs.declared.devices.Device.{Device}

-- whether a read into a buffer of size `room` failed, or reported more than `room` bytes
abbrev pub is_read_fault : {E : Type 0} → Result ℕ E → ℕ → Bool
is_read_fault (Ok count) room = nat_lt room count
is_read_fault (Err e) room = true

-- whether a write of `len` bytes failed, reported 0 though `len` isn't 0, or reported more than `len`
abbrev pub is_write_fault : {E : Type 0} → Result ℕ E → ℕ → Bool
is_write_fault (Ok count) len = nat_lt len count || (count == 0 && nat_lt 0 len)
is_write_fault (Err e) len = true

-- the reader or the writer in a device. The next definition is whether a call of the device has failed
abbrev pub inner_of : {D : Type 0} → Device D → D
inner_of device = device.inner

abbrev pub has_failed_once : {D : Type 0} → Device D → Bool
has_failed_once device = device.failed
