-- What a change of one object leaves of a memory.
use Rattle.std.proofs.Common.{◌≡◌, ◌≢◌, ℕ, ◌+◌, ◌<◌, ◌≤◌, List, length, arith, Option, Some, None, length-append}
use Rattle.std.proofs.lemmas.Bool.Decides.{nat_tests}
use Rattle.std.proofs.lemmas.List.{get_or-set_same, get_or-set_other, get_or_past, length-take, length-drop}
use Rattle.model_memory.specs.Memory.{Memory, Object, next_serial, object_of, overwritten, with_object}

-- a serial with a live object is below the next one
pub live_below : (m : Memory) (serial : ℕ) (object : Object) → object_of m serial ≡ Some object → serial < next_serial m
live_below m serial object live = grind (arith, nat_tests, get_or_past m.objects serial None)

-- the object of the serial is the one put there
pub put_there : (m : Memory) (serial : ℕ) (was : Object) (object : Option Object) → object_of m serial ≡ Some was
    → object_of (with_object m serial object) serial ≡ object
put_there m serial was object live = get_or-set_same m.objects serial object None (live_below m serial was live)

-- an object of another serial stays
pub put_elsewhere : (m : Memory) (serial other : ℕ) (object : Option Object) → other ≢ serial → object_of (with_object m serial object) other ≡ object_of m other
put_elsewhere m serial other object apart = get_or-set_other m.objects serial other object None apart

-- bytes overwritten within a list leave its length
pub overwritten_length : (bytes : List ℕ) (off : ℕ) (new : List ℕ) → off + length new ≤ length bytes → length (overwritten bytes off new) ≡ length bytes
overwritten_length bytes off new fits = simp (length-append, length-take, length-drop) (omega (arith, fits))
