-- The devices of a judgement, whose input is read through a buffer.
use Rattle.std.proofs.Common.{◌≡◌, ℕ, Bool, List, [], Option, Some, None, refl}
use Rattle.std.specs.Io.KnownBytes.{prepend_known}
use Rattle.run_program.specs.Seen.{Seen, seen}

prepend_nothing : (known : Option (List ℕ)) → prepend_known [] known ≡ known
prepend_nothing None = refl
prepend_nothing (Some bytes) = refl

-- nothing comes before what a source has left of which no byte was inspected
pub uninspected : (items : List ℕ) (known known' : Option (List ℕ)) → items ≡ [] → known ≡ known' → prepend_known items known ≡ known'
uninspected items known known' none same = rw (none, same) (prepend_nothing known')

seen_as : (left written told : Option (List ℕ)) (input_failed output_failed errors_failed : Bool) (devices : Seen) → left ≡ devices.left → written ≡ devices.written
    → told ≡ devices.told → input_failed ≡ devices.input_failed → output_failed ≡ devices.output_failed → errors_failed ≡ devices.errors_failed
    → seen left written told input_failed output_failed errors_failed ≡ devices
seen_as left written told input_failed output_failed errors_failed devices a b c d e f = rw (a, b, c, d, e, f) refl

-- devices that agree in each part are the same
pub same_devices : (devices devices' : Seen) → devices.left ≡ devices'.left → devices.written ≡ devices'.written → devices.told ≡ devices'.told
    → devices.input_failed ≡ devices'.input_failed → devices.output_failed ≡ devices'.output_failed → devices.errors_failed ≡ devices'.errors_failed
    → devices ≡ devices'
same_devices devices devices' a b c d e f =
    seen_as devices.left devices.written devices.told devices.input_failed devices.output_failed devices.errors_failed devices' a b c d e f
