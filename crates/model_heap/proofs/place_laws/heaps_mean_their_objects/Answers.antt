use Rattle.std.proofs.Common.{refl}
use Rattle.model_heap.proofs.AddressPlaces.{held_is_led, led_is_held}
use Rattle.model_heap.proofs.place_laws.heaps_mean_their_objects.Goals as goal

pub returns-clause-none : goal.returns-clause-none
returns-clause-none c targets bytes = refl

pub returns-clause-bytes : goal.returns-clause-bytes
returns-clause-bytes c targets bytes roots address = refl

pub returns-clause-slots : goal.returns-clause-slots
returns-clause-slots c class slot = refl

pub returns-clause-held : goal.returns-clause-held
returns-clause-held c read_only = refl

pub returns-clause-led : goal.returns-clause-led
returns-clause-led c targets page r = (held_is_led targets page r, λ h. led_is_held targets page r h.0 h.1 h.2 h.3)
