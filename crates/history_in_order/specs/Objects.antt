-- How a live object is stored.
use Rattle.std.specs.Prelude.{ℕ, List, Option, Some, None, refl}
use Rattle.std.specs.Coded.{Coded, code_by, coded×, coded_list, coded_ℕ}
use Rattle.model_memory.specs.Memory.{Object}

-- a live object, its serial, and the line of the `new` that made it
pub record LiveObject : Type 0 where
  pub object : Object
  pub serial : ℕ
  pub made_at : ℕ

-- a live object is stored as its address, its bytes, its serial and its line
abbrev pub live_code : Coded LiveObject
live_code =
    code_by ((ℕ × List ℕ) × (ℕ × ℕ)) (coded× (coded× coded_ℕ (coded_list coded_ℕ)) (coded× coded_ℕ coded_ℕ))
    (λ o. ((o.object.address, o.object.bytes), (o.serial, o.made_at)))
    (λ p. record { object = record { address = p.0.0; bytes = p.0.1 }; serial = p.1.0; made_at = p.1.1 }) (λ _. refl)

-- the object, without serial and line
abbrev pub object_in : Option LiveObject → Option Object
object_in None = None
object_in (Some live) = Some live.object

-- the serial of a live object
abbrev pub serial_in : Option LiveObject → Option ℕ
serial_in None = None
serial_in (Some live) = Some live.serial

-- the object with other bytes
abbrev pub with_bytes : LiveObject → List ℕ → LiveObject
with_bytes live bytes = record live { object = record { address = live.object.address; bytes = bytes } }
