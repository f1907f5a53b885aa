-- How an object in a slot is stored.
use Rattle.std.specs.Prelude.{ℕ, refl}
use Rattle.std.specs.Coded.{Coded, code_by, coded×, coded_ℕ}
use Rattle.model_heap.specs.Table.{Slot}

-- an object in a slot is stored as its member, its serial and its length
abbrev pub slot_code : Coded Slot
slot_code =
    code_by (ℕ × (ℕ × ℕ)) (coded× coded_ℕ (coded× coded_ℕ coded_ℕ)) (λ s. (s.member, (s.serial, s.len)))
    (λ p. record { member = p.0; serial = p.1.0; len = p.1.1 }) (λ _. refl)
