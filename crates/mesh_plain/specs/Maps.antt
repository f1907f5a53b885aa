-- The reference memory as two finite maps: from serial to object, and from cell to serial.
use Rattle.std.specs.Prelude.{◌≡◌, ◌≢◌, ℕ, zero, suc, ◌+◌, ◌<◌, ◌≤◌, ◌⊎◌, Bool, true, false, if◌then◌else◌, List, [], ◌∷◌, Option, Some, None, Result, Ok, Err, refl, length, slice_range}
use Rattle.std.specs.Coded.{Coded, code_by, coded×, coded_list, coded_option, coded_ℕ}
use Rattle.model_memory.specs.Memory.{Memory, Object, has_address, overwritten}
use Rattle.mesh_plain.specs.declared.faults.PlainFault.{PlainFault}
use Rattle.mesh_plain.specs.declared.faults.PlainFault.TheVariants.{Freed, Outside}

-- the values of a function at `n` numbers from `k` on
abbrev pub values_from : {X : Type 0} → (ℕ → X) → ℕ → ℕ → List X
values_from f k zero = []
values_from f k (suc n) = f k ∷ values_from f (suc k) n

-- the memory with these objects below the serial `next`, and these serials in its 256 cells
abbrev pub memory_of_maps : (ℕ → Option Object) → ℕ → (ℕ → Option ℕ) → Memory
memory_of_maps object next root = record { objects = values_from object 0 next; roots = values_from root 0 256 }

-- an object is stored as its address and bytes
abbrev pub object_code : Coded Object
object_code = code_by (ℕ × List ℕ) (coded× coded_ℕ (coded_list coded_ℕ)) (λ o. (o.address, o.bytes)) (λ p. record { address = p.0; bytes = p.1 }) (λ _. refl)

-- a memory is stored as its objects and roots
abbrev pub memory_code : Coded Memory
memory_code = code_by (List (Option Object) × List (Option ℕ)) (coded× (coded_list (coded_option object_code)) (coded_list (coded_option coded_ℕ)))
    (λ m. (m.objects, m.roots)) (λ p. record { objects = p.0; roots = p.1 }) (λ _. refl)

-- each number for which the function gives a value is below `next`
abbrev pub AreBelow : {X : Type 0} → (ℕ → Option X) → ℕ → Type 0
AreBelow {X} f next = (k : ℕ) (x : X) → f k ≡ Some x → k < next

-- both functions give equal values at each number
abbrev pub IsSameAt : {X : Type 0} → (ℕ → Option X) → (ℕ → Option X) → Type 0
IsSameAt f g = (k : ℕ) → g k ≡ f k

-- `g` gives `v` at `k`, and the value of `f` at each other number
abbrev pub IsSetAt : {X : Type 0} → (ℕ → Option X) → (ℕ → Option X) → ℕ → Option X → Type 0
IsSetAt f g k v = (g k ≡ v) × ((q : ℕ) → q ≢ k → g q ≡ f q)

-- there is an object, and its bytes contain the range of `len` bytes from the offset on
abbrev pub HasRange : Option Object → ℕ → ℕ → Type 0
HasRange None off len = ⊥
HasRange (Some x) off len = off + len ≤ length x.bytes

-- whether there is an object and it has the address
abbrev pub holds_address : Option Object → ℕ → Bool
holds_address None address = false
holds_address (Some x) address = has_address x address

-- the serial of the first entry whose object has the address
abbrev pub first_holder : List (ℕ × Object) → ℕ → Option ℕ
first_holder [] address = None
first_holder (entry ∷ entries) address = if has_address entry.1 address then Some entry.0 else first_holder entries address

-- the least serial whose object has the address, or None if no object has the address
abbrev pub IsHolder : (ℕ → Option Object) → ℕ → Option ℕ → Type 0
IsHolder object address None = (k : ℕ) → holds_address (object k) address ≡ false
IsHolder object address (Some serial) = (holds_address (object serial) address ≡ true) × ((k : ℕ) → k < serial → holds_address (object k) address ≡ false)

-- bytes were stored in the object of a serial, or the fault gives the reason why nothing changed
abbrev pub IsOverwritten : (ℕ → Option Object) → (ℕ → Option Object) → ℕ → ℕ → List ℕ → Result (Unit {0}) PlainFault → Type 0
IsOverwritten old new serial off bytes (Ok _) = (x : Object) × (old serial ≡ Some x) × (off + length bytes ≤ length x.bytes)
    × IsSetAt old new serial (Some (record x { bytes = overwritten x.bytes off bytes }))
IsOverwritten old new serial off bytes (Err Outside) = (x : Object) × (old serial ≡ Some x) × (length x.bytes < off + length bytes) × IsSameAt old new
IsOverwritten old new serial off bytes (Err Freed) = (old serial ≡ None) × IsSameAt old new
IsOverwritten old new serial off bytes (Err _) = ⊥

-- a range of one object's bytes was stored in the same or another object, or the fault gives the reason why nothing
-- changed
abbrev pub IsCopied : (ℕ → Option Object) → (ℕ → Option Object) → ℕ → ℕ → ℕ → ℕ → ℕ → Result (Unit {0}) PlainFault → Type 0
IsCopied old new to to_off from from_off len (Ok _) = (x y : Object) × (old to ≡ Some x) × (old from ≡ Some y)
    × (to_off + len ≤ length x.bytes) × (from_off + len ≤ length y.bytes)
    × IsSetAt old new to (Some (record x { bytes = overwritten x.bytes to_off (slice_range y.bytes from_off (from_off + len)) }))
IsCopied old new to to_off from from_off len (Err Outside) = (x y : Object) × (old to ≡ Some x) × (old from ≡ Some y)
    × ((length x.bytes < to_off + len) ⊎ (length y.bytes < from_off + len)) × IsSameAt old new
IsCopied old new to to_off from from_off len (Err Freed) = ((old to ≡ None) ⊎ (old from ≡ None)) × IsSameAt old new
IsCopied old new to to_off from from_off len (Err _) = ⊥
