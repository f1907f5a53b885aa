-- Where the bytes of addresses and objects are and, by examples, what a heap means.
use Rattle.std.specs.Prelude.{◌≡◌, ◌↔◌, ℕ, ◌+◌, ◌*◌, ◌<◌, ◌≤◌, Bool, true, false, List, [], ◌∷◌, Option, Some, None, map, replicate}
use Rattle.model_memory.specs.Memory.{empty_memory}
use Rattle.model_heap.specs.Places.{Place, Record, Target, byte_of, holds, meaning, place_of, records_from, with_protection}
use Rattle.model_heap.specs.Table.{Slot, slot_address}

-- the place of an address is the physical page of its virtual page, with the address's offset in the page
abbrev pub PlacesAreByPage : Type 0
PlacesAreByPage = (targets : ℕ → Target) (v offset : ℕ) → offset < 4096
    → place_of targets (v * 4096 + offset) ≡ record { page = (targets v).page; offset = offset }

-- a heap in which no object was made and all root cells are empty means the empty memory
abbrev pub NoObjectMeansNone : Type 0
NoObjectMeansNone = (targets : ℕ → Target) (bytes : Place → ℕ) → meaning 0 [] targets bytes (replicate 256 None) ≡ empty_memory

-- a heap with one freed object and one live object of two bytes means the memory in which the live object has its
-- address and the bytes at its places
abbrev pub ObjectsMeanTheirBytes : Type 0
ObjectsMeanTheirBytes = (targets : ℕ → Target) (bytes : Place → ℕ) (roots : List (Option ℕ)) (address : ℕ)
    → meaning 2 (record { serial = 1; address = address; len = 2 } ∷ []) targets bytes roots ≡ record {
      objects = None ∷ Some (record { address = address; bytes = byte_of targets bytes address ∷ byte_of targets bytes (address + 1) ∷ [] }) ∷ [];
      roots = roots;
    }

-- of three slots only the filled slot has a record, with the slot's address
abbrev pub SlotsHaveRecords : Type 0
SlotsHaveRecords = (class : ℕ) (slot : Slot) → records_from class 0 (None ∷ Some slot ∷ None ∷ [])
    ≡ record { serial = slot.serial; address = slot_address slot.member class 1; len = slot.len } ∷ []

-- an object with bytes on two pages is held by both pages, and by no other page
abbrev pub ObjectsAreHeld : Type 0
ObjectsAreHeld = (read_only : Bool) → map (λ page. holds (λ v. record { page = v; read_only = read_only }) page
    (record { serial = 0; address = 8191; len = 2 })) (0 ∷ 1 ∷ 2 ∷ 3 ∷ []) ≡ false ∷ true ∷ true ∷ false ∷ []

-- a physical page holds an object if and only if the place of one of the object's addresses is in this page
abbrev pub HoldsWhereLed : Type 0
HoldsWhereLed = (targets : ℕ → Target) (page : ℕ) (r : Record) → (holds targets page r ≡ true)
    ↔ ((x : ℕ) × (r.address ≤ x) × (x < r.address + r.len) × ((place_of targets x).page ≡ page))

-- if a page is protected or unprotected, no address changes its place
abbrev pub ProtectionLeavesPlaces : Type 0
ProtectionLeavesPlaces = (targets : ℕ → Target) (v : ℕ) (read_only : Bool) (address : ℕ)
    → place_of (with_protection targets v read_only) address ≡ place_of targets address
