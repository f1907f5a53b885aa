-- What a transfer has read or written.
use Rattle.std.specs.Prelude.{◌≡◌, ℕ, Bool, true, false, List, Option, take}
use Rattle.std.specs.Io.KnownBytes.{Appends, Consumes, IsAtEnd}
use Rattle.text_devices.specs.declared.faults.ReplayError.{ReplayError}
use Rattle.text_devices.specs.declared.faults.ReplayError.TheVariants.{Read, Write, Memory, Text}

-- a beginning of these bytes was appended to the known ones
abbrev pub AppendsBeginning : Option (List ℕ) → Option (List ℕ) → List ℕ → Type 0
AppendsBeginning old new bytes = (count : ℕ) × Appends old new (take count bytes)

-- this text was read from the input, up to the input's end
pub record HasReadAll (left left' : Option (List ℕ)) (text : List ℕ) : Type 0 where
  pub taken : Consumes left left' text
  pub whole : IsAtEnd left'

-- why a text wasn't read to its end: the input failed, or it didn't fail and an allocation did
abbrev pub HasNotReadAll : Bool → ReplayError → Type 0
HasNotReadAll failed Read = failed ≡ true
HasNotReadAll failed Memory = failed ≡ false
HasNotReadAll failed Write = ⊥
HasNotReadAll failed (Text fault) = ⊥
