-- What is kept of a text that is read.
use Rattle.std.specs.Prelude.{◌≡◌, ℕ, Bool, if◌then◌else◌, List, ◌++◌, Option, Some, None, IfSome}

-- the bytes that were kept, if they are all that were read
abbrev pub kept_of : Bool → List ℕ → Option (List ℕ)
kept_of is_whole bytes = if is_whole then Some bytes else None

-- if a text is kept behind further bytes, a text was kept before, and these bytes follow it
abbrev pub IsKept : Option (List ℕ) → Option (List ℕ) → List ℕ → Type 0
IsKept before behind bytes = IfSome behind (λ text. (first : List ℕ) × (before ≡ Some first) × (text ≡ first ++ bytes))
