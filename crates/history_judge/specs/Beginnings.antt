-- How a text begins, if the text is known.
use Rattle.std.specs.Prelude.{◌≡◌, ◌≢◌, ℕ, List, ◌++◌, Option, Some, None}

-- the text, if it is known, begins with these bytes
abbrev pub StartsWith : List ℕ → Option (List ℕ) → Type 0
StartsWith bytes None = Unit {0}
StartsWith bytes (Some text) = (rest : List ℕ) × (text ≡ bytes ++ rest)

-- the text, if it is known, doesn't begin with these bytes
abbrev pub StartsOtherwise : List ℕ → Option (List ℕ) → Type 0
StartsOtherwise bytes None = Unit {0}
StartsOtherwise bytes (Some text) = (rest : List ℕ) → text ≢ bytes ++ rest
