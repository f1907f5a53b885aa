-- What a text begins with.
use Rattle.std.specs.Prelude.{◌≡◌, ◌++◌, ℕ, List}

-- a text begins with these bytes
abbrev pub Begins : List ℕ → List ℕ → Type 0
Begins first text = (rest : List ℕ) × (text ≡ first ++ rest)
