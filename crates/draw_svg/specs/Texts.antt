-- The bytes of a text, and its bytes after words were added.
use Rattle.std.specs.Prelude.{◌≡◌, ◌⊎◌, ◌||◌, ℕ, ◌++◌, ◌∷◌, [], Bool, List, Option, Some, None, codes, if◌then◌else◌, nat_eq, nat_le}
use Rattle.std.specs.List.{flat_map}

-- the bytes of a text, or `None` if an allocation for the text failed
abbrev pub held : List ℕ → Bool → Option (List ℕ)
held bytes refused = if refused then None else Some bytes

-- words were added to a text, or an allocation for them failed; if an allocation failed before, nothing changes
abbrev pub Adds : Option (List ℕ) → Option (List ℕ) → List ℕ → Type 0
Adds None new words = new ≡ None
Adds (Some old) new words = (new ≡ Some (old ++ words)) ⊎ (new ≡ None)

-- a byte of words, escaped for SVG: `&`, `<`, `>` and `"` become entities, and a control byte becomes a question mark
abbrev pub escaped_byte : ℕ → List ℕ
escaped_byte b =
    if nat_eq b 38 then codes "&amp;" else if nat_eq b 60 then codes "&lt;" else if nat_eq b 62 then codes "&gt;" else if nat_eq b 34 then codes "&quot;"
    else if nat_le b 31 || nat_eq b 127 then codes "?" else b ∷ []

-- words, escaped for SVG
abbrev pub escaped : List ℕ → List ℕ
escaped words = flat_map escaped_byte words
