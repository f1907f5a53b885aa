-- Quoted pieces of a text.
use Rattle.std.specs.Prelude.{ℕ, if◌then◌else◌, nat_lt, List, [], ◌∷◌, ◌++◌, codes, length, take}
use Rattle.std.specs.List.{flat_map}
use Rattle.model_jobs.specs.JobFiles.{is_printable}
use Rattle.model_jobs.specs.Texts.{bytes_text}

-- a byte as it is shown: itself if it is printable, and otherwise `\x` and two hexadecimal digits
abbrev pub escaped_text : ℕ → List ℕ
escaped_text byte = if is_printable byte then byte ∷ [] else codes "\\x" ++ bytes_text (byte ∷ [])

-- the dots behind a piece of which only a beginning is shown
abbrev pub dots_behind : List ℕ → List ℕ
dots_behind piece = if nat_lt 40 (length piece) then codes ".." else []

-- a piece of a text between quotes: at most its first 40 bytes
unfoldable pub quoted_text : List ℕ → List ℕ
quoted_text piece = codes "'" ++ flat_map escaped_text (take 40 piece) ++ codes "'" ++ dots_behind piece
