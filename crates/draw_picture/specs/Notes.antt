-- The title of a picture, and the note after it.
use Rattle.std.specs.Prelude.{ℕ, ◌++◌, ◌-◌, ◌∷◌, ◌&&◌, [], List, Option, Some, None, codes, if◌then◌else◌, length, map, nat_eq, nat_le, nat_lt, take}
use Rattle.draw_svg.specs.Templates.{filled}

-- a byte of words as it is shown: itself if it is printable ASCII, and otherwise a question mark
abbrev pub plain_byte : ℕ → ℕ
plain_byte b = if nat_le 32 b && nat_lt b 127 then b else 63

-- words as they are shown: at most this number of bytes, followed by two dots if there are more
abbrev pub cut_text : ℕ → List ℕ → List ℕ
cut_text most words = if nat_le (length words) most then map plain_byte words else map plain_byte (take most words) ++ codes ".."

-- the title that is drawn above a picture, for the name of a job file
abbrev pub shown_title : List ℕ → List ℕ
shown_title name = cut_text 64 name

-- the title of the file, for the name of a job file
abbrev pub file_title : List ℕ → List ℕ
file_title name = codes "Meshing in " ++ cut_text 64 name

-- the values of a job's header. If the number of workers isn't given, a client gives the commands
unfoldable pub header_text : ℕ → ℕ → Option ℕ → List ℕ
header_text version pages None = filled (codes "version #, # physical pages of 4096 bytes, a client") (version ∷ pages ∷ [])
header_text version pages (Some workers) =
    if nat_eq workers 1 then filled (codes "version #, # physical pages of 4096 bytes, 1 worker") (version ∷ pages ∷ [])
    else filled (codes "version #, # physical pages of 4096 bytes, # workers") (version ∷ pages ∷ workers ∷ [])

-- the numbers of the first and the last line from line `first` on that come before line `next`, if there is such a line
abbrev pub lines_between : ℕ → ℕ → Option (ℕ × ℕ)
lines_between first next = if nat_lt first next then Some (first, next - 1) else None

-- the numbers of the first and the last line of the plan that are shown, if lines are shown
unfoldable pub lines_text : Option (ℕ × ℕ) → List ℕ
lines_text None = []
lines_text (Some lines) = filled (codes "; plan lines # to #") (lines.0 ∷ lines.1 ∷ [])

-- how the note after a title begins: the values of the job's header, and the lines that are shown
abbrev pub note_text : ℕ → ℕ → Option ℕ → Option (ℕ × ℕ) → List ℕ
note_text version pages workers lines = header_text version pages workers ++ lines_text lines
