-- The text of the page that steps through frames. The page is this project's own.
use Rattle.std.specs.Prelude.{ℕ, if◌then◌else◌, List, [], ◌∷◌, ◌++◌, codes, nat_eq}
use Rattle.std.specs.List.{flat_map}
use Rattle.draw_html.specs.declared.template.TheConstants.{BEFORE_FRAMES, BEFORE_HEADING, BEFORE_TITLE, BEHIND_FRAMES}

-- a byte of an element's text: `&`, `<`, `>` and `"` are character references, and other bytes stay
abbrev pub escaped_byte : ℕ → List ℕ
escaped_byte b =
    if nat_eq b 38 then codes "&amp;" else if nat_eq b 60 then codes "&lt;" else if nat_eq b 62 then codes "&gt;" else if nat_eq b 34 then codes "&quot;" else b ∷ []

-- bytes of an element's text, escaped
abbrev pub escaped : List ℕ → List ℕ
escaped bytes = flat_map escaped_byte bytes

-- the page up to the title of the file
abbrev pub file_title_text : List ℕ → List ℕ
file_title_text title = BEFORE_TITLE.now ++ escaped title

-- the page behind the title of the file, up to the heading
abbrev pub heading_text : List ℕ → List ℕ
heading_text heading = BEFORE_HEADING.now ++ escaped heading

-- the page before the frames, with this title as the title of the file and as the heading
unfoldable pub page_start : List ℕ → List ℕ
page_start title = file_title_text title ++ heading_text title ++ BEFORE_FRAMES.now

-- the page behind the frames: the last piece of the template
unfoldable pub page_end : List ℕ
page_end = BEHIND_FRAMES.now

-- the page with this title up to the frames of this text
abbrev pub page_front : List ℕ → List ℕ → List ℕ
page_front title frames = page_start title ++ escaped frames

-- the page with this title that shows the frames of this text
abbrev pub page_text : List ℕ → List ℕ → List ℕ
page_text title frames = page_front title frames ++ page_end
