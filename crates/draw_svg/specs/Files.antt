-- The text of a file's frame.
use Rattle.std.specs.Prelude.{ℕ, ◌++◌, ◌/◌, List, codes, decimal}
use Rattle.draw_svg.specs.Shapes.{attribute_text}
use Rattle.draw_svg.specs.Texts.{escaped}

-- the first word of a file, and the attributes that are the same in each file
unfoldable pub opening : List ℕ
opening = codes "<svg xmlns=\"http://www.w3.org/2000/svg\" role=\"img\""

-- the area that the file shows
abbrev pub view_box_text : ℕ → ℕ → List ℕ
view_box_text width height = codes " viewBox=\"0 0 " ++ decimal width ++ codes " " ++ decimal height ++ codes "\">\n"

-- the title of a file. It is escaped
abbrev pub title_text : List ℕ → List ℕ
title_text title = codes "<title>" ++ escaped title ++ codes "</title>\n"

-- the start of the root element, and the file's title. Sizes are in tenths of a pixel
abbrev pub root_text : List ℕ → ℕ → ℕ → List ℕ
root_text title width height =
    opening ++ attribute_text (codes "width") (width / 10) ++ attribute_text (codes "height") (height / 10) ++ view_box_text width height ++ title_text title

-- the start of the style, with the default font
unfoldable pub font : List ℕ
font = codes "<style>\ntext{font-family:'DejaVu Sans',Verdana,Helvetica,Arial,sans-serif}\n"

-- the style: the default font, these rules, and these rules for a dark background
abbrev pub style_text : List ℕ → List ℕ → List ℕ
style_text rules dark = font ++ rules ++ codes "@media (prefers-color-scheme:dark){\n" ++ dark ++ codes "}\n</style>\n"
