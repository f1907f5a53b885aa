-- The drawing of the lines above a frame.
use Rattle.std.specs.Prelude.{ℕ, ◌||◌, ◌++◌, ◌∷◌, [], Bool, List, codes, if◌then◌else◌, length, nat_eq, nat_lt}
use Rattle.std.specs.List.{starts_with}
use Rattle.draw_picture.specs.Lettering.{beginning, ending, label_text, limited, words_width}
use Rattle.draw_picture.specs.Numbers.{fitting, plus, times}
use Rattle.draw_picture.specs.declared.gathering.Caption.{Caption}
use Rattle.draw_picture.specs.declared.lettering.Face.TheVariants.{Plain}
use Rattle.draw_svg.specs.Shapes.{group_end, group_text, plain, rect_text}
use Rattle.draw_svg.specs.Templates.{filled}

-- whether an answer begins with these words
abbrev pub begins : List ℕ → List ℕ → Bool
begins answer words = starts_with nat_eq answer words

-- whether an answer is that to a line that was not done
abbrev pub is_refusal : List ℕ → Bool
is_refusal answer = begins answer (codes "refused") || begins answer (codes "over") || begins answer (codes "history full")

-- whether an answer is that of a step
abbrev pub is_step : List ℕ → Bool
is_step answer =
    begins answer (codes "protect ") || begins answer (codes "copy ") || begins answer (codes "remap ") || begins answer (codes "unprotect ")
    || begins answer (codes "release ")

-- whether an answer reports what the mesher did
abbrev pub is_of_mesher : List ℕ → Bool
is_of_mesher answer =
    is_step answer || begins answer (codes "left ") || begins answer (codes "meshed ") || begins answer (codes "swept ") || begins answer (codes "found ")

-- the style rule of an answer
abbrev pub tone_of : List ℕ → List ℕ
tone_of answer =
    if begins answer (codes "blocked") then codes "pb" else if is_refusal answer || begins answer (codes "wrong") then codes "pr"
    else if is_of_mesher answer then codes "pm" else codes "pd"

-- the words of a caption, with the number of its lines if there are several
abbrev pub told : Caption → List ℕ
told caption = caption.words.items ++ (if nat_lt 1 caption.times then filled (codes " x#") (caption.times ∷ []) else [])

-- the numbers of the first and the last line of a caption
unfoldable pub number_text : Caption → List ℕ
number_text caption =
    label_text (limited (ending Plain (codes "soft") 520 200) 400)
    (if nat_eq caption.to caption.from then filled (codes "#") (caption.to ∷ []) else filled (codes "#-#") (caption.from ∷ caption.to ∷ []))

-- an answer in its pill
unfoldable pub pill_text : List ℕ → ℕ → List ℕ
pill_text answer x =
    rect_text (plain (tone_of answer)) (record { x = x; y = 80; w = plus (words_width Plain answer) 140; h = 165 }) 80
    ++ label_text (beginning Plain (codes "pt") (plus x 70) 200) answer

-- a caption in a row
unfoldable pub caption_text : ℕ → Caption → List ℕ
caption_text row caption =
    group_text 0 (times row 200) ++ number_text caption ++ label_text (beginning Plain (codes "ink") 620 200) (told caption)
    ++ pill_text caption.answer.items (plus 740 (words_width Plain (told caption))) ++ group_end

-- captions, one below the other from a row on
abbrev pub each_text : ℕ → List Caption → List ℕ
each_text row [] = []
each_text row (caption ∷ captions) = caption_text row caption ++ each_text (plus row 1) captions

-- the number of lines that are left out before the last one, if there are any
unfoldable pub hidden_text : ℕ → ℕ → List ℕ
hidden_text lines row =
    if nat_eq lines 0 then []
    else label_text (beginning Plain (codes "soft") 620 (plus 200 (times row 200))) (filled (codes ".. and # more lines before the last") (lines ∷ []))

-- the captions of a card
unfoldable pub captions_text : List Caption → ℕ → List ℕ
captions_text captions hidden = each_text 0 captions ++ hidden_text hidden (fitting (length captions))
