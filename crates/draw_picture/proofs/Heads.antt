-- What a picture's text has before its first frame.
use Rattle.std.proofs.Common.{◌≡◌, ℕ, ◌-◌, List, ◌++◌, [], Option, Some, None, IfSome, ap, append_assoc, codes, max, min, subst, inl, inr, ◌⊎◌, ◌∙◌}
use Rattle.draw_picture.specs.Cards.{AddsTop, IsHead, titles_text, top_text}
use Rattle.draw_picture.specs.Lettering.{Lettering, beginning, face_rule, label_text, limited, words_width}
use Rattle.draw_picture.specs.Pictures.{Shown}
use Rattle.draw_svg.specs.Files.{root_text}
use Rattle.draw_picture.specs.declared.lettering.Face.TheVariants.{Plain, Title}
use Rattle.draw_svg.specs.Shapes.{Place, joined, plain, rect_text, words_text}
use Rattle.draw_svg.specs.declared.shapes.Area.{Area}
use Rattle.draw_svg.specs.Texts.{Adds}
use Rattle.draw_svg.proofs.Adding.{adds_both, adds_to}

-- a text that isn't known any more has got any words
pub adds_if_failed : (old new : Option (List ℕ)) (words : List ℕ) → new ≡ None → Adds old new words
adds_if_failed None new words failed = failed
adds_if_failed (Some old) new words failed = inr failed

-- a text with the parts of a head has its title, and the note below it
title_is : (root rules back name note legend text : List ℕ) → text ≡ root ++ (rules ++ (back ++ (name ++ (note ++ legend))))
    → text ≡ (root ++ (rules ++ back)) ++ (name ++ (note ++ legend))
title_is root rules back name note legend text is = rw is (simp append_assoc)

note_is : (root rules back name note legend text : List ℕ) → text ≡ root ++ (rules ++ (back ++ (name ++ (note ++ legend))))
    → text ≡ (root ++ (rules ++ (back ++ name))) ++ (note ++ legend)
note_is root rules back name note legend text is = rw is (simp append_assoc)

-- the place of a label
abbrev place_in : Lettering → List ℕ → Place
place_in l words = record { style = joined l.ink (face_rule l.face); anchor = l.anchor; x = l.x; y = l.y; width = Some (max (min (words_width l.face words) l.room) 1) }

-- the place of the title, and that of the note
abbrev name_place : Shown → Area → Place
name_place picture all = place_in (limited (beginning Title (codes "ink") 200 290) (all.w - 400)) picture.name

abbrev note_place : Shown → Area → Place
note_place picture all = place_in (limited (beginning Plain (codes "soft") 200 490) (all.w - 400)) picture.note

-- the background of a picture
abbrev back_of : Area → List ℕ
back_of all = rect_text (plain (codes "bg")) all 0

-- the shapes above the cards have the title and the note
top_is : (picture : Shown) (all : Area) (legend : List ℕ)
    → top_text picture all legend ≡ back_of all ++ (words_text (name_place picture all) picture.name ++ (words_text (note_place picture all) picture.note ++ legend))
unfolding top_text titles_text label_text
top_is picture all legend =
    append_assoc (back_of all) (words_text (name_place picture all) picture.name ++ words_text (note_place picture all) picture.note) legend
    ∙ ap (λ (rest : List ℕ). back_of all ++ rest) (append_assoc (words_text (name_place picture all) picture.name) (words_text (note_place picture all) picture.note) legend)

-- the parts that were appended to an empty text are those of a picture's file
pub head_is : (picture : Shown) (width height : ℕ) (a b c d : Option (List ℕ)) (rules : List ℕ) → a ≡ Some []
    → Adds a b (root_text picture.title width height) → Adds b c rules → AddsTop picture c d → IfSome d (IsHead picture)
head_is picture width height a b c None rules empty rooted ruled topped = tt
head_is picture width height a b c (Some text) rules empty rooted ruled topped = known (adds_to a (Some text) [] all empty whole)
  where
    root : List ℕ
    root = root_text picture.title width height

    name : List ℕ
    name = words_text (name_place picture topped.all) picture.name

    note : List ℕ
    note = words_text (note_place picture topped.all) picture.note

    back : List ℕ
    back = back_of topped.all

    legend : List ℕ
    legend = topped.legend

    all : List ℕ
    all = root ++ (rules ++ (back ++ (name ++ (note ++ legend))))

    top : Adds c (Some text) (back ++ (name ++ (note ++ legend)))
    top = subst (Adds c (Some text)) (top_is picture topped.all topped.legend) topped.adds

    whole : Adds a (Some text) all
    whole = adds_both a b (Some text) root _ rooted (adds_both b c (Some text) rules _ ruled top)

    known : ((Some text ≡ Some all) ⊎ (Some text ≡ None)) → IsHead picture text
    known (inl is) =
        let same : text ≡ all = cc is in
        record {
          width = width;
          height = height;
          titled = (rules ++ (back ++ (name ++ (note ++ legend))), same);
          named = record { before = root ++ (rules ++ back); place = name_place picture topped.all; after = note ++ legend; is = title_is root rules back name note legend text same };
          noted = record { before = root ++ (rules ++ (back ++ name)); place = note_place picture topped.all; after = legend; is = note_is root rules back name note legend text same };
        }
    known (inr failed) = absurd (cc failed)
