-- What a picture has written.
use Rattle.std.proofs.Common.{◌≡◌, ℕ, List, [], ◌++◌, Option, Some, None, IfSome, IsSomeAnd, ap, append_assoc, codes, length, max, min, refl, subst, ◌∙◌}
use Rattle.std.proofs.KnownBytes.{Appends-nil, Appends-trans}
use Rattle.std.specs.Io.KnownBytes.{Appends}
use Rattle.model_jobs.specs.Jobs.{Job}
use Rattle.draw_job.specs.Draws.{HasDrawn, HasDrawnPicture, HasWritten}
use Rattle.draw_job.specs.Notes.{lines_shown, note_of_job}
use Rattle.draw_picture.specs.Cards.{HasWords, IsHead}
use Rattle.draw_job.specs.Points.{next_shown}
use Rattle.draw_picture.specs.Notes.{file_title, lines_between, shown_title}
use Rattle.draw_picture.specs.Pictures.{Shown as Picture}
use Rattle.draw_svg.specs.Files.{root_text}
use Rattle.draw_svg.specs.Shapes.{words_text}
use Rattle.draw_svg.specs.Begins.{Begins}

-- nothing was written yet
pub none_written : (written : Option (List ℕ)) → HasWritten written written
none_written written = ([], Appends-nil written)

-- a text was written behind what was written before
pub written_on : (a b c text : Option (List ℕ)) → HasWritten a b → IsSomeAnd text (λ bytes. Appends b c bytes) → HasWritten a c
written_on a b c None before more = absurd more
written_on a b c (Some bytes) (before, wrote) more = (before ++ bytes, Appends-trans a b c before bytes wrote more)

-- a text of three parts with more behind it
three_on : (before words after text more : List ℕ) → text ≡ before ++ (words ++ after) → text ++ more ≡ before ++ (words ++ (after ++ more))
three_on before words after text more is = rw is (simp append_assoc)

-- words that a text has stay in it if more is appended
words_on : (words text more : List ℕ) → HasWords words text → HasWords words (text ++ more)
words_on words text more has = record {
  before = has.before;
  place = has.place;
  after = has.after ++ more;
  is = three_on has.before (words_text has.place words) has.after text more has.is;
}

-- a text begins as before if more is appended
begins_with_more : (first text more : List ℕ) → Begins first text → Begins first (text ++ more)
begins_with_more first text more (rest, is) = (rest ++ more, ap (λ (bytes : List ℕ). bytes ++ more) is ∙ append_assoc first rest more)

-- a text begins as a picture's file does if more is appended
head_on : (picture : Picture) (text more : List ℕ) → IsHead picture text → IsHead picture (text ++ more)
head_on picture text more head = record {
  width = head.width;
  height = head.height;
  titled = begins_with_more (root_text picture.title head.width head.height) text more head.titled;
  named = words_on picture.name text more head.named;
  noted = words_on picture.note text more head.noted;
}

-- a text that begins as a picture's file does was written, and then others
pub drawn : (picture : Picture) (a b c d first last : Option (List ℕ)) → IfSome first (Begins (codes "<svg")) → IfSome first (IsHead picture)
    → IsSomeAnd first (λ bytes. Appends a b bytes) → HasWritten b c → IsSomeAnd last (λ bytes. Appends c d bytes) → HasDrawnPicture picture a d
drawn picture a b c d None last begins head wrote more end = absurd wrote
drawn picture a b c d (Some start) None begins head wrote more end = absurd end
drawn picture a b c d (Some start) (Some foot) begins head wrote (more, between) end = record {
  text = (start ++ more) ++ foot;
  wrote = Appends-trans a c d (start ++ more) foot (Appends-trans a b c start more wrote between) end;
  is_svg = begins_with_more (codes "<svg") (start ++ more) foot (begins_with_more (codes "<svg") start more begins);
  is_head = head_on picture (start ++ more) foot (head_on picture start more head);
}

-- a picture of a job was written if a picture with the job's title and note was
pub drawn_job : (picture : Picture) (name : List ℕ) (from to : ℕ) (job : Job) (a b : Option (List ℕ)) → picture.title ≡ file_title name → picture.name ≡ shown_title name
    → Begins (note_of_job job (lines_shown job from to)) picture.note → HasDrawnPicture picture a b → HasDrawn name from to job a b
drawn_job picture name from to job a b title named note drawn = record {
  text = drawn.text;
  wrote = drawn.wrote;
  is_svg = drawn.is_svg;
  width = drawn.is_head.width;
  height = drawn.is_head.height;
  titled = subst (λ (t : List ℕ). Begins (root_text t drawn.is_head.width drawn.is_head.height) drawn.text) title drawn.is_head.titled;
  named = subst (λ (t : List ℕ). HasWords t drawn.text) named drawn.is_head.named;
  note = picture.note;
  says = note;
  noted = drawn.is_head.noted;
}

-- the lines that were measured are those that are asked for
pub lines_are : (job : Job) (first last from to next : ℕ) → first ≡ max from 1 → last ≡ min to 1048576 → next ≡ next_shown first (min last (length job.plan))
    → lines_between first next ≡ lines_shown job from to
lines_are job first last from to next is_first is_last is_next = rw (is_next, is_first, is_last) refl
