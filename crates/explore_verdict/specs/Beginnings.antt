-- Answers, and beginnings of answers. This project's own choice.
use Rattle.std.specs.Prelude.{ℕ, ◌-◌, Bool, not, ◌&&◌, ◌||◌, nat_eq, nat_le, List, [], ◌∷◌, ◌++◌, codes, is_ok, length, take}
use Rattle.std.specs.List.{ends_with, list_any, starts_with}
use Rattle.model_jobs.specs.JobFiles.{is_empty}
use Rattle.model_jobs.specs.Texts.{refusal_text}
use Rattle.model_words.specs.declared.refusals.Refusal.{Refusal}
use Rattle.model_words.specs.declared.refusals.Refusal.TheVariants.{Zero, TooLarge, NoPages, NoAddresses, Empty, Freed, Outside, Stray, NoGroup, Same, Class, Busy, Overlap, Members, NoMesh, TooLate, NotEmpty}
use Rattle.text_fields.specs.Lines.{line_fields}
use Rattle.text_words.specs.ReplyWords.{answer_in}

-- whether the text spells an answer. An answer has at most four fields
abbrev pub is_spelt : List ℕ → Bool
is_spelt text = not (list_any is_empty (line_fields text)) && (nat_le (length (line_fields text)) 4 && is_ok (answer_in 32 (line_fields text)))

-- whether an answer with the least numbers and bytes that isn't refused begins with this text
abbrev pub begins_kind : List ℕ → Bool
begins_kind front =
    starts_with nat_eq (codes "done") front || (starts_with nat_eq (codes "object 0 at 0") front || (starts_with nat_eq (codes "bytes 00") front
    || (starts_with nat_eq (codes "byte 00") front || starts_with nat_eq (codes "at 0") front)))

-- the refusals, in the order of their numbers
abbrev pub refusals : List Refusal
refusals =
    Zero ∷ TooLarge ∷ NoPages ∷ NoAddresses ∷ Empty ∷ Freed ∷ Outside ∷ Stray ∷ NoGroup ∷ Same ∷ Class ∷ Busy ∷ Overlap ∷ Members ∷ NoMesh ∷ TooLate
    ∷ NotEmpty ∷ []

-- whether the refusal begins with this text
abbrev pub begins_with : List ℕ → Refusal → Bool
begins_with front refusal = starts_with nat_eq (refusal_text refusal) front

-- whether the text spells an answer, or does so with a last digit or with what is behind an object's serial number
abbrev pub has_ending : List ℕ → Bool
has_ending front =
    is_spelt front || (is_spelt (front ++ codes "0") || (is_spelt (front ++ codes " at 0") || (is_spelt (front ++ codes "at 0")
    || (is_spelt (front ++ codes "t 0") || is_spelt (front ++ codes " 0")))))

-- whether some answer begins with this text: one with the least numbers and bytes, a refusal, or the text and an ending
abbrev pub begins_answer : List ℕ → Bool
begins_answer front =
    begins_kind front || (list_any (begins_with front) refusals || has_ending front)

-- whether the text is the beginning of an answer and a star
abbrev pub is_begun : List ℕ → Bool
is_begun text = ends_with nat_eq text (codes "*") && begins_answer (take (length text - 1) text)
