-- The fields of an entry, as a slice has them.
use Rattle.std.proofs.Common.{◌≡◌, ℕ, ◌+◌, ◌<◌, Bool, List, [], ◌∷◌, Some, None, Err, drop, length, take, ap, refl, ◌∙◌, arith}
use Rattle.std.specs.List.{position, position_or_len}
use Rattle.std.proofs.lemmas.List.{drop-map, length-map, take-map}
use Rattle.model_words.specs.declared.faults.FaultKind.TheVariants.{Word}
use Rattle.text_fields.specs.Lines.{texts}
use Rattle.history_reading.specs.HistoryFiles.{arrow_split, asked_in, is_arrow, parts_at}
use denote.Ref.{Bor}

-- fewer than two fields are no worker and no word
pub none_asked : (fields : List (Bor (List ℕ))) → length fields < 2 → asked_in (texts fields) ≡ Err Word
none_asked [] few = refl
none_asked (a ∷ []) few = refl
none_asked (a ∷ b ∷ fields) few = absurd (omega (arith, few))

-- a test finds its first field where it finds the bytes of that field
place_same : (test : List ℕ → Bool) (fields : List (Bor (List ℕ))) → position_or_len test (texts fields) ≡ position_or_len (λ field. test field.now) fields
place_same test [] = refl
place_same test (field ∷ fields) = rw (place_same test fields) refl

-- the place of the first arrow among some fields
pub arrow_place : (fields : List (Bor (List ℕ))) → position is_arrow (texts fields) ≡ position (λ field. is_arrow field.now) fields
arrow_place fields = rw (place_same is_arrow fields, length-map) refl

-- fields without an arrow
pub no_arrow : (fields : List (Bor (List ℕ))) → position (λ field. is_arrow field.now) fields ≡ None → arrow_split (texts fields) ≡ None
no_arrow fields none = ap (parts_at (texts fields)) (arrow_place fields ∙ none)

-- fields with an arrow
pub arrow_at : (fields : List (Bor (List ℕ))) (place : ℕ) → position (λ field. is_arrow field.now) fields ≡ Some place
    → arrow_split (texts fields) ≡ Some (texts (take place fields), texts (drop (place + 1) fields))
arrow_at fields place some =
    let text = λ (field : Bor (List ℕ)). field.now in
    ap (parts_at (texts fields)) (arrow_place fields ∙ some) ∙ rw (take-map text place fields, drop-map text (place + 1) fields) refl
