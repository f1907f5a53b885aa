-- A line that is split into its fields as it is scanned.
use Rattle.std.proofs.Common.{◌≡◌, ℕ, ◌+◌, ◌-◌, ◌<◌, ◌≤◌, Bool, true, false, nat_eq, List, [], ◌∷◌, ◌++◌, ap, append_assoc, arith, drop, get_or, length, refl, subst, sym, take, ◌∙◌}
use Rattle.std.specs.List.{All, list_all, list_any}
use Rattle.std.proofs.lemmas.Bool.{and_parts, ne_eqb}
use Rattle.std.proofs.Math.Seq.{take-add}
use Rattle.std.proofs.lemmas.List.{get_or-drop, length-drop, length-take, take_more}
use Rattle.std.proofs.lemmas.List.Elements.{All-cons, All-nil}
use Rattle.std.proofs.lemmas.List.Folds.{list_all-append, list_any-append}
use Rattle.std.proofs.lemmas.List.Splits.{slice_split_at, slice_split_none}
use Rattle.model_jobs.specs.JobFiles.{is_empty, is_printable}
use Rattle.text_fields.specs.Lines.{IsSplit, is_field_byte, line_fields, text_lines}
use Rattle.text_fields.proofs.Sames.{between_by_test}
use Rattle.text_fields.proofs.Splits.{line_at}

-- a byte of a field is no space
no_space : (b : ℕ) → is_field_byte b ≡ true → nat_eq b 32 ≡ false
no_space b h = let ends = between_by_test 33 126 b h in ne_eqb b 32 (λ is. omega (arith, is, ends.0))

no_spaces : (field : List ℕ) → list_all is_field_byte field ≡ true → All (λ b. nat_eq b 32 ≡ false) field
no_spaces [] h = All-nil (λ b. nat_eq b 32 ≡ false)
no_spaces (b ∷ field) h =
    let parts = and_parts (is_field_byte b) (list_all is_field_byte field) h in
    All-cons (λ x. nat_eq x 32 ≡ false) b field (no_space b parts.0) (no_spaces field parts.1)

-- the bytes at the beginning of a line, up to a field, are these fields
pub record IsBegun (before : List ℕ) (fields : List (List ℕ)) : Type 0 where
  pub splits : (more : List ℕ) → line_fields (before ++ more) ≡ fields ++ line_fields more
  pub printable : list_all is_printable before ≡ true

pub none_begun : IsBegun [] []
none_begun = record { splits = λ more. refl; printable = refl }

-- a test that all bytes of both lists pass
all_both : (p : ℕ → Bool) (xs ys : List ℕ) → list_all p xs ≡ true → list_all p ys ≡ true → list_all p (xs ++ ys) ≡ true
all_both p xs ys first later = rw (list_all-append p xs ys, first, later) refl

-- bytes of a field may stand in a line
printable_byte : (b : ℕ) → is_field_byte b ≡ true → is_printable b ≡ true
printable_byte b h = grind arith

printable_bytes : (field : List ℕ) → list_all is_field_byte field ≡ true → list_all is_printable field ≡ true
printable_bytes [] h = refl
printable_bytes (b ∷ field) h =
    let parts = and_parts (is_field_byte b) (list_all is_field_byte field) h in rw (printable_byte b parts.0, printable_bytes field parts.1) refl

-- one field more, and the space behind it
pub one_begun : (before field : List ℕ) (fields : List (List ℕ)) → IsBegun before fields → list_all is_field_byte field ≡ true
    → IsBegun ((before ++ field) ++ 32 ∷ []) (fields ++ field ∷ [])
one_begun before field fields begun bytes = record {
  splits = λ more.
      ap line_fields (append_assoc (before ++ field) (32 ∷ []) more ∙ append_assoc before field (32 ∷ more))
      ∙ begun.splits (field ++ 32 ∷ more) ∙ ap (λ parts. fields ++ parts) (slice_split_at (λ b. nat_eq b 32) field 32 more (no_spaces _ bytes) refl)
      ∙ sym (append_assoc fields (field ∷ []) (line_fields more));
  printable = all_both is_printable (before ++ field) (32 ∷ []) (all_both is_printable before field begun.printable (printable_bytes field bytes)) refl;
}

-- the last field ends the line
pub line_begun : (before field : List ℕ) (fields : List (List ℕ)) → IsBegun before fields → list_all is_field_byte field ≡ true
    → (fields ++ field ∷ [] ≡ line_fields (before ++ field)) × (list_all is_printable (before ++ field) ≡ true)
line_begun before field fields begun bytes = grind (arith, slice_split_none, no_spaces, all_both, printable_bytes)

-- the bytes up to one place, then those up to a later one
pub up_to : (bytes : List ℕ) (i j : ℕ) → i ≤ j → take j bytes ≡ take i bytes ++ take (j - i) (drop i bytes)
up_to bytes i j h = let sum : j ≡ i + (j - i) = omega (arith, h) in ap (λ (n : ℕ). take n bytes) sum ∙ take-add i (j - i) bytes

-- a line is begun up to a field, and the field with the space behind it is read
pub field_begun : (text : List ℕ) (fields : List (List ℕ)) (start end d : ℕ) → start ≤ end → end < length text → get_or text end d ≡ 32
    → IsBegun (take start text) fields → list_all is_field_byte (take (end - start) (drop start text)) ≡ true
    → IsBegun (take (end + 1) text) (fields ++ take (end - start) (drop start text) ∷ [])
field_begun text fields start end d later within space begun bytes =
    let whole : take (end + 1) text ≡ (take start text ++ take (end - start) (drop start text)) ++ 32 ∷ []
    = take_more text end d within ∙ ap (λ before. before ++ get_or text end d ∷ []) (up_to _ _ _ later)
    ∙ ap (λ (b : ℕ). (take start text ++ take (end - start) (drop start text)) ++ b ∷ []) space in
    subst (λ before. IsBegun before (fields ++ take (end - start) (drop start text) ∷ [])) (sym whole) (one_begun _ _ _ begun bytes)

-- the last field is read, and the line end stands behind it
pub line_split : (text rest : List ℕ) (fields : List (List ℕ)) (start end d : ℕ) → start ≤ end → end < length text → end ≤ 1024 → get_or text end d ≡ 10
    → rest ≡ drop (end + 1) text → IsBegun (take start text) fields → list_all is_field_byte (take (end - start) (drop start text)) ≡ true
    → IsSplit text (fields ++ take (end - start) (drop start text) ∷ []) rest
line_split text rest fields start end d later within short ends behind begun bytes =
    let last = line_begun (take start text) (take (end - start) (drop start text)) fields begun bytes in
    let whole = up_to text start end later in
    let printable : list_all is_printable (take end text) ≡ true = ap (list_all is_printable) whole ∙ last.1 in
    record {
      line = take end text;
      lines = line_at text end d within ends printable ∙ ap (λ left. take end text ∷ text_lines left) (sym behind);
      short = omega (arith, short, length-take end text);
      printable = printable;
      has_fields = last.0 ∙ ap line_fields (sym whole);
    }

-- one byte more of a field
pub field_more : (text : List ℕ) (start place d : ℕ) → start ≤ place → place < length text → is_field_byte (get_or text place d) ≡ true
    → list_all is_field_byte (take (place - start) (drop start text)) ≡ true → list_all is_field_byte (take (place + 1 - start) (drop start text)) ≡ true
field_more text start place d later within byte bytes =
    let left : length (drop start text) ≡ length text - start = length-drop start text in
    let here : get_or (drop start text) (place - start) d ≡ get_or text place d
    = get_or-drop start text (place - start) d ∙ ap (λ (i : ℕ). get_or text i d) (let at : start + (place - start) ≡ place = omega (arith, later) in at) in
    let count : place + 1 - start ≡ (place - start) + 1 = omega (arith, later) in
    let more : take (place + 1 - start) (drop start text) ≡ take (place - start) (drop start text) ++ get_or text place d ∷ []
    = ap (λ (n : ℕ). take n (drop start text)) count ∙ take_more (drop start text) (place - start) d (omega (arith, left, later, within))
    ∙ ap (λ (b : ℕ). take (place - start) (drop start text) ++ b ∷ []) here in
    ap (list_all is_field_byte) more ∙ all_both is_field_byte (take (place - start) (drop start text)) (get_or text place d ∷ []) bytes (rw byte refl)

-- one more field that isn't empty
pub filled_more : (fields : List (List ℕ)) (field : List ℕ) → list_any is_empty fields ≡ false → is_empty field ≡ false
    → list_any is_empty (fields ++ field ∷ []) ≡ false
filled_more fields field filled some = rw (list_any-append is_empty fields (field ∷ []), filled, some) refl
