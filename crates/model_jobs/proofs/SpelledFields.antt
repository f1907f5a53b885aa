-- A line cut into its fields again, and a text into its lines.
use Rattle.std.proofs.Common.{◌≡◌, ℕ, suc, ◌<◌, ◌≤◌, Bool, true, false, ◌&&◌, nat_eq, List, [], ◌∷◌, ◌++◌, length, refl, arith, append-nil, append_assoc, length-append}
use Rattle.std.specs.List.{flat_map, list_all, list_any, slice_split}
use Rattle.std.proofs.lemmas.Bool.Decides.{nat_tests}
use Rattle.std.proofs.lemmas.Bool.{le-leb, lt-leb, eq-eqb, and_parts}
use Rattle.model_jobs.specs.JobFiles.{Draft, take_in, take_line, is_between, is_printable, is_empty}
use Rattle.model_jobs.specs.Texts.{field, ended}
use Rattle.model_jobs.proofs.Fields.{AreWithin, within_append, between_by_test, within_by_test}

-- bytes above the one at which a list is cut are one part
pub whole_part : (c least most : ℕ) (bytes : List ℕ) → c < least → AreWithin least most bytes → slice_split (λ b. nat_eq b c) bytes ≡ bytes ∷ []
whole_part c least most [] low within = refl
whole_part c least most (b ∷ bs) low within = grind (arith, nat_tests, whole_part c least most bs low within.2)

-- the first part is the bytes before the one at which the list is cut
pub first_part : (c least most : ℕ) (bytes rest : List ℕ) → c < least → AreWithin least most bytes
    → slice_split (λ b. nat_eq b c) (bytes ++ c ∷ rest) ≡ bytes ∷ slice_split (λ b. nat_eq b c) rest
first_part c least most [] rest low within = rw (eq-eqb c c refl) refl
first_part c least most (b ∷ bs) rest low within = grind (arith, nat_tests, first_part c least most bs rest low within.2)

-- a field: some bytes, printable and no spaces
abbrev pub IsField : List ℕ → Type 0
IsField bytes = AreWithin 33 126 bytes × (1 ≤ length bytes)

-- a line's word: a field of at most 8 bytes
abbrev pub IsWord : List ℕ → Type 0
IsWord bytes = IsField bytes × (length bytes ≤ 8)

-- the test of a word
abbrev pub is_word : List ℕ → Bool
is_word bytes = list_all (is_between 33 126) bytes && is_between 1 8 (length bytes)

-- the test of a word tells it
pub word_by_test : (bytes : List ℕ) → is_word bytes ≡ true → IsWord bytes
word_by_test bytes passes = grind (arith, nat_tests, and_parts, between_by_test, within_by_test)

-- every part is a field
abbrev pub AreFields : List (List ℕ) → Type 0
AreFields [] = Unit {0}
AreFields (f ∷ fs) = IsField f × AreFields fs

-- a line is cut into its word and its fields
pub fields_cut : (word : List ℕ) (fields : List (List ℕ)) → IsField word → AreFields fields
    → slice_split (λ b. nat_eq b 32) (word ++ flat_map field fields) ≡ word ∷ fields
fields_cut word [] is are = rw (append-nil word) (whole_part 32 33 126 word (omega arith) is.0)
fields_cut word (f ∷ fs) is are = rw (first_part 32 33 126 word (f ++ flat_map field fs) (omega arith) is.0, fields_cut f fs are.0 are.1) refl

-- a wider range
pub within_wider : (least least' most : ℕ) (bytes : List ℕ) → least' ≤ least → AreWithin least most bytes → AreWithin least' most bytes
within_wider least least' most [] low within = tt
within_wider least least' most (b ∷ bs) low within = (omega (arith, low, within.0), within.1, within_wider least least' most bs low within.2)

-- the bytes of a line are printable
pub line_within : (word : List ℕ) (fields : List (List ℕ)) → IsField word → AreFields fields → AreWithin 32 126 (word ++ flat_map field fields)
line_within word [] is are = rw (append-nil word) (within_wider 33 32 126 word (omega arith) is.0)
line_within word (f ∷ fs) is are = within_append 32 126 word (flat_map field (f ∷ fs)) (within_wider 33 32 126 word (omega arith) is.0)
    (omega arith, omega arith, line_within f fs are.0 are.1)

-- printable bytes pass the test of a line
pub printable_pass : (bytes : List ℕ) → AreWithin 32 126 bytes → list_all is_printable bytes ≡ true
printable_pass [] within = refl
printable_pass (b ∷ bs) within = rw (le-leb 32 b within.0, le-leb b 126 within.1, printable_pass bs within.2) refl

-- a field isn't empty
pub field_filled : (bytes : List ℕ) → 1 ≤ length bytes → is_empty bytes ≡ false
field_filled [] some = absurd (omega (arith, some))
field_filled (b ∷ bs) some = refl

-- none of the fields is empty
pub fields_filled : (fields : List (List ℕ)) → AreFields fields → list_any is_empty fields ≡ false
fields_filled [] are = refl
fields_filled (f ∷ fs) are = rw (field_filled f are.0.1, fields_filled fs are.1) refl

-- a line is taken as its word and its fields
pub line_taken : (draft : Draft) (word : List ℕ) (fields : List (List ℕ)) → IsWord word → AreFields fields → length (flat_map field fields) ≤ 1000
    → take_line draft (word ++ flat_map field fields) ≡ take_in draft.section draft word fields
line_taken draft word fields is are short =
    rw (
      lt-leb (suc 1024) (length (word ++ flat_map field fields)) (omega (arith, length-append word (flat_map field fields), is.1, short)),
      printable_pass (word ++ flat_map field fields) (line_within word fields is.0 are),
      fields_cut word fields is.0 are,
      field_filled word is.0.1,
      fields_filled fields are,
    ) refl

-- every line is printable
abbrev pub AreLines : List (List ℕ) → Type 0
AreLines [] = Unit {0}
AreLines (line ∷ lines) = AreWithin 32 126 line × AreLines lines

-- lines, and lines after them
pub lines_append : (xs ys : List (List ℕ)) → AreLines xs → AreLines ys → AreLines (xs ++ ys)
lines_append [] ys left right = right
lines_append (x ∷ xs) ys left right = (left.0, lines_append xs ys left.1 right)

-- a text is cut into its lines, and nothing after the last line end
pub lines_cut : (lines : List (List ℕ)) → AreLines lines → slice_split (λ b. nat_eq b 10) (flat_map ended lines) ≡ lines ++ [] ∷ []
lines_cut [] are = refl
lines_cut (line ∷ lines) are =
    rw (append_assoc line (10 ∷ []) (flat_map ended lines), first_part 10 32 126 line (flat_map ended lines) (omega arith) are.0, lines_cut lines are.1) refl
