-- The line of an entry that is spelt field by field, and what it is read as.
use Rattle.std.proofs.Common.{◌≡◌, ℕ, ◌+◌, ◌*◌, ◌%◌, ◌^◌, ◌<◌, ◌≤◌, ◌&&◌, true, false, nat_eq, List, [], ◌∷◌, ◌++◌, Ok, length, ap, append_assoc, length-append, refl, sym, ◌∙◌, arith}
use Rattle.std.specs.Prelude.{codes}
use Rattle.std.specs.Fmt.{decimal}
use Rattle.std.specs.List.{All, list_all}
use Rattle.std.proofs.lemmas.Bool.Decides.{nat_tests}
use Rattle.std.proofs.lemmas.Bool.{and_parts, le-leb, ne_eqb}
use Rattle.std.proofs.lemmas.Fmt.{decimal_by_steps}
use Rattle.std.proofs.lemmas.List.Elements.{All-cons, All-nil}
use Rattle.std.proofs.lemmas.List.Folds.{list_all-append}
use Rattle.std.proofs.lemmas.List.Splits.{slice_split_at, slice_split_none}
use Rattle.model_jobs.proofs.Fields.{AreWithin, between_by_test, decimal_short, decimal_within, hex_within, number_back, same_bytes, value_of_hex, within_append, within_by_test}
use Rattle.model_jobs.specs.JobFiles.{is_between, is_empty, is_printable, number_in, word_in}
use Rattle.model_jobs.specs.Texts.{hex_from}
use Rattle.model_words.specs.declared.commands.Command.TheVariants.{New, Free, Alias}
use Rattle.model_words.specs.declared.commands.Reply.TheVariants.{Object as Made, Done}
use Rattle.text_fields.specs.Commands.{IsRecordable, place_in, plain_command, size_in, wide_in}
use Rattle.text_fields.specs.KeptLines.{IsUnended}
use Rattle.text_fields.specs.Lines.{line_fields}
use Rattle.text_fields.proofs.LineSteps.{bytes_taken}
use Rattle.text_fields.specs.declared.commands.SpeltCommand.TheVariants.{New as SpeltNew, Free as SpeltFree, Alias as SpeltAlias}
use Rattle.history_reading.specs.HistoryFiles.{entry_fields, entry_in, is_arrow}
use Rattle.history_reading.specs.QuickEntries.{IsQuickEntry}
use Rattle.text_words.specs.RecordedWords.{IsNarrow, IsSized, plain_entry}
use Rattle.text_words.specs.declared.recorded.RecordedEntry.{RecordedEntry}
use Rattle.text_words.specs.declared.recorded.RecordedReply.TheVariants.{Object as RecordedObject, Done as RecordedDone}

-- a field: printable bytes without a space, from 1 to 20
abbrev pub IsField : List ℕ → Type 0
IsField bytes = AreWithin 33 126 bytes × (1 ≤ length bytes) × (length bytes ≤ 20)

abbrev pub AreFields : List (List ℕ) → Type 0
AreFields [] = Unit {0}
AreFields (f ∷ fs) = IsField f × AreFields fs

-- fields with a space between each two
abbrev pub joined : List (List ℕ) → List ℕ
joined [] = []
joined (f ∷ []) = f
joined (f ∷ g ∷ fs) = f ++ 32 ∷ joined (g ∷ fs)

-- the same with a line end behind them, and this rest
abbrev pub ended_line : List (List ℕ) → List ℕ → List ℕ
ended_line [] rest = 10 ∷ rest
ended_line (f ∷ []) rest = f ++ 10 ∷ rest
ended_line (f ∷ g ∷ fs) rest = f ++ 32 ∷ ended_line (g ∷ fs) rest

ended_joined : (fields : List (List ℕ)) (rest : List ℕ) → ended_line fields rest ≡ joined fields ++ 10 ∷ rest
ended_joined [] rest = refl
ended_joined (f ∷ []) rest = refl
ended_joined (f ∷ g ∷ fs) rest = ap (λ (left : List ℕ). f ++ 32 ∷ left) (ended_joined (g ∷ fs) rest) ∙ sym (append_assoc f (32 ∷ joined (g ∷ fs)) (10 ∷ rest))

-- no byte of a field is a space
no_spaces : (bytes : List ℕ) → AreWithin 33 126 bytes → All (λ b. nat_eq b 32 ≡ false) bytes
no_spaces [] within = All-nil (λ b. nat_eq b 32 ≡ false)
no_spaces (b ∷ bs) within = All-cons (λ b. nat_eq b 32 ≡ false) b bs (ne_eqb b 32 (λ is. omega (arith, is, within.0))) (no_spaces bs within.2)

-- the fields are those of the line
fields_cut : (field : List ℕ) (fields : List (List ℕ)) → AreFields (field ∷ fields) → line_fields (joined (field ∷ fields)) ≡ field ∷ fields
fields_cut f [] are = slice_split_none (λ b. nat_eq b 32) f (no_spaces f are.0.0)
fields_cut f (g ∷ fs) are =
    slice_split_at (λ b. nat_eq b 32) f 32 (joined (g ∷ fs)) (no_spaces f are.0.0) refl ∙ ap (λ (later : List (List ℕ)). f ∷ later) (fields_cut g fs are.1)

-- the bytes of a field are printable
field_printable : (bytes : List ℕ) → AreWithin 33 126 bytes → list_all is_printable bytes ≡ true
field_printable [] within = refl
field_printable (b ∷ bs) within = rw (le-leb 32 b (omega (arith, within.0)), le-leb b 126 within.1, field_printable bs within.2) refl

-- so are those of the line
line_printable : (fields : List (List ℕ)) → AreFields fields → list_all is_printable (joined fields) ≡ true
line_printable [] are = refl
line_printable (f ∷ []) are = field_printable f are.0.0
line_printable (f ∷ g ∷ fs) are = rw (list_all-append is_printable f (32 ∷ joined (g ∷ fs)), field_printable f are.0.0, line_printable (g ∷ fs) are.1) refl

-- the line is short
line_length : (fields : List (List ℕ)) → AreFields fields → length (joined fields) ≤ 21 * length fields
line_length [] are = omega arith
line_length (f ∷ []) are = omega (arith, are.0.2)
line_length (f ∷ g ∷ fs) are = omega (arith, length-append f (32 ∷ joined (g ∷ fs)), are.0.2, line_length (g ∷ fs) are.1)

-- a field is not empty
field_filled : (bytes : List ℕ) → 1 ≤ length bytes → is_empty bytes ≡ false
field_filled [] some = absurd (omega (arith, some))
field_filled (b ∷ bs) some = refl

-- printable bytes are no line end
printable_unended : (bytes : List ℕ) → list_all is_printable bytes ≡ true → IsUnended bytes
printable_unended [] all = All-nil (λ b. nat_eq b 10 ≡ false)
printable_unended (b ∷ bs) all =
    let parts = and_parts (is_printable b) (list_all is_printable bs) all in
    All-cons (λ b. nat_eq b 10 ≡ false) b bs (ne_eqb b 10 (λ is. omega (arith, is, (between_by_test 32 126 b parts.0).0))) (printable_unended bs parts.1)

-- a line of some fields, and its end
pub record IsLineOf (text : List ℕ) (fields : List (List ℕ)) (rest : List ℕ) : Type 0 where
  pub line : List ℕ
  pub whole : text ≡ line ++ 10 ∷ rest
  pub unended : IsUnended line
  pub short : length line ≤ 16384
  pub read : entry_in line ≡ entry_fields fields

pub line_of : (text : List ℕ) (field : List ℕ) (fields : List (List ℕ)) (rest : List ℕ) → text ≡ ended_line (field ∷ fields) rest → AreFields (field ∷ fields)
    → length fields ≤ 40 → IsLineOf text (field ∷ fields) rest
line_of text field fields rest is are few =
    let printable = line_printable (field ∷ fields) are in
    let short : length (joined (field ∷ fields)) ≤ 16384 = omega (arith, line_length (field ∷ fields) are, few) in
    record {
      line = joined (field ∷ fields);
      whole = is ∙ ended_joined (field ∷ fields) rest;
      unended = printable_unended (joined (field ∷ fields)) printable;
      short = short;
      read = rw (bytes_taken 16384 (joined (field ∷ fields)) short printable, fields_cut field fields are) refl;
    }

-- the test of a word
word_field : (bytes : List ℕ) → (list_all (is_between 33 126) bytes && is_between 1 20 (length bytes)) ≡ true → IsField bytes
word_field bytes passes = grind (arith, nat_tests, and_parts, between_by_test, within_by_test)

-- the digits of a number
number_field : (n : ℕ) → n < 2 ^ 64 → IsField (decimal n)
number_field n small = let within = decimal_within n small in (within.0, within.1, decimal_short n small)

address_field : (address : ℕ) → IsField (hex_from 11 address)
address_field address = let hex = hex_within 11 address in (hex.0, hex.1, omega (arith, hex.2))

-- an address of 48 bits is read as its number
place_back : (address : ℕ) → address ≤ 281474976710655 → place_in (hex_from 11 address) ≡ Ok address
place_back address most = rw (value_of_hex 11 address (omega (arith, most)), same_bytes (hex_from 11 address), le-leb address 281474976710655 most) refl

-- digits are no arrow
digits_no_arrow : (digits : List ℕ) → AreWithin 48 57 digits → 1 ≤ length digits → is_arrow digits ≡ false
digits_no_arrow [] within some = absurd (omega (arith, some))
digits_no_arrow (b ∷ bs) within some = rw (ne_eqb b 45 (λ is. omega (arith, is, within.0))) refl

decimal_digits : (n : ℕ) → n < 2 ^ 64 → AreWithin 48 57 (decimal n) × (1 ≤ length (decimal n))
decimal_digits = decimal_by_steps (λ n digits. AreWithin 48 57 digits × (1 ≤ length digits))
    (λ n small. ((omega arith, omega arith, tt), omega arith))
    (λ n digits large so_far. (within_append 48 57 digits ((48 + n % 10) ∷ []) so_far.0 (omega arith, omega arith, tt), omega (arith, length-append digits ((48 + n % 10) ∷ []))))

no_arrow : (n : ℕ) → n < 2 ^ 64 → is_arrow (decimal n) ≡ false
no_arrow n small = let digits = decimal_digits n small in digits_no_arrow (decimal n) digits.0 digits.1

-- a field before the arrow: it is not empty, and no arrow
pub record IsBefore (field : List ℕ) : Type 0 where
  pub filled : is_empty field ≡ false
  pub other : is_arrow field ≡ false

number_before : (n : ℕ) → n < 2 ^ 64 → IsBefore (decimal n)
number_before n small = record { filled = field_filled (decimal n) (decimal_within n small).1; other = no_arrow n small }

-- the fields of an entry of each kind
new_fields : (w c l d s a : List ℕ) (worker cell len word serial address : ℕ) → IsBefore w → IsBefore c → IsBefore l → IsBefore d → is_empty s ≡ false → is_empty a ≡ false
    → number_in 0 65535 w ≡ Ok worker → wide_in c ≡ Ok cell → size_in l ≡ Ok len → word_in d ≡ Ok word → wide_in s ≡ Ok serial → place_in a ≡ Ok address
    → entry_fields (w ∷ codes "new" ∷ c ∷ l ∷ d ∷ codes "->" ∷ codes "object" ∷ s ∷ codes "at" ∷ a ∷ [])
    ≡ Ok (record { worker = worker; command = New cell len word; reply = Made serial address })
new_fields w c l d s a worker cell len word serial address bw bc bl bd es ea iw ic il id is ia =
    rw (bw.filled, bc.filled, bl.filled, bd.filled, es, ea, bw.other, bc.other, bl.other, bd.other, iw, ic, il, id, is, ia) refl

free_fields : (w c : List ℕ) (worker cell : ℕ) → IsBefore w → IsBefore c → number_in 0 65535 w ≡ Ok worker → wide_in c ≡ Ok cell
    → entry_fields (w ∷ codes "free" ∷ c ∷ codes "->" ∷ codes "done" ∷ []) ≡ Ok (record { worker = worker; command = Free cell; reply = Done })
free_fields w c worker cell bw bc iw ic = rw (bw.filled, bc.filled, bw.other, bc.other, iw, ic) refl

alias_fields : (w t f : List ℕ) (worker to from : ℕ) → IsBefore w → IsBefore t → IsBefore f → number_in 0 65535 w ≡ Ok worker → wide_in t ≡ Ok to → wide_in f ≡ Ok from
    → entry_fields (w ∷ codes "alias" ∷ t ∷ f ∷ codes "->" ∷ codes "done" ∷ []) ≡ Ok (record { worker = worker; command = Alias to from; reply = Done })
alias_fields w t f worker to from bw bt bf iw it if' = rw (bw.filled, bt.filled, bf.filled, bw.other, bt.other, bf.other, iw, it, if') refl

-- a line of fields that are read as an entry
entry_of_line : (text : List ℕ) (fields : List (List ℕ)) (rest : List ℕ) (entry : RecordedEntry) → IsLineOf text fields rest → entry_fields fields ≡ Ok (plain_entry entry)
    → IsRecordable (plain_command entry.command) → IsSized (plain_command entry.command) → IsNarrow entry.reply → IsQuickEntry text entry rest
entry_of_line text fields rest entry line read in_range sized narrow = record {
  line = line.line;
  whole = line.whole;
  unended = line.unended;
  short = line.short;
  read = line.read ∙ read;
  in_range = in_range;
  sized = sized;
  narrow = narrow;
}

-- a number of 32 bits is read as it is
wide_back : (n : ℕ) → n ≤ 4294967295 → wide_in (decimal n) ≡ Ok n
wide_back n most = number_back 0 4294967295 n (omega (arith, most)) (omega arith) most

wide_field : (n : ℕ) → n ≤ 4294967295 → IsField (decimal n)
wide_field n most = number_field n (omega (arith, most))

wide_before : (n : ℕ) → n ≤ 4294967295 → IsBefore (decimal n)
wide_before n most = number_before n (omega (arith, most))

-- so is a length of up to 2^47
size_back : (n : ℕ) → n ≤ 140737488355328 → size_in (decimal n) ≡ Ok n
size_back n most = number_back 0 140737488355328 n (omega (arith, most)) (omega arith) most

size_field : (n : ℕ) → n ≤ 140737488355328 → IsField (decimal n)
size_field n most = number_field n (omega (arith, most))

size_before : (n : ℕ) → n ≤ 140737488355328 → IsBefore (decimal n)
size_before n most = number_before n (omega (arith, most))

worker_back : (n : ℕ) → n ≤ 65535 → number_in 0 65535 (decimal n) ≡ Ok n
worker_back n most = number_back 0 65535 n (omega (arith, most)) (omega arith) most

-- `free CELL -> done` behind a worker
pub free_is : (worker cell : ℕ) (fields behind rest : List ℕ) → worker ≤ 65535 → cell ≤ 4294967295 → fields ≡ decimal cell ++ 32 ∷ behind
    → behind ≡ codes "-> done" ++ 10 ∷ rest
    → IsQuickEntry (decimal worker ++ 32 ∷ (codes "free " ++ fields)) (record { worker = worker; command = SpeltFree cell; reply = RecordedDone }) rest
free_is worker cell fields behind rest iw ic is_cell is_done =
    let w : worker ≤ 4294967295 = omega (arith, iw) in
    entry_of_line _ (decimal worker ∷ codes "free" ∷ decimal cell ∷ codes "->" ∷ codes "done" ∷ []) rest _
    (line_of _ _ _ rest (ap (λ (left : List ℕ). decimal worker ++ 32 ∷ (codes "free " ++ left)) (is_cell ∙ ap (λ (left : List ℕ). decimal cell ++ 32 ∷ left) is_done))
    (wide_field worker w, (word_field (codes "free") refl, (wide_field cell ic, (word_field (codes "->") refl, (word_field (codes "done") refl, tt))))) (omega arith))
    (free_fields _ _ worker cell (wide_before worker w) (wide_before cell ic) (worker_back worker iw) (wide_back cell ic)) tt tt tt

-- `alias TO FROM -> done` behind a worker
pub alias_is : (worker to from : ℕ) (fields first behind rest : List ℕ) → worker ≤ 65535 → to ≤ 4294967295 → from ≤ 4294967295
    → fields ≡ decimal to ++ 32 ∷ first → first ≡ decimal from ++ 32 ∷ behind → behind ≡ codes "-> done" ++ 10 ∷ rest
    → IsQuickEntry (decimal worker ++ 32 ∷ (codes "alias " ++ fields)) (record { worker = worker; command = SpeltAlias to from; reply = RecordedDone }) rest
alias_is worker to from fields first behind rest iw it if' is_to is_from is_done =
    let w : worker ≤ 4294967295 = omega (arith, iw) in
    entry_of_line _ (decimal worker ∷ codes "alias" ∷ decimal to ∷ decimal from ∷ codes "->" ∷ codes "done" ∷ []) rest _
    (line_of _ _ _ rest (ap (λ (left : List ℕ). decimal worker ++ 32 ∷ (codes "alias " ++ left))
    (is_to ∙ ap (λ (left : List ℕ). decimal to ++ 32 ∷ left) (is_from ∙ ap (λ (left : List ℕ). decimal from ++ 32 ∷ left) is_done)))
    (wide_field worker w, (word_field (codes "alias") refl, (wide_field to it, (wide_field from if', (word_field (codes "->") refl, (word_field (codes "done") refl, tt))))))
    (omega arith))
    (alias_fields _ _ _ worker to from (wide_before worker w) (wide_before to it) (wide_before from if') (worker_back worker iw) (wide_back to it) (wide_back from if')) tt tt tt

-- `new CELL LEN WORD` behind a worker, up to the arrow
pub new_text : (cell len word : ℕ) (fields first second behind : List ℕ) → fields ≡ decimal cell ++ 32 ∷ first → first ≡ decimal len ++ 32 ∷ second
    → second ≡ decimal word ++ 32 ∷ behind → fields ≡ decimal cell ++ 32 ∷ (decimal len ++ 32 ∷ (decimal word ++ 32 ∷ behind))
new_text cell len word fields first second behind is_cell is_len is_word =
    is_cell ∙ ap (λ (left : List ℕ). decimal cell ++ 32 ∷ left) (is_len ∙ ap (λ (left : List ℕ). decimal len ++ 32 ∷ left) is_word)

-- `-> object SERIAL at ADDR` and its end
pub object_text : (serial address : ℕ) (behind first second third rest : List ℕ) → behind ≡ codes "-> object " ++ first → first ≡ decimal serial ++ 32 ∷ second
    → second ≡ codes "at " ++ third → third ≡ hex_from 11 address ++ 10 ∷ rest
    → behind ≡ codes "-> object " ++ (decimal serial ++ 32 ∷ (codes "at " ++ (hex_from 11 address ++ 10 ∷ rest)))
object_text serial address behind first second third rest is_object is_serial is_at is_address =
    is_object ∙ ap (λ (left : List ℕ). codes "-> object " ++ left)
    (is_serial ∙ ap (λ (left : List ℕ). decimal serial ++ 32 ∷ left) (is_at ∙ ap (λ (left : List ℕ). codes "at " ++ left) is_address))

pub new_is : (worker cell len word serial address : ℕ) (fields behind rest : List ℕ) → worker ≤ 65535 → cell ≤ 4294967295 → len ≤ 140737488355328 → word < 2 ^ 64
    → serial ≤ 4294967295 → address ≤ 281474976710655 → fields ≡ decimal cell ++ 32 ∷ (decimal len ++ 32 ∷ (decimal word ++ 32 ∷ behind))
    → behind ≡ codes "-> object " ++ (decimal serial ++ 32 ∷ (codes "at " ++ (hex_from 11 address ++ 10 ∷ rest)))
    → IsQuickEntry (decimal worker ++ 32 ∷ (codes "new " ++ fields)) (record { worker = worker; command = SpeltNew cell len word; reply = RecordedObject serial address }) rest
new_is worker cell len word serial address fields behind rest iw ic il id is ia is_fields is_behind =
    let w : worker ≤ 4294967295 = omega (arith, iw) in
    let words = number_back 0 18446744073709551615 word id (omega arith) (omega (arith, id)) in
    entry_of_line _ (decimal worker ∷ codes "new" ∷ decimal cell ∷ decimal len ∷ decimal word ∷ codes "->" ∷ codes "object" ∷ decimal serial ∷ codes "at" ∷ hex_from 11 address ∷ []) rest _
    (line_of _ _ _ rest (ap (λ (left : List ℕ). decimal worker ++ 32 ∷ (codes "new " ++ left))
    (is_fields ∙ ap (λ (left : List ℕ). decimal cell ++ 32 ∷ (decimal len ++ 32 ∷ (decimal word ++ 32 ∷ left))) is_behind)) (
      wide_field worker w,
      (
        word_field (codes "new") refl,
        (
          wide_field cell ic,
          (
            size_field len il,
            (
              number_field word id,
              (
                word_field (codes "->") refl,
                (word_field (codes "object") refl, (wide_field serial is, (word_field (codes "at") refl, (address_field address, tt)))),
              ),
            ),
          ),
        ),
      ),
    ) (omega arith))
    (new_fields _ _ _ _ _ _ worker cell len word serial address (wide_before worker w) (wide_before cell ic) (size_before len il) (number_before word id)
    (field_filled (decimal serial) (wide_field serial is).1) (field_filled (hex_from 11 address) (address_field address).1)
    (worker_back worker iw) (wide_back cell ic) (size_back len il) words (wide_back serial is) (place_back address ia)) tt il (omega (arith, ia))
