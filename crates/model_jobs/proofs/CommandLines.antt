-- The lines of commands and of a plan, read back.
use Rattle.std.proofs.Common.{◌≡◌, ℕ, ◌-◌, ◌*◌, ◌^◌, ◌<◌, ◌≤◌, false, List, [], ◌∷◌, ◌++◌, map, nat_eq, Option, Some, None, Ok, length, ap, refl, sym, arith, append-nil, append_assoc, length-append}
use Rattle.std.specs.Prelude.{codes, IsSome}
use Rattle.std.specs.Fmt.{decimal}
use Rattle.std.specs.List.{All, flat_map}
use Rattle.std.proofs.lemmas.Bool.Decides.{nat_tests}
use Rattle.std.proofs.lemmas.Bool.{lt-leb, ne_eqb, true≢false}
use Rattle.std.proofs.lemmas.List.{length-map}
use Rattle.model_words.specs.Classes.{row_of}
use Rattle.model_jobs.specs.JobFiles.{are_same, Draft, InScript, InPlan, take_line, command_in, line_in, class_in, words_in, IsValidCommand, IsValidLine}
use Rattle.model_jobs.specs.Jobs.{Line, RunWorker, PairClass, BeginMesh, StepMesh, CancelMesh, StepClass, CancelClass, WholeMesh, SweepGroup, MakeReport}
use Rattle.model_jobs.specs.Texts.{address_text, byte_text, bytes_text, field, number_field, command_text, line_text}
use Rattle.model_words.specs.Words.{◌>>=◌, or_refuse}
use Rattle.model_words.specs.declared.commands.Command.{Command}
use Rattle.model_words.specs.declared.commands.Command.TheVariants.{New, Put, Get, Free, Alias, Addr, Peek, Poke, Copy as CopyBytes}
use Rattle.model_words.specs.declared.faults.FaultKind.TheVariants.{Number}
use Rattle.model_words.specs.declared.versions.Version.{Version}
use Rattle.model_jobs.proofs.Fields.{AreWithin, number_back, address_back, byte_back, bytes_back, decimal_within, decimal_short, hex_within, byte_within, bytes_within, within_from_all}
use Rattle.model_jobs.proofs.SpelledFields.{IsField, IsWord, AreFields, word_by_test, line_taken, line_within}

-- the word of a command
abbrev pub word_of : Command → List ℕ
word_of (New cell len word) = codes "new"
word_of (Put cell off bytes) = codes "put"
word_of (Get cell off len) = codes "get"
word_of (Free cell) = codes "free"
word_of (Alias to from) = codes "alias"
word_of (Addr cell) = codes "addr"
word_of (Peek address) = codes "peek"
word_of (Poke address byte) = codes "poke"
word_of (CopyBytes to to_off from from_off len) = codes "copy"

-- the fields of a command, after its word
abbrev pub fields_of : Command → List (List ℕ)
fields_of (New cell len word) = decimal cell ∷ decimal len ∷ decimal word ∷ []
fields_of (Put cell off bytes) = decimal cell ∷ decimal off ∷ bytes_text bytes.items ∷ []
fields_of (Get cell off len) = decimal cell ∷ decimal off ∷ decimal len ∷ []
fields_of (Free cell) = decimal cell ∷ []
fields_of (Alias to from) = decimal to ∷ decimal from ∷ []
fields_of (Addr cell) = decimal cell ∷ []
fields_of (Peek address) = address_text address ∷ []
fields_of (Poke address byte) = address_text address ∷ byte_text byte ∷ []
fields_of (CopyBytes to to_off from from_off len) = decimal to ∷ decimal to_off ∷ decimal from ∷ decimal from_off ∷ decimal len ∷ []

-- a field of at most 64 bytes
abbrev pub IsShortField : List ℕ → Type 0
IsShortField bytes = IsField bytes × (length bytes ≤ 64)

-- the fields of a command are short fields
pub decimal_field : (n : ℕ) → n < 2 ^ 64 → IsShortField (decimal n)
decimal_field n small = (decimal_within n small, omega (arith, decimal_short n small))

address_field : (address : ℕ) → IsShortField (address_text address)
address_field address = let hex = hex_within 7 address in ((hex.0, hex.1), omega (arith, hex.2))

byte_field : (byte : ℕ) → byte ≤ 255 → IsShortField (byte_text byte)
byte_field byte most = ((byte_within byte most, omega arith), omega arith)

bytes_field : (bytes : List ℕ) → 1 ≤ length bytes → length bytes ≤ 32 → All (λ b. b ≤ 255) bytes → IsShortField (bytes_text bytes)
bytes_field bytes some most all = grind (arith, nat_tests, bytes_within bytes (within_from_all 255 bytes all), within_from_all 255 bytes all)

-- a command's text is its word and its fields
pub command_spelt : (command : Command) → command_text command ≡ word_of command ++ flat_map field (fields_of command)
command_spelt (Free cell) = rw append-nil refl
command_spelt (Addr cell) = rw append-nil refl
command_spelt (Peek address) = rw append-nil refl
command_spelt command = simp (append_assoc, append-nil) refl

-- a command's word and fields are read as the command
command_back : (version : Version) (command : Command) → IsValidCommand version command
    → command_in version (word_of command) (fields_of command) ≡ Ok command
command_back version (New cell len word) valid =
    grind (arith, nat_tests, number_back 0 255 cell, number_back 0 65535 len, number_back 0 18446744073709551615 word)
command_back version (Put cell off bytes) valid =
    grind (arith, nat_tests, number_back 0 255 cell, number_back 0 65535 off, bytes_back bytes.items valid.2 valid.3 valid.4)
command_back version (Get cell off len) valid = grind (arith, nat_tests, number_back 0 255 cell, number_back 0 65535 off, number_back 1 32 len)
command_back version (Free cell) valid = rw (number_back 0 255 cell (omega (arith, valid)) (omega arith) valid) refl
command_back version (Alias to from) valid = grind (arith, nat_tests, number_back 0 255 to, number_back 0 255 from)
command_back version (Addr cell) valid = rw (number_back 0 255 cell (omega (arith, valid)) (omega arith) valid) refl
command_back version (Peek address) valid = rw (address_back address valid) refl
command_back version (Poke address byte) valid = rw (address_back address valid.0, byte_back byte valid.1) refl
command_back version (CopyBytes to to_off from from_off len) valid =
    grind (arith, nat_tests, number_back 0 255 to, number_back 0 65535 to_off, number_back 0 255 from, number_back 0 65535 from_off, number_back 1 32 len)

-- every part is a short field
abbrev pub AreShortFields : List (List ℕ) → Type 0
AreShortFields [] = Unit {0}
AreShortFields (f ∷ fs) = IsShortField f × AreShortFields fs

-- short fields are fields
fields_from_short : (fields : List (List ℕ)) → AreShortFields fields → AreFields fields
fields_from_short [] are = tt
fields_from_short (f ∷ fs) are = (are.0.0, fields_from_short fs are.1)

-- short fields, each after a space, have at most 65 bytes each
fields_length : (fields : List (List ℕ)) → AreShortFields fields → length (flat_map field fields) ≤ 65 * length fields
fields_length [] are = omega arith
fields_length (f ∷ fs) are = omega (arith, length-append f (flat_map field fs), are.0.1, fields_length fs are.1)

-- a few short fields are fields, and have room in a line
pub short_room : (fields : List (List ℕ)) → AreShortFields fields → length fields ≤ 5 → AreFields fields × (length (flat_map field fields) ≤ 1000)
short_room fields are few = (fields_from_short fields are, omega (arith, fields_length fields are, few))

-- the fields of a command, and their room
command_room : (version : Version) (command : Command) → IsValidCommand version command → AreFields (fields_of command) × (length (flat_map field (fields_of command)) ≤ 1000)
command_room version (New cell len word) valid = short_room (fields_of (New cell len word))
    (decimal_field cell (omega (arith, valid.0)), (decimal_field len (omega (arith, valid.1)), (decimal_field word (omega (arith, valid.2)), tt))) (omega arith)
command_room version (Put cell off bytes) valid = short_room (fields_of (Put cell off bytes))
    (decimal_field cell (omega (arith, valid.0)), (decimal_field off (omega (arith, valid.1)), (bytes_field bytes.items valid.2 valid.3 valid.4, tt))) (omega arith)
command_room version (Get cell off len) valid = short_room (fields_of (Get cell off len))
    (decimal_field cell (omega (arith, valid.0)), (decimal_field off (omega (arith, valid.1)), (decimal_field len (omega (arith, valid.3)), tt))) (omega arith)
command_room version (Free cell) valid = short_room (fields_of (Free cell)) (decimal_field cell (omega (arith, valid)), tt) (omega arith)
command_room version (Alias to from) valid = short_room (fields_of (Alias to from))
    (decimal_field to (omega (arith, valid.0)), (decimal_field from (omega (arith, valid.1)), tt)) (omega arith)
command_room version (Addr cell) valid = short_room (fields_of (Addr cell)) (decimal_field cell (omega (arith, valid)), tt) (omega arith)
command_room version (Peek address) valid = short_room (fields_of (Peek address)) (address_field address, tt) (omega arith)
command_room version (Poke address byte) valid = short_room (fields_of (Poke address byte)) (address_field address, (byte_field byte valid.1, tt)) (omega arith)
command_room version (CopyBytes to to_off from from_off len) valid =
    grind (arith, nat_tests, short_room (fields_of (CopyBytes to to_off from from_off len)), fields_of, decimal_field)

-- the word of a command, which begins no other section
command_word : (command : Command)
    → IsWord (word_of command) × (are_same (word_of command) (codes "worker") ≡ false) × (are_same (word_of command) (codes "plan") ≡ false)
command_word (New cell len word) = (word_by_test (codes "new") refl, refl, refl)
command_word (Put cell off bytes) = (word_by_test (codes "put") refl, refl, refl)
command_word (Get cell off len) = (word_by_test (codes "get") refl, refl, refl)
command_word (Free cell) = (word_by_test (codes "free") refl, refl, refl)
command_word (Alias to from) = (word_by_test (codes "alias") refl, refl, refl)
command_word (Addr cell) = (word_by_test (codes "addr") refl, refl, refl)
command_word (Peek address) = (word_by_test (codes "peek") refl, refl, refl)
command_word (Poke address byte) = (word_by_test (codes "poke") refl, refl, refl)
command_word (CopyBytes to to_off from from_off len) = (word_by_test (codes "copy") refl, refl, refl)

-- a command's line goes to the end of the script that is being read
pub command_taken : (draft : Draft) (worker : ℕ) (command : Command) → draft.section ≡ InScript worker → IsValidCommand draft.version command
    → take_line draft (command_text command) ≡ Ok (record draft { script = draft.script ++ command ∷ [] })
command_taken draft worker command here valid =
    grind (arith, nat_tests, command_word, command_room, command_spelt, line_taken, word_of, fields_of, command_back)

-- a command's line is printable
pub command_printable : (version : Version) (command : Command) → IsValidCommand version command → AreWithin 32 126 (command_text command)
command_printable version command valid =
    rw (command_spelt command) (line_within (word_of command) (fields_of command) (command_word command).0.0 (command_room version command valid).0)

-- the word of a line of the plan
abbrev pub line_word : Line → List ℕ
line_word (RunWorker worker) = codes "run"
line_word (PairClass class t words) = codes "pair"
line_word (BeginMesh source destination) = codes "begin"
line_word StepMesh = codes "step"
line_word CancelMesh = codes "cancel"
line_word (StepClass class) = codes "step"
line_word (CancelClass class) = codes "cancel"
line_word (WholeMesh source destination) = codes "whole"
line_word (SweepGroup group) = codes "sweep"
line_word MakeReport = codes "report"

-- the fields of a line of the plan, after its word
abbrev pub line_fields : Line → List (List ℕ)
line_fields (RunWorker worker) = decimal worker ∷ []
line_fields (PairClass class t words) = decimal class ∷ decimal t ∷ map decimal words
line_fields (BeginMesh source destination) = decimal source ∷ decimal destination ∷ []
line_fields StepMesh = []
line_fields CancelMesh = []
line_fields (StepClass class) = decimal class ∷ []
line_fields (CancelClass class) = decimal class ∷ []
line_fields (WholeMesh source destination) = decimal source ∷ decimal destination ∷ []
line_fields (SweepGroup group) = decimal group ∷ []
line_fields MakeReport = []

-- words are decimal fields
words_spelt : (words : List ℕ) → flat_map number_field words ≡ flat_map field (map decimal words)
words_spelt [] = refl
words_spelt (w ∷ ws) = rw (words_spelt ws) refl

-- a line's text is its word and its fields
pub line_spelt : (line : Line) → line_text line ≡ line_word line ++ flat_map field (line_fields line)
line_spelt (RunWorker worker) = rw append-nil refl
line_spelt (PairClass class t words) = rw (words_spelt words)
    (ap (λ (x : List ℕ). codes "pair" ++ 32 ∷ x) (append_assoc (decimal class) (number_field t) (flat_map field (map decimal words))))
line_spelt (BeginMesh source destination) = simp (append_assoc, append-nil) refl
line_spelt (StepClass class) = rw append-nil refl
line_spelt (CancelClass class) = rw append-nil refl
line_spelt (WholeMesh source destination) = simp (append_assoc, append-nil) refl
line_spelt (SweepGroup group) = rw append-nil refl
line_spelt line = refl

-- a size above all of the table's is none of them
above_size : (size class : ℕ) → size ≤ 2048 → 2048 < class → nat_eq size class ≡ false
above_size size class most above = ne_eqb size class (λ same. omega (arith, same, most, above))

-- the size of a class is small
class_small : (class : ℕ) → IsSome (row_of class) → class < 2 ^ 64
class_small class some = grind (arith, nat_tests, true≢false, above_size)

-- the words' fields are read as the words
words_back : (words : List ℕ) → AreWithin 0 18446744073709551615 words → words_in (map decimal words) ≡ Ok words
words_back [] small = refl
words_back (w ∷ ws) small = grind (arith, nat_tests, number_back 0 18446744073709551615 w, words_back ws small.2)

-- an option that is some is no refusal
some_passes : {A : Type 0} (n : ℕ) (o : Option A) → IsSome o → (or_refuse Number o >>= λ x. Ok n) ≡ Ok n
some_passes n None some = absurd (true≢false (sym some))
some_passes n (Some x) some = refl

-- a class is read as its size
class_back : (class : ℕ) → IsSome (row_of class) → class_in (decimal class) ≡ Ok class
class_back class some = grind (arith, nat_tests, class_small class some, number_back 0 18446744073709551615 class, some_passes class (row_of class) some)

-- a line's word and fields are read as the line
line_back : (version : Version) (workers : ℕ) (line : Line) → workers ≤ 64 → IsValidLine version workers line
    → line_in version workers (line_word line) (line_fields line) ≡ Ok line
line_back version workers (RunWorker worker) few valid = rw (number_back 0 (workers - 1) worker (omega (arith, few, valid)) (omega arith) (omega (arith, valid))) refl
line_back version workers (PairClass class t words) few valid =
    grind (arith, nat_tests, lt-leb, length-map, class_back, number_back, words_back, within_from_all)
line_back version workers (BeginMesh source destination) few valid = grind (arith, nat_tests, number_back 0 65535 source, number_back 0 65535 destination)
line_back version workers StepMesh few valid = rw valid refl
line_back version workers CancelMesh few valid = rw valid refl
line_back version workers (StepClass class) few valid = rw (valid.0, class_back class valid.1) refl
line_back version workers (CancelClass class) few valid = rw (valid.0, class_back class valid.1) refl
line_back version workers (WholeMesh source destination) few valid = grind (arith, nat_tests, number_back 0 65535 source, number_back 0 65535 destination)
line_back version workers (SweepGroup group) few valid = rw (number_back 0 65535 group (omega (arith, valid)) (omega arith) valid) refl
line_back version workers MakeReport few valid = refl

-- decimal fields, each after a space, have at most 21 bytes each
words_field : (words : List ℕ) → AreWithin 0 18446744073709551615 words
    → AreFields (map decimal words) × (length (flat_map field (map decimal words)) ≤ 21 * length words)
words_field [] small = (tt, omega arith)
words_field (w ∷ ws) small = let later = words_field ws small.2 in (
  (decimal_within w (omega (arith, small.1)), later.0),
  omega (arith, length-append (decimal w) (flat_map field (map decimal ws)), decimal_short w (omega (arith, small.1)), later.1),
)

-- the fields of a line, and their room
line_room : (version : Version) (workers : ℕ) (line : Line) → workers ≤ 64 → IsValidLine version workers line
    → AreFields (line_fields line) × (length (flat_map field (line_fields line)) ≤ 1000)
line_room version workers (RunWorker worker) few valid = short_room (decimal worker ∷ []) (decimal_field worker (omega (arith, few, valid)), tt) (omega arith)
line_room version workers (PairClass class t words) few valid =
    let first = decimal_field class (class_small class valid.0) in let second = decimal_field t (omega (arith, valid.1)) in
    let others = words_field words (within_from_all 18446744073709551615 words valid.3) in (
      (first.0, (second.0, others.0)),
      omega (
        arith,
        length-append (decimal class) (32 ∷ (decimal t ++ flat_map field (map decimal words))),
        length-append (decimal t) (flat_map field (map decimal words)),
        first.1,
        second.1,
        others.1,
        valid.2,
      ),
    )
line_room version workers (BeginMesh source destination) few valid = short_room (decimal source ∷ decimal destination ∷ [])
    (decimal_field source (omega (arith, valid.0)), (decimal_field destination (omega (arith, valid.1)), tt)) (omega arith)
line_room version workers StepMesh few valid = (tt, omega arith)
line_room version workers CancelMesh few valid = (tt, omega arith)
line_room version workers (StepClass class) few valid = short_room (decimal class ∷ []) (decimal_field class (class_small class valid.1), tt) (omega arith)
line_room version workers (CancelClass class) few valid = short_room (decimal class ∷ []) (decimal_field class (class_small class valid.1), tt) (omega arith)
line_room version workers (WholeMesh source destination) few valid = short_room (decimal source ∷ decimal destination ∷ [])
    (decimal_field source (omega (arith, valid.0)), (decimal_field destination (omega (arith, valid.1)), tt)) (omega arith)
line_room version workers (SweepGroup group) few valid = short_room (decimal group ∷ []) (decimal_field group (omega (arith, valid)), tt) (omega arith)
line_room version workers MakeReport few valid = (tt, omega arith)

-- the word of a line, which isn't that of the end
line_word_fits : (line : Line) → IsWord (line_word line) × (are_same (line_word line) (codes "end") ≡ false)
line_word_fits (RunWorker worker) = (word_by_test (codes "run") refl, refl)
line_word_fits (PairClass class t words) = (word_by_test (codes "pair") refl, refl)
line_word_fits (BeginMesh source destination) = (word_by_test (codes "begin") refl, refl)
line_word_fits StepMesh = (word_by_test (codes "step") refl, refl)
line_word_fits CancelMesh = (word_by_test (codes "cancel") refl, refl)
line_word_fits (StepClass class) = (word_by_test (codes "step") refl, refl)
line_word_fits (CancelClass class) = (word_by_test (codes "cancel") refl, refl)
line_word_fits (WholeMesh source destination) = (word_by_test (codes "whole") refl, refl)
line_word_fits (SweepGroup group) = (word_by_test (codes "sweep") refl, refl)
line_word_fits MakeReport = (word_by_test (codes "report") refl, refl)

-- a line of the plan goes to the end of the plan
pub plan_line_taken : (draft : Draft) (line : Line) → draft.section ≡ InPlan → draft.workers ≤ 64 → IsValidLine draft.version draft.workers line
    → take_line draft (line_text line) ≡ Ok (record draft { plan = draft.plan ++ line ∷ [] })
plan_line_taken draft line here few valid = grind (arith, nat_tests, line_word_fits, line_room, line_spelt, line_taken, line_word, line_fields, line_back)

-- a line of the plan is printable
pub plan_line_printable : (version : Version) (workers : ℕ) (line : Line) → workers ≤ 64 → IsValidLine version workers line → AreWithin 32 126 (line_text line)
plan_line_printable version workers line few valid =
    rw (line_spelt line) (line_within (line_word line) (line_fields line) (line_word_fits line).0.0 (line_room version workers line few valid).0)
