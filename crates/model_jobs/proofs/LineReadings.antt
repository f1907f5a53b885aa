-- What a line that was taken says: the line is the text of the command, the line of the plan or the header that was
-- read.
use Rattle.std.proofs.Common.{◌≡◌, ℕ, suc, ◌+◌, ◌≤◌, true, false, ◌&&◌, not, if◌then◌else◌, nat_eq, nat_lt, List, [], ◌∷◌, ◌++◌, map, Result, Ok, Err, length, ap, refl, sym, subst, ◌∙◌, arith, inl, inr, append-nil}
use Rattle.std.specs.Prelude.{codes, IsSome, ◌⊎◌}
use Rattle.std.specs.Fmt.{decimal}
use Rattle.std.specs.List.{flat_map, list_all, slice_split, join_with_byte}
use Rattle.std.proofs.lemmas.Bool.Decides.{nat_tests, leb_tells}
use Rattle.std.proofs.lemmas.Bool.{and_parts, leb-true, true≢false}
use Rattle.std.proofs.lemmas.List.{length-map}
use Rattle.std.proofs.lemmas.List.Splits.{join_with_byte-slice_split}
use Rattle.model_jobs.specs.JobFiles.{are_same, number_in, address_in, bytes_in, byte_in, cell_in, short_in, word_in, class_in, words_in, one_field, two_fields, three_fields, five_fields, no_field, new_in, put_in, get_in, free_in, alias_in, addr_in, peek_in, poke_in, copy_in, is_second, job_rules, command_in, run_in, pair_in, of_groups_in, sweep_in, bare_in, of_class_in, of_mesh_in, line_in, Section, Draft, AtFirstWorker, InScript, InPlan, AtEnd, script_closed, header_in, take_in, is_printable, take_fields, take_line, IsValidLine, IsValidCommand}
use Rattle.model_jobs.specs.Jobs.{Line, PairClass, BeginMesh, StepMesh, CancelMesh, StepClass, CancelClass, WholeMesh, MakeReport}
use Rattle.model_jobs.specs.ReaderLaws.{IsHeader, IsNextWorker, IsPlanHead, IsCommandLine, IsEnd, IsPlanLine}
use Rattle.model_jobs.specs.Texts.{field, number_field, command_text, line_text}
use Rattle.model_words.proofs.Tests.{equal}
use Rattle.model_words.specs.Words.{◌>>=◌, refuse_if}
use Rattle.model_words.specs.declared.commands.Command.{Command}
use Rattle.model_words.specs.declared.commands.Command.TheVariants.{New, Put, Get, Peek, Poke, Copy as CopyBytes}
use Rattle.model_words.specs.Classes.{row_of}
use Rattle.model_words.specs.declared.faults.FaultKind.{FaultKind}
use Rattle.model_words.specs.declared.faults.FaultKind.TheVariants.{LongLine, Byte, Word}
use Rattle.model_words.specs.declared.versions.Version.{Version}
use Rattle.model_words.specs.declared.versions.Version.TheVariants.{One, Two}
use Rattle.model_words.proofs.Chains.{went_on, refuse_if_went}
use Rattle.model_jobs.proofs.CommandLines.{word_of, fields_of, command_spelt, line_word, line_fields, line_spelt}
use Rattle.model_jobs.proofs.FieldReadings.{if_tells, not_refused, same_by_test, number_told, address_told, byte_told, bytes_told, class_told, words_told}

-- the one field that there is
one_told : (fields : List (List ℕ)) (f : List ℕ) → one_field fields ≡ Ok f → fields ≡ f ∷ []
one_told [] f h = absurd (cc h)
one_told (a ∷ []) f h = cc h
one_told (a ∷ b ∷ more) f h = absurd (cc h)

-- the two fields that there are
two_told : (fields : List (List ℕ)) (f : List ℕ × List ℕ) → two_fields fields ≡ Ok f → fields ≡ f.0 ∷ f.1 ∷ []
two_told (a ∷ b ∷ []) f h = let is : (a, b) ≡ f = cc h in subst (λ (g : List ℕ × List ℕ). a ∷ b ∷ [] ≡ g.0 ∷ g.1 ∷ []) is refl
two_told fields f h = absurd (cc h)

-- the three fields that there are
three_told : (fields : List (List ℕ)) (f : List ℕ × List ℕ × List ℕ) → three_fields fields ≡ Ok f → fields ≡ f.0 ∷ f.1 ∷ f.2 ∷ []
three_told (a ∷ b ∷ c ∷ []) f h = grind (arith, nat_tests)
three_told fields f h = absurd (cc h)

-- the five fields that there are
five_told : (fields : List (List ℕ)) (f : List ℕ × List ℕ × List ℕ × List ℕ × List ℕ) → five_fields fields ≡ Ok f
    → fields ≡ f.0 ∷ f.1 ∷ f.2 ∷ f.3 ∷ f.4 ∷ []
five_told (a ∷ b ∷ c ∷ d ∷ e ∷ []) f h = grind (arith, nat_tests)
five_told fields f h = absurd (cc h)

-- there is no field
none_told : (fields : List (List ℕ)) (u : Unit {0}) → no_field fields ≡ Ok u → fields ≡ []
none_told [] u h = refl
none_told (a ∷ more) u h = absurd (cc h)

-- a word and fields are those of a command in its ranges
abbrev IsCommand : Version → List ℕ → List (List ℕ) → Command → Type 0
IsCommand version word fields command = (word ≡ word_of command) × (fields ≡ fields_of command) × IsValidCommand version command

-- what each of the commands says of its fields
new_told : (version : Version) (fields : List (List ℕ)) (command : Command) → new_in (job_rules version) fields ≡ Ok command → IsCommand version (codes "new") fields command
new_told version fields command h =
    let f = went_on (three_fields fields) _ command h in let cell = went_on (cell_in f.value.0) _ command f.then in
    let len = went_on (short_in f.value.1) _ command cell.then in let word = went_on (word_in f.value.2) _ command len.then in
    let a = number_told 0 255 f.value.0 cell.value cell.is in let b = number_told 0 65535 f.value.1 len.value len.is in
    let c = number_told 0 18446744073709551615 f.value.2 word.value word.is in
    let is : New cell.value len.value word.value ≡ command = cc word.then in
    subst (λ (x : Command). IsCommand version (codes "new") fields x) is (refl, cc (three_told fields f.value f.is, a.0, b.0, c.0), (a.2, b.2, c.2))

put_told : (version : Version) (fields : List (List ℕ)) (command : Command) → put_in (job_rules version) fields ≡ Ok command → IsCommand version (codes "put") fields command
put_told version fields command h =
    let f = went_on (three_fields fields) _ command h in let cell = went_on (cell_in f.value.0) _ command f.then in
    let off = went_on (short_in f.value.1) _ command cell.then in let bytes = went_on (bytes_in 32 f.value.2) _ command off.then in
    let a = number_told 0 255 f.value.0 cell.value cell.is in let b = number_told 0 65535 f.value.1 off.value off.is in
    let c = bytes_told f.value.2 bytes.value bytes.is in
    let is : Put cell.value off.value (record { items = bytes.value }) ≡ command = cc bytes.then in
    subst (λ (x : Command). IsCommand version (codes "put") fields x) is
    (refl, cc (three_told fields f.value f.is, a.0, b.0, c.0), (a.2, b.2, c.1, c.2, c.3))

get_told : (version : Version) (fields : List (List ℕ)) (command : Command) → get_in (job_rules version) fields ≡ Ok command → IsCommand version (codes "get") fields command
get_told version fields command h =
    let f = went_on (three_fields fields) _ command h in let cell = went_on (cell_in f.value.0) _ command f.then in
    let off = went_on (short_in f.value.1) _ command cell.then in let len = went_on (number_in 1 32 f.value.2) _ command off.then in
    let a = number_told 0 255 f.value.0 cell.value cell.is in let b = number_told 0 65535 f.value.1 off.value off.is in
    let c = number_told 1 32 f.value.2 len.value len.is in
    let is : Get cell.value off.value len.value ≡ command = cc len.then in
    subst (λ (x : Command). IsCommand version (codes "get") fields x) is (refl, cc (three_told fields f.value f.is, a.0, b.0, c.0), (a.2, b.2, c.1, c.2))

free_told : (version : Version) (fields : List (List ℕ)) (command : Command) → free_in (job_rules version) fields ≡ Ok command → IsCommand version (codes "free") fields command
free_told version fields command h =
    grind (arith, nat_tests, went_on (one_field fields) _ command h, went_on, number_told 0 255, IsCommand version (codes "free") fields, one_told fields)

alias_told : (version : Version) (fields : List (List ℕ)) (command : Command) → alias_in (job_rules version) fields ≡ Ok command → IsCommand version (codes "alias") fields command
alias_told version fields command h =
    grind (arith, nat_tests, went_on (two_fields fields) _ command h, went_on, number_told 0 255, IsCommand version (codes "alias") fields, two_told fields)

addr_told : (version : Version) (fields : List (List ℕ)) (command : Command) → addr_in (job_rules version) fields ≡ Ok command → IsCommand version (codes "addr") fields command
addr_told version fields command h =
    grind (arith, nat_tests, went_on (one_field fields) _ command h, went_on, number_told 0 255, IsCommand version (codes "addr") fields, one_told fields)

peek_told : (version : Version) (fields : List (List ℕ)) (command : Command) → peek_in (job_rules version) fields ≡ Ok command → IsCommand version (codes "peek") fields command
peek_told version fields command h =
    let f = went_on (one_field fields) _ command h in let address = went_on (address_in f.value) _ command f.then in
    let a = address_told f.value address.value address.is in let is : Peek address.value ≡ command = cc address.then in
    subst (λ (x : Command). IsCommand version (codes "peek") fields x) is (refl, cc (one_told fields f.value f.is, a.0), a.1)

poke_told : (version : Version) (fields : List (List ℕ)) (command : Command) → poke_in (job_rules version) fields ≡ Ok command → IsCommand version (codes "poke") fields command
poke_told version fields command h =
    let f = went_on (two_fields fields) _ command h in let address = went_on (address_in f.value.0) _ command f.then in
    let byte = went_on (byte_in f.value.1) _ command address.then in
    let a = address_told f.value.0 address.value address.is in let b = byte_told f.value.1 byte.value byte.is in
    let is : Poke address.value byte.value ≡ command = cc byte.then in
    subst (λ (x : Command). IsCommand version (codes "poke") fields x) is (refl, cc (two_told fields f.value f.is, a.0, b.0), (a.1, b.1))

five_spelt : (f : List ℕ × List ℕ × List ℕ × List ℕ × List ℕ) (a b c d e : List ℕ) → f.0 ≡ a → f.1 ≡ b → f.2 ≡ c → f.3 ≡ d → f.4 ≡ e
    → f.0 ∷ f.1 ∷ f.2 ∷ f.3 ∷ f.4 ∷ [] ≡ a ∷ b ∷ c ∷ d ∷ e ∷ []
five_spelt f a b c d e is_a is_b is_c is_d is_e = rw (is_a, is_b, is_c, is_d, is_e) refl

copy_told : (version : Version) (fields : List (List ℕ)) (command : Command) → version ≡ Two → copy_in (job_rules version) fields ≡ Ok command
    → IsCommand version (codes "copy") fields command
copy_told version fields command second h =
    let f = went_on (five_fields fields) _ command h in let to = went_on (cell_in f.value.0) _ command f.then in
    let to_off = went_on (short_in f.value.1) _ command to.then in let from = went_on (cell_in f.value.2) _ command to_off.then in
    let from_off = went_on (short_in f.value.3) _ command from.then in let len = went_on (number_in 1 32 f.value.4) _ command from_off.then in
    let a = number_told 0 255 f.value.0 to.value to.is in let b = number_told 0 65535 f.value.1 to_off.value to_off.is in
    let c = number_told 0 255 f.value.2 from.value from.is in let d = number_told 0 65535 f.value.3 from_off.value from_off.is in
    let e = number_told 1 32 f.value.4 len.value len.is in
    let is : CopyBytes to.value to_off.value from.value from_off.value len.value ≡ command = cc len.then in
    subst (λ (x : Command). IsCommand version (codes "copy") fields x) is
    (refl, five_told fields f.value f.is ∙ five_spelt f.value _ _ _ _ _ a.0 b.0 c.0 d.0 e.0, (second, a.2, b.2, c.2, d.2, e.1, e.2))

-- a file that is second is of version 2
second_told : (version : Version) → is_second version ≡ true → version ≡ Two
second_told One h = absurd (cc h)
second_told Two h = refl

-- the last choice of a command: a copy, in version 2
copy_chosen : (version : Version) (word : List ℕ) (fields : List (List ℕ)) (command : Command)
    → (if are_same word (codes "copy") && is_second version then copy_in (job_rules version) fields else Err Word) ≡ Ok command → IsCommand version word fields command
copy_chosen version word fields command h = grind (
  arith,
  nat_tests,
  if_tells (are_same word (codes "copy") && is_second version) (copy_in (job_rules version) fields) (Err Word) (Ok command) h,
  and_parts,
  IsCommand,
  same_by_test,
  copy_told version fields command,
  second_told,
)

-- a choice by a line's word: the word is this one and its fields are read, or the later words are tried
chosen : {A : Type 0} (P : List ℕ → Type 0) (word wanted : List ℕ) (first later : Result A FaultKind) (x : A)
    → (first ≡ Ok x → P wanted) → (later ≡ Ok x → P word) → (if are_same word wanted then first else later) ≡ Ok x → P word
chosen P word wanted first later x is isn't h = grind (arith, same_by_test)

-- a word and fields that are read as a command are its word and its fields
command_told : (version : Version) (word : List ℕ) (fields : List (List ℕ)) (command : Command) → command_in version word fields ≡ Ok command
    → IsCommand version word fields command
command_told version word fields command =
    let P : List ℕ → Type 0 = λ w. IsCommand version w fields command in
    chosen P word (codes "new") (new_in (job_rules version) fields) _ command (new_told version fields command)
    (chosen P word (codes "put") (put_in (job_rules version) fields) _ command (put_told version fields command)
    (chosen P word (codes "get") (get_in (job_rules version) fields) _ command (get_told version fields command)
    (chosen P word (codes "free") (free_in (job_rules version) fields) _ command (free_told version fields command)
    (chosen P word (codes "alias") (alias_in (job_rules version) fields) _ command (alias_told version fields command)
    (chosen P word (codes "addr") (addr_in (job_rules version) fields) _ command (addr_told version fields command)
    (chosen P word (codes "peek") (peek_in (job_rules version) fields) _ command (peek_told version fields command)
    (chosen P word (codes "poke") (poke_in (job_rules version) fields) _ command (poke_told version fields command) (copy_chosen version word fields command))))))))

-- a word and fields are those of a line of the plan in its ranges
abbrev IsStep : Version → ℕ → List ℕ → List (List ℕ) → Line → Type 0
IsStep version workers word fields step = (word ≡ line_word step) × (fields ≡ line_fields step) × IsValidLine version workers step

-- a count that isn't refused for its size is in its range
pub few_by_test : (most n : ℕ) → nat_lt most n ≡ false → n ≤ most
few_by_test most n h = elim (leb_tells (suc most) n) [ inl many ↦ absurd (true≢false (rw many.0 at h)) | inr few ↦ omega (arith, few.1) ]

-- what each of the lines of a plan says of its fields
run_told : (version : Version) (workers : ℕ) (fields : List (List ℕ)) (step : Line) → 1 ≤ workers → run_in workers fields ≡ Ok step → IsStep version workers (codes "run") fields step
run_told version workers fields step some h = grind (arith, nat_tests, went_on, number_told, IsStep, one_told)

pair_told : (version : Version) (workers : ℕ) (fields : List (List ℕ)) (step : Line) → pair_in fields ≡ Ok step → IsStep version workers (codes "pair") fields step
pair_told version workers [] step h = absurd (cc h)
pair_told version workers (f ∷ []) step h = absurd (cc h)
pair_told version workers (f ∷ g ∷ more) step h =
    let fs = went_on (refuse_if Word (nat_lt 32 (length more)) >>= λ _. Ok (f, g, more)) _ step h in
    let few = refuse_if_went Word (nat_lt 32 (length more)) _ fs.value fs.is in
    let is_fields : (f, g, more) ≡ fs.value = cc few.1 in
    let class = went_on (class_in fs.value.0) _ step fs.then in let t = went_on (number_in 0 64 fs.value.1) _ step class.then in
    let words = went_on (words_in fs.value.2) _ step t.then in
    let a = class_told fs.value.0 class.value class.is in let b = number_told 0 64 fs.value.1 t.value t.is in
    let c = words_told fs.value.2 words.value words.is in
    let f_is : f ≡ fs.value.0 = ap (λ (x : List ℕ × List ℕ × List (List ℕ)). x.0) is_fields in
    let g_is : g ≡ fs.value.1 = ap (λ (x : List ℕ × List ℕ × List (List ℕ)). x.1) is_fields in
    let more_is : more ≡ map decimal words.value = ap (λ (x : List ℕ × List ℕ × List (List ℕ)). x.2) is_fields ∙ c.0 in
    let is : PairClass class.value t.value words.value ≡ step = cc words.then in
    subst (λ (x : Line). IsStep version workers (codes "pair") (f ∷ g ∷ more) x) is (
      refl,
      cc (f_is, g_is, more_is, a.0, b.0),
      (
        a.1,
        b.2,
        omega (arith, few_by_test 32 (length more) few.0, ap (λ (x : List (List ℕ)). length x) more_is, length-map words.value decimal),
        c.1,
      ),
    )

-- a line with two groups
groups_told : (version : Version) (workers : ℕ) (line : ℕ → ℕ → Line) (word : List ℕ) (fields : List (List ℕ)) (step : Line)
    → ((source destination : ℕ) → source ≤ 65535 → destination ≤ 65535 → IsStep version workers word (decimal source ∷ decimal destination ∷ []) (line source destination))
    → of_groups_in line fields ≡ Ok step → IsStep version workers word fields step
groups_told version workers line word fields step each h = grind (arith, number_told)

sweep_told : (version : Version) (workers : ℕ) (fields : List (List ℕ)) (step : Line) → sweep_in fields ≡ Ok step → IsStep version workers (codes "sweep") fields step
sweep_told version workers fields step h =
    grind (arith, nat_tests, went_on (one_field fields) _ step h, went_on, number_told 0 65535, IsStep version workers (codes "sweep") fields, one_told fields)

-- a line without a field
bare_told : (version : Version) (workers : ℕ) (bare : Line) (fields : List (List ℕ)) (step : Line) → line_fields bare ≡ []
    → IsValidLine version workers bare
    → bare_in bare fields ≡ Ok step → IsStep version workers (line_word bare) fields step
bare_told version workers bare fields step without valid h = let none = went_on (no_field fields) _ step h in let is : bare ≡ step = cc none.then in
    subst (λ (x : Line). IsStep version workers (line_word bare) fields x) is (refl, none_told fields none.value none.is ∙ sym without, valid)

-- a line with the size of a class
of_class_told : (version : Version) (workers : ℕ) (line : ℕ → Line) (word : List ℕ) (fields : List (List ℕ)) (step : Line)
    → ((class : ℕ) → IsSome (row_of class) → IsStep version workers word (decimal class ∷ []) (line class))
    → of_class_in line fields ≡ Ok step → IsStep version workers word fields step
of_class_told version workers line word fields step each h =
    let f = went_on (one_field fields) _ step h in let class = went_on (class_in f.value) _ step f.then in
    let a = class_told f.value class.value class.is in let is : line class.value ≡ step = cc class.then in
    let one : fields ≡ decimal class.value ∷ [] = cc (one_told fields f.value f.is, a.0) in
    subst (λ (x : Line). IsStep version workers word fields x) is
    (subst (λ (fs : List (List ℕ)). IsStep version workers word fs (line class.value)) (sym one) (each class.value a.1))

-- `step` and `cancel`, with a class in version 2
steps_told : (version : Version) (workers : ℕ) (fields : List (List ℕ)) (step : Line) → of_mesh_in version StepMesh StepClass fields ≡ Ok step
    → IsStep version workers (codes "step") fields step
steps_told One workers fields step = bare_told One workers StepMesh fields step refl refl
steps_told Two workers fields step =
    of_class_told Two workers (λ class. StepClass class) (codes "step") fields step (λ class some. (refl, refl, (refl, some)))

cancels_told : (version : Version) (workers : ℕ) (fields : List (List ℕ)) (step : Line) → of_mesh_in version CancelMesh CancelClass fields ≡ Ok step
    → IsStep version workers (codes "cancel") fields step
cancels_told One workers fields step = bare_told One workers CancelMesh fields step refl refl
cancels_told Two workers fields step =
    of_class_told Two workers (λ class. CancelClass class) (codes "cancel") fields step (λ class some. (refl, refl, (refl, some)))

-- a word and fields that are read as a line of the plan are its word and its fields
step_told : (version : Version) (workers : ℕ) (word : List ℕ) (fields : List (List ℕ)) (step : Line) → 1 ≤ workers
    → line_in version workers word fields ≡ Ok step
    → IsStep version workers word fields step
step_told version workers word fields step some =
    let P : List ℕ → Type 0 = λ w. IsStep version workers w fields step in
    chosen P word (codes "run") (run_in workers fields) _ step (run_told version workers fields step some)
    (chosen P word (codes "pair") (pair_in fields) _ step (pair_told version workers fields step)
    (chosen P word (codes "begin") (of_groups_in BeginMesh fields) _ step
    (groups_told version workers BeginMesh (codes "begin") fields step (λ s d few few'. (refl, refl, (few, few'))))
    (chosen P word (codes "step") (of_mesh_in version StepMesh StepClass fields) _ step (steps_told version workers fields step)
    (chosen P word (codes "cancel") (of_mesh_in version CancelMesh CancelClass fields) _ step (cancels_told version workers fields step)
    (chosen P word (codes "whole") (of_groups_in WholeMesh fields) _ step
    (groups_told version workers WholeMesh (codes "whole") fields step (λ s d few few'. (refl, refl, (few, few'))))
    (chosen P word (codes "sweep") (sweep_in fields) _ step (sweep_told version workers fields step)
    (chosen P word (codes "report") (bare_in MakeReport fields) (Err Word) step (bare_told version workers MakeReport fields step refl tt) (λ h. absurd (cc h)))))))))

-- what is taken as a line of a plan is in its ranges
pub line_in_range : (version : Version) (workers : ℕ) (word : List ℕ) (fields : List (List ℕ)) (line : Line) → 1 ≤ workers
    → line_in version workers word fields ≡ Ok line → IsValidLine version workers line
line_in_range version workers word fields line some h = (step_told version workers word fields line some h).2

-- a line that was taken: its word and its fields, taken in the draft's section
record Taken (draft : Draft) (line : List ℕ) (draft' : Draft) : Type 0 where
  pub word : List ℕ
  pub fields : List (List ℕ)
  pub is : line ≡ word ++ flat_map field fields
  pub read : take_in draft.section draft word fields ≡ Ok draft'

-- fields, joined by spaces, are a line
joined : (word : List ℕ) (fields : List (List ℕ)) → join_with_byte 32 (word ∷ fields) ≡ word ++ flat_map field fields
joined word [] = sym (append-nil word)
joined word (f ∷ fs) = rw (joined f fs) refl

-- the parts of a line that were taken
parts_told : (draft : Draft) (parts : List (List ℕ)) (line : List ℕ) (draft' : Draft) → join_with_byte 32 parts ≡ line → take_fields draft parts ≡ Ok draft'
    → Taken draft line draft'
parts_told draft [] line draft' join h = absurd (cc h)
parts_told draft (word ∷ fields) line draft' join h = grind (arith, joined)

-- a line that was taken is its word and its fields
taken_told : (draft : Draft) (line : List ℕ) (draft' : Draft) → take_line draft line ≡ Ok draft' → Taken draft line draft'
taken_told draft line draft' h =
    let short = refuse_if_went LongLine (nat_lt 1024 (length line)) _ draft' h in
    let printable = refuse_if_went Byte (not (list_all is_printable line)) _ draft' short.1 in
    parts_told draft (slice_split (λ b. nat_eq b 32) line) line draft' (join_with_byte-slice_split 32 line) printable.1

-- a word and one number
header_told : (wanted : List ℕ) (least most : ℕ) (word : List ℕ) (fields : List (List ℕ)) (n : ℕ) → header_in wanted least most word fields ≡ Ok n
    → (word ++ flat_map field fields ≡ wanted ++ number_field n) × (least ≤ n) × (n ≤ most)
header_told wanted least most word fields n h =
    let same = refuse_if_went Word (not (are_same word wanted)) _ n h in let f = went_on (one_field fields) _ n same.1 in
    let told = number_told least most f.value n f.then in
    let is : word ≡ wanted = same_by_test word wanted (not_refused (are_same word wanted) same.0) in
    let one : fields ≡ decimal n ∷ [] = cc (one_told fields f.value f.is, told.0) in
    (rw (is, one, append-nil (decimal n)) refl, told.1, told.2)

-- a line that was taken in a section
in_section : (draft : Draft) (line : List ℕ) (draft' : Draft) (taken : Taken draft line draft') (section : Section) → draft.section ≡ section
    → take_in section draft taken.word taken.fields ≡ Ok draft'
in_section draft line draft' taken section here = subst (λ (s : Section). take_in s draft taken.word taken.fields ≡ Ok draft') here taken.read

-- the line of a header that was taken, where the section reads a word and a number
pub heading_told : (section : Section) (wanted : List ℕ) (least most : ℕ) (after : ℕ → Draft) (draft draft' : Draft) (line : List ℕ)
    → ((word : List ℕ) (fields : List (List ℕ)) → take_in section draft word fields ≡ (header_in wanted least most word fields >>= λ n. Ok (after n)))
    → draft.section ≡ section → take_line draft line ≡ Ok draft' → IsHeader wanted least most after line draft'
heading_told section wanted least most after draft draft' line reads here h =
    grind (arith, nat_tests, taken_told draft line draft' h, went_on, in_section draft line draft', header_told wanted least most)

-- the first worker's head that was taken
pub first_worker_told : (draft draft' : Draft) (line : List ℕ) → draft.section ≡ AtFirstWorker → take_line draft line ≡ Ok draft'
    → (line ≡ codes "worker" ++ number_field 0) × (draft' ≡ record draft { section = InScript 0 })
first_worker_told draft draft' line here h =
    let header = heading_told AtFirstWorker (codes "worker") 0 0 (λ n. record draft { section = InScript 0 }) draft draft' line (λ _ _. refl) here h in
    let none : header.0 ≡ 0 = omega (arith, header.3) in
    (header.1 ∙ rw none refl, header.4)

-- the next worker's head that was taken
next_worker_told : (draft : Draft) (worker : ℕ) (word : List ℕ) (fields : List (List ℕ)) (line : List ℕ) (draft' : Draft)
    → line ≡ word ++ flat_map field fields → (are_same word (codes "worker") && nat_lt (worker + 1) draft.workers) ≡ true
    → (one_field fields >>= λ f. number_in (worker + 1) (worker + 1) f >>= λ next. Ok (script_closed draft (InScript (worker + 1)))) ≡ Ok draft'
    → IsNextWorker draft worker line draft'
next_worker_told draft worker word fields line draft' is test h =
    let parts = and_parts (are_same word (codes "worker")) (nat_lt (worker + 1) draft.workers) test in
    let f = went_on (one_field fields) _ draft' h in let next = went_on (number_in (worker + 1) (worker + 1) f.value) _ draft' f.then in
    let told = number_told (worker + 1) (worker + 1) f.value next.value next.is in
    let same : next.value ≡ worker + 1 = omega (arith, told.1, told.2) in
    let one : fields ≡ decimal (worker + 1) ∷ [] = one_told fields f.value f.is ∙ rw (told.0, same) refl in
    let below : suc (worker + 1) ≤ draft.workers = leb-true (suc (worker + 1)) draft.workers parts.1 in
    (is ∙ rw (same_by_test word (codes "worker") parts.0, one, append-nil (decimal (worker + 1))) refl, omega (arith, below), cc next.then)

-- the plan's head that was taken
plan_head_told : (draft : Draft) (worker : ℕ) (word : List ℕ) (fields : List (List ℕ)) (line : List ℕ) (draft' : Draft)
    → line ≡ word ++ flat_map field fields → (are_same word (codes "plan") && nat_eq (worker + 1) draft.workers) ≡ true
    → (no_field fields >>= λ _. Ok (script_closed draft InPlan)) ≡ Ok draft' → IsPlanHead draft worker line draft'
plan_head_told draft worker word fields line draft' is test h = grind (arith, nat_tests, and_parts, went_on, same_by_test word (codes "plan"), none_told, equal)

-- the word and the fields of a command are its text
command_joined : (version : Version) (word : List ℕ) (fields : List (List ℕ)) (command : Command) → IsCommand version word fields command
    → word ++ flat_map field fields ≡ command_text command
command_joined version word fields command is = rw (is.0, is.1) (sym (command_spelt command))

-- the command that was taken
command_line_told : (draft : Draft) (word : List ℕ) (fields : List (List ℕ)) (line : List ℕ) (draft' : Draft)
    → line ≡ word ++ flat_map field fields
    → (command_in draft.version word fields >>= λ command. Ok (record draft { script = draft.script ++ command ∷ [] })) ≡ Ok draft'
    → IsCommandLine draft line draft'
command_line_told draft word fields line draft' is h =
    grind (arith, nat_tests, went_on (command_in draft.version word fields) _ draft' h, command_told, command_joined draft.version word fields)

-- a line that was taken in a worker's section
pub script_line_told : (draft draft' : Draft) (worker : ℕ) (line : List ℕ) → draft.section ≡ InScript worker → take_line draft line ≡ Ok draft'
    → IsNextWorker draft worker line draft' ⊎ (IsPlanHead draft worker line draft' ⊎ IsCommandLine draft line draft')
script_line_told draft draft' worker line here h =
    let taken = taken_told draft line draft' h in
    elim (if_tells (are_same taken.word (codes "worker") && nat_lt (worker + 1) draft.workers) _ _ (Ok draft')
    (in_section draft line draft' taken (InScript worker) here)) [
      | inl head ↦ inl (next_worker_told draft worker taken.word taken.fields line draft' taken.is head.0 head.1)
      | inr others ↦ inr (elim (if_tells (are_same taken.word (codes "plan") && nat_eq (worker + 1) draft.workers) _ _ (Ok draft') others.1) [
        | inl plan ↦ inl (plan_head_told draft worker taken.word taken.fields line draft' taken.is plan.0 plan.1)
        | inr command ↦ inr (command_line_told draft taken.word taken.fields line draft' taken.is command.1)
      ])
    ]

-- the end that was taken
end_told : (draft : Draft) (word : List ℕ) (fields : List (List ℕ)) (line : List ℕ) (draft' : Draft)
    → line ≡ word ++ flat_map field fields → are_same word (codes "end") ≡ true
    → (no_field fields >>= λ _. Ok (record draft { section = AtEnd })) ≡ Ok draft' → IsEnd draft line draft'
end_told draft word fields line draft' is test h = let none = went_on (no_field fields) _ draft' h in
    (is ∙ rw (same_by_test word (codes "end") test, none_told fields none.value none.is) refl, cc none.then)

-- the word and the fields of a line of the plan are its text
step_joined : (version : Version) (workers : ℕ) (word : List ℕ) (fields : List (List ℕ)) (step : Line) → IsStep version workers word fields step
    → word ++ flat_map field fields ≡ line_text step
step_joined version workers word fields step is = rw (is.0, is.1) (sym (line_spelt step))

-- the line of the plan that was taken
step_line_told : (draft : Draft) (word : List ℕ) (fields : List (List ℕ)) (line : List ℕ) (draft' : Draft)
    → line ≡ word ++ flat_map field fields → 1 ≤ draft.workers
    → (line_in draft.version draft.workers word fields >>= λ step. Ok (record draft { plan = draft.plan ++ step ∷ [] })) ≡ Ok draft'
    → IsPlanLine draft line draft'
step_line_told draft word fields line draft' is some h = grind (
  arith,
  nat_tests,
  went_on (line_in draft.version draft.workers word fields) _ draft' h,
  step_told,
  step_joined draft.version draft.workers word fields,
)

-- a line that was taken in the plan
pub plan_line_told : (draft draft' : Draft) (line : List ℕ) → draft.section ≡ InPlan → 1 ≤ draft.workers → take_line draft line ≡ Ok draft'
    → IsEnd draft line draft' ⊎ IsPlanLine draft line draft'
plan_line_told draft draft' line here some h =
    let taken = taken_told draft line draft' h in
    elim (if_tells (are_same taken.word (codes "end")) _ _ (Ok draft') (in_section draft line draft' taken InPlan here)) [
      | inl last ↦ inl (end_told draft taken.word taken.fields line draft' taken.is last.0 last.1)
      | inr step ↦ inr (step_line_told draft taken.word taken.fields line draft' taken.is some step.1)
    ]
