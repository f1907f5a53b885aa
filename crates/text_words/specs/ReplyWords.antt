-- The words of a recorded answer. The format is this project's own choice.
use Rattle.std.specs.Prelude.{ℕ, not, if◌then◌else◌, nat_eq, List, [], ◌∷◌, Result, Ok, Err, codes}
use Rattle.model_jobs.specs.JobFiles.{are_same, byte_in, bytes_in, no_field, number_in, one_field, three_fields, two_fields}
use Rattle.model_words.specs.Refusals.{name_of}
use Rattle.model_words.specs.Words.{◌>>=◌, refuse_if}
use Rattle.model_words.specs.declared.commands.Reply.{Reply}
use Rattle.model_words.specs.declared.commands.Reply.TheVariants.{Object as Made, Done, Bytes, At, Byte, Refused}
use Rattle.model_words.specs.declared.faults.FaultKind.{FaultKind}
use Rattle.model_words.specs.declared.faults.FaultKind.TheVariants.{Word}
use Rattle.model_words.specs.declared.refusals.Refusal.{Refusal}
use Rattle.model_words.specs.declared.refusals.Refusal.TheVariants.{Zero, TooLarge, NoPages, NoAddresses, Empty, Freed, Outside, Stray, NoGroup, Same, Class, Busy, Overlap, Members, NoMesh, TooLate, NotEmpty}
use Rattle.text_fields.specs.Commands.{place_in, wide_in}

-- the refusal with this number from 1 to 17
abbrev pub refusal_of : ℕ → Refusal
refusal_of n =
    if nat_eq n 1 then Zero
    else (if nat_eq n 2 then TooLarge
    else (if nat_eq n 3 then NoPages
    else (if nat_eq n 4 then NoAddresses
    else (if nat_eq n 5 then Empty
    else (if nat_eq n 6 then Freed
    else (if nat_eq n 7 then Outside
    else (if nat_eq n 8 then Stray
    else (if nat_eq n 9 then NoGroup
    else (if nat_eq n 10 then Same
    else (if nat_eq n 11 then Class
    else (if nat_eq n 12 then Busy
    else (if nat_eq n 13 then Overlap
    else (if nat_eq n 14 then Members
    else (if nat_eq n 15 then NoMesh
    else (if nat_eq n 16 then TooLate else NotEmpty)))))))))))))))

-- the refusal, if this is its name, or else a fault
abbrev pub named_in : Refusal → List ℕ → Result Refusal FaultKind
named_in refusal name = refuse_if Word (not (are_same name (name_of refusal))) >>= λ _. Ok refusal

-- the refusal of this number and this name, or a fault if the two don't fit together
abbrev pub refusal_in : List ℕ → List ℕ → Result Refusal FaultKind
refusal_in number name = number_in 1 17 number >>= λ n. named_in (refusal_of n) name

-- `object SERIAL at ADDR`
abbrev pub object_in : List (List ℕ) → Result Reply FaultKind
object_in fields =
    three_fields fields >>= λ f. wide_in f.0 >>= λ serial. refuse_if Word (not (are_same f.1 (codes "at"))) >>= λ _.
    place_in f.2 >>= λ address. Ok (Made serial address)

-- `done`
abbrev pub done_in : List (List ℕ) → Result Reply FaultKind
done_in fields = no_field fields >>= λ _. Ok Done

-- `bytes HEX`, with at most `most` bytes
abbrev pub loaded_in : ℕ → List (List ℕ) → Result Reply FaultKind
loaded_in most fields = one_field fields >>= λ f. bytes_in most f >>= λ bytes. Ok (Bytes (record { items = bytes }))

-- `at ADDR`
abbrev pub at_in : List (List ℕ) → Result Reply FaultKind
at_in fields = one_field fields >>= λ f. place_in f >>= λ address. Ok (At address)

-- `byte HH`
abbrev pub peeked_in : List (List ℕ) → Result Reply FaultKind
peeked_in fields = one_field fields >>= λ f. byte_in f >>= λ byte. Ok (Byte byte)

-- `refused NUMBER NAME`
abbrev pub refused_in : List (List ℕ) → Result Reply FaultKind
refused_in fields = two_fields fields >>= λ f. refusal_in f.0 f.1 >>= λ refusal. Ok (Refused refusal)

-- the reply of this word and these fields, with at most `most` bytes, or their fault
abbrev pub reply_in : ℕ → List ℕ → List (List ℕ) → Result Reply FaultKind
reply_in most word fields =
    if are_same word (codes "object") then object_in fields
    else (if are_same word (codes "done") then done_in fields
    else (if are_same word (codes "bytes") then loaded_in most fields
    else (if are_same word (codes "at") then at_in fields
    else (if are_same word (codes "byte") then peeked_in fields
    else (if are_same word (codes "refused") then refused_in fields else Err Word)))))

-- the reply in these fields, the first of which is its word
abbrev pub answer_in : ℕ → List (List ℕ) → Result Reply FaultKind
answer_in most [] = Err Word
answer_in most (word ∷ fields) = reply_in most word fields
