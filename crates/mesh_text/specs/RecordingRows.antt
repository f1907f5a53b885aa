-- A worked example of a recorded history and its text: each kind of command and answer has a line.
use Rattle.std.specs.Prelude.{◌≡◌, List, [], ◌∷◌, ◌++◌, codes}
use Rattle.model_memory.specs.Plain.{Entry}
use Rattle.model_words.specs.declared.commands.Command.TheVariants.{New, Put, Get, Free, Alias, Addr, Peek, Poke, Copy as CopyBytes}
use Rattle.model_words.specs.declared.commands.Reply.TheVariants.{Object as Made, Done, Bytes, At, Byte, Refused}
use Rattle.model_words.specs.declared.refusals.Refusal.TheVariants.{Freed}
use Rattle.mesh_text.specs.Recordings.{recorded_text}

-- the entries of two workers, in turn, and a last one of worker 12, with a command and an answer of each kind
abbrev pub recorded : List Entry
recorded =
    record { worker = 1; command = New 1 64 18446744073709551615; reply = Made 0 4096 } ∷ record { worker = 0; command = New 0 16 7; reply = Made 1 8192 }
    ∷ record { worker = 1; command = Put 1 0 (record { items = 104 ∷ 105 ∷ [] }); reply = Done } ∷ record { worker = 0; command = Addr 0; reply = At 8192 }
    ∷ record { worker = 1; command = Get 1 0 2; reply = Bytes (record { items = 104 ∷ 105 ∷ [] }) } ∷ record { worker = 0; command = Peek 4097; reply = Byte 105 }
    ∷ record { worker = 1; command = Alias 2 1; reply = Done } ∷ record { worker = 0; command = Poke 8195 10; reply = Done }
    ∷ record { worker = 1; command = CopyBytes 0 4 2 1 1; reply = Done } ∷ record { worker = 0; command = Free 0; reply = Done }
    ∷ record { worker = 12; command = Free 0; reply = Refused Freed } ∷ []

-- without entries, the text is the line of the format alone
abbrev pub NoneIsRecorded : Type 0
NoneIsRecorded = recorded_text [] ≡ codes "history 1\n"

-- the text has a line for each entry, in the order of the entries
abbrev pub EachIsRecorded : Type 0
EachIsRecorded = recorded_text recorded
    ≡ codes "history 1\n1 new 1 64 18446744073709551615 -> object 0 at 1000\n0 new 0 16 7 -> object 1 at 2000\n1 put 1 0 6869 -> done\n"
    ++ codes "0 addr 0 -> at 2000\n1 get 1 0 2 -> bytes 6869\n0 peek 1001 -> byte 69\n1 alias 2 1 -> done\n0 poke 2003 0a -> done\n"
    ++ codes "1 copy 0 4 2 1 1 -> done\n0 free 0 -> done\n12 free 0 -> refused 6 FREED\n"
