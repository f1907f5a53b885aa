-- Worked examples of histories and their texts: the entries of two workers alternate, and the text collects each
-- worker's answers.
use Rattle.std.specs.Prelude.{◌≡◌, List, [], ◌∷◌, codes}
use Rattle.model_memory.specs.Plain.{Entry}
use Rattle.model_words.specs.declared.commands.Command.TheVariants.{New, Put, Get, Free, Addr, Peek}
use Rattle.model_words.specs.declared.commands.Reply.TheVariants.{Object as Made, Done, Bytes, At, Byte, Refused}
use Rattle.model_words.specs.declared.refusals.Refusal.TheVariants.{Freed}
use Rattle.mesh_text.specs.Histories.{history_text}

-- the entries of two workers, in turn, with an answer of each kind
abbrev pub alternating : List Entry
alternating =
    record { worker = 1; command = New 1 64 0; reply = Made 0 4096 } ∷ record { worker = 0; command = New 0 16 0; reply = Made 1 8192 }
    ∷ record { worker = 1; command = Put 1 0 (record { items = 104 ∷ 105 ∷ [] }); reply = Done }
    ∷ record { worker = 0; command = Addr 0; reply = At 8192 } ∷ record { worker = 1; command = Get 1 0 2; reply = Bytes (record { items = 104 ∷ 105 ∷ [] }) }
    ∷ record { worker = 0; command = Peek 4097; reply = Byte 105 } ∷ record { worker = 1; command = Free 0; reply = Done }
    ∷ record { worker = 0; command = Free 0; reply = Refused Freed } ∷ []

-- without workers, the text is the count alone
abbrev pub NoneIsCounted : Type 0
NoneIsCounted = history_text 0 [] ≡ codes "history 0\n"

-- a worker without entries has a line too
abbrev pub IdleWorkersAreNamed : Type 0
IdleWorkersAreNamed = history_text 3 (record { worker = 1; command = Free 0; reply = Done } ∷ [])
    ≡ codes "worker 0\nworker 1\ndone\nworker 2\nhistory 1\n"

-- the text has the answers worker by worker, each worker's in order and without serials and addresses, and then the
-- number of all entries
abbrev pub WorkersStandTogether : Type 0
WorkersStandTogether = history_text 2 alternating
    ≡ codes "worker 0\nobject\nat\nbyte 69\nrefused 6 FREED\nworker 1\nobject\ndone\nbytes 6869\ndone\nhistory 8\n"
