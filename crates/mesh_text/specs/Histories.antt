-- The text of a history: the answers of each worker, and the number of entries. This project's own choice.
use Rattle.std.specs.Prelude.{ℕ, List, ◌++◌, codes, length}
use Rattle.std.specs.List.{flat_map, range_with_len}
use Rattle.model_memory.specs.Plain.{Entry}
use Rattle.model_memory.specs.Seats.{Call, calls_of}
use Rattle.model_jobs.specs.Texts.{ended, number_field, reply_text}
use Rattle.model_words.specs.declared.commands.Reply.{Reply}
use Rattle.model_words.specs.declared.commands.Reply.TheVariants.{Object as Made, Done, Bytes, At, Byte, Refused}

-- the printed text of a reply. Serials and addresses are left out, because they depend on the scheduling of the threads
abbrev pub told_text : Reply → List ℕ
told_text (Made serial address) = codes "object"
told_text (At address) = codes "at"
told_text Done = reply_text Done
told_text (Bytes bytes) = reply_text (Bytes bytes)
told_text (Byte byte) = reply_text (Byte byte)
told_text (Refused refusal) = reply_text (Refused refusal)

-- the line of a call's reply
abbrev pub call_line : Call → List ℕ
call_line call = ended (told_text call.reply)

-- the line that begins a worker's part
abbrev pub worker_line : ℕ → List ℕ
worker_line worker = ended (codes "worker" ++ number_field worker)

-- a worker's part: its line, and the lines of its answers in their order
abbrev pub worker_text : List Entry → ℕ → List ℕ
worker_text history worker = worker_line worker ++ flat_map call_line (calls_of worker history)

-- the line that ends a history of `n` entries
abbrev pub count_line : ℕ → List ℕ
count_line n = ended (codes "history" ++ number_field n)

-- the text of a history of this number of workers: their parts, and the number of all entries
unfoldable pub history_text : ℕ → List Entry → List ℕ
history_text workers history = flat_map (worker_text history) (range_with_len 0 workers) ++ count_line (length history)
