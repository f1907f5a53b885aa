-- The text of a recorded history: each entry's worker, command and answer. This project's own choice.
use Rattle.std.specs.Prelude.{ℕ, List, ◌++◌, codes, decimal}
use Rattle.std.specs.List.{flat_map}
use Rattle.model_memory.specs.Plain.{Entry}
use Rattle.model_jobs.specs.Texts.{command_text, ended, field, reply_text}
use Rattle.text_words.specs.RecordedTexts.{recorded_head}

-- the line of an entry, without its end: the worker, its command, and the reply
abbrev pub entry_text : Entry → List ℕ
entry_text entry = decimal entry.worker ++ field (command_text entry.command) ++ codes " -> " ++ reply_text entry.reply

-- the line of an entry, with its end
abbrev pub entry_line : Entry → List ℕ
entry_line entry = ended (entry_text entry)

-- the text of a recorded history
unfoldable pub recorded_text : List Entry → List ℕ
recorded_text entries = recorded_head ++ flat_map entry_line entries
