-- The text of calls in an order. The format is this project's own choice.
use Rattle.std.specs.Prelude.{ℕ, List, ◌++◌, codes, decimal}
use Rattle.std.specs.List.{flat_map}
use Rattle.model_memory.specs.Plain.{Entry}
use Rattle.model_intervals.specs.Intervals.{Call}
use Rattle.model_jobs.specs.Texts.{command_text, ended, field, told_with}
use Rattle.text_words.specs.Addresses.{wide_text}
use Rattle.text_words.specs.RecordedTexts.{recorded_head}

-- the line of an entry, with its end: the worker, its command, and the answer, whose addresses may have up to 64 bits
abbrev pub entry_line : Entry → List ℕ
entry_line entry =
    ended (decimal entry.worker ++ field (command_text entry.command) ++ codes " -> " ++ told_with wide_text entry.reply)

-- the text of a recorded history that has these calls in this order
unfoldable pub ordered_text : List Call → List ℕ
ordered_text calls = recorded_head ++ flat_map (λ call. entry_line call.entry) calls
