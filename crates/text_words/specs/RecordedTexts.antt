-- The texts of recorded histories. The format is this project's own choice.
use Rattle.std.specs.Prelude.{ℕ, List, codes}
use Rattle.model_jobs.specs.Texts.{ended, told_with}
use Rattle.text_words.specs.Addresses.{wide_text}
use Rattle.text_words.specs.RecordedWords.{plain_reply}
use Rattle.text_words.specs.declared.recorded.RecordedReply.{RecordedReply}

-- the text of a recorded answer
abbrev pub recorded_text : RecordedReply → List ℕ
recorded_text reply = told_with wide_text (plain_reply reply)

-- the first line of a recorded history, with its end: the version of the format
abbrev pub recorded_head : List ℕ
recorded_head = ended (codes "history 1")
