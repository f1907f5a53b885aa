-- The text of a verdict. The wording is this project's own choice.
use Rattle.std.specs.Prelude.{ℕ, List, [], ◌++◌, Option, Some, None, codes, decimal}
use Rattle.model_jobs.specs.Texts.{ended, number_field}
use Rattle.text_words.specs.Addresses.{wide_text}
use Rattle.text_words.specs.RecordedTexts.{recorded_text}
use Rattle.text_words.specs.declared.recorded.RecordedReply.{RecordedReply}
use Rattle.history_in_order.specs.declared.reasons.AddressRange.{AddressRange}
use Rattle.history_in_order.specs.declared.reasons.DifferentByte.{DifferentByte}
use Rattle.history_in_order.specs.declared.reasons.Overlap.{Overlap}
use Rattle.history_in_order.specs.declared.reasons.Reason.{Reason}
use Rattle.history_in_order.specs.declared.reasons.Reason.TheVariants.{Differs, NoObject, LiveRefused, SerialAgain, Overlaps}
use Rattle.history_in_order.specs.declared.verdicts.Verdict.{Verdict}
use Rattle.history_in_order.specs.declared.verdicts.Verdict.TheVariants.{Legal, Wrong}

-- the text of an answer and of the wanted answer
abbrev pub answers_text : RecordedReply → RecordedReply → List ℕ
answers_text answered wanted = recorded_text answered ++ codes ", wanted " ++ recorded_text wanted

-- the text of the line whose entry last stored a byte, if there is one
abbrev pub store_text : Option ℕ → List ℕ
store_text None = codes " was never stored"
store_text (Some line) = codes " was last stored at line " ++ decimal line

-- the text of the byte that differs, if there is one
abbrev pub byte_text : Option DifferentByte → List ℕ
byte_text None = []
byte_text (Some byte) = codes "; byte " ++ decimal byte.offset ++ store_text byte.stored_at

-- the text of an address range
abbrev pub range_text : AddressRange → List ℕ
range_text range = wide_text range.from ++ codes ".." ++ wide_text range.to

-- the text of the object that is overlapped
abbrev pub overlapped_text : Overlap → List ℕ
overlapped_text overlap = codes "overlaps object " ++ decimal overlap.serial ++ codes ", made at line " ++ decimal overlap.made_at

-- the text of both objects' addresses
abbrev pub ranges_text : Overlap → List ℕ
ranges_text overlap = codes ": addresses " ++ range_text overlap.range ++ codes " and " ++ range_text overlap.other

-- the text of the reason why an entry is rejected
abbrev pub reason_text : Reason → List ℕ
reason_text (Differs difference) = codes "answer differs: " ++ answers_text difference.answered difference.wanted ++ byte_text difference.byte
reason_text (NoObject answered) = codes "answer differs: " ++ recorded_text answered ++ codes ", wanted object"
reason_text (LiveRefused refusal) = codes "live object is refused: " ++ answers_text refusal.answered refusal.wanted
reason_text SerialAgain = codes "serial again"
reason_text (Overlaps overlap) = overlapped_text overlap ++ ranges_text overlap

-- the text of a verdict
abbrev pub found_text : Verdict → List ℕ
found_text (Legal entries) = codes "legal" ++ number_field entries ++ codes " entries"
found_text (Wrong line reason) = codes "line" ++ number_field line ++ codes ": " ++ reason_text reason

-- the line of a verdict, with its end
abbrev pub verdict_text : Verdict → List ℕ
verdict_text verdict = ended (found_text verdict)
