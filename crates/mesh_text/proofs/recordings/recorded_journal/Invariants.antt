use Rattle.std.proofs.Common.{◌≡◌, ◌++◌, take}
use Rattle.std.specs.List.{flat_map}
use Rattle.mesh_text.specs.Recordings.{entry_line}
use Rattle.text_words.specs.RecordedTexts.{recorded_head}
use Rattle.mesh_text.proofs.recordings.recorded_journal.Given as goal

abbrev pub invariant-loop-place : goal.invariant-loop-place
invariant-loop-place l = l.text.items ≡ recorded_head ++ flat_map entry_line (take l.place l.journal.entries)
