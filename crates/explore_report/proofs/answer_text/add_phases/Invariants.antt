use Rattle.std.proofs.Common.{◌≡◌, ◌++◌}
use Rattle.explore_report.specs.CommandTexts.{note_phases_text}
use Rattle.explore_report.specs.EndTexts.{texts_below}
use Rattle.explore_report.proofs.answer_text.add_phases.Given as goal

abbrev pub invariant-loop-mesher : goal.invariant-loop-mesher
invariant-loop-mesher l = l.text.items ≡ l.initial.text.items ++ texts_below (note_phases_text l.meshers l.listing l.note) l.mesher
