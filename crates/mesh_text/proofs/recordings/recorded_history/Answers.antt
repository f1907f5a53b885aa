use Rattle.std.proofs.Common.{◌∙◌, ◌++◌, ap, append-nil, sym, arith}
use Rattle.model_memory.specs.Plain.{Entry}
use Rattle.mesh_text.specs.Recordings.{entry_line}
use Rattle.text_words.specs.RecordedTexts.{recorded_head}
use Rattle.text_words.proofs.PartTexts.{wrote_one}
use Rattle.mesh_text.proofs.RecordedTexts.{all_recorded}
use Rattle.mesh_text.proofs.recordings.recorded_history.Goals as goal

pub loop-entry-init : goal.loop-entry-init
loop-entry-init c = c.in_ok-text.ensures ∙ sym (append-nil recorded_head)

pub loop-entry-preserved : goal.loop-entry-preserved
loop-entry-preserved c =
    wrote_one entry_line c.args.history.now c.entry-item.result c.loop-entry.entry-index recorded_head c.loop-entry.text.items c.add_entry.new.text.items (omega arith)
    c.loop-entry.invariant (c.in_ok-add_entry.ensures ∙ ap (λ (entry : Entry). c.loop-entry.text.items ++ entry_line entry) c.entry-item.is)

pub returns : goal.returns
returns c = all_recorded c.args.history.now c.loop-entry.entry-index c.loop-entry.text.items c.loop-entry-test.false c.loop-entry.invariant
