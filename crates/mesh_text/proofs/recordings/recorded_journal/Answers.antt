use Rattle.std.proofs.Common.{◌∙◌, ◌++◌, ap, append-nil, sym, arith}
use Rattle.model_memory.specs.Plain.{Entry}
use Rattle.mesh_text.specs.Recordings.{entry_line}
use Rattle.text_words.specs.RecordedTexts.{recorded_head}
use Rattle.text_words.proofs.PartTexts.{wrote_one}
use Rattle.mesh_text.proofs.RecordedTexts.{all_recorded}
use Rattle.mesh_text.proofs.recordings.recorded_journal.Goals as goal

pub loop-place-init : goal.loop-place-init
loop-place-init c = c.in_ok-text.ensures ∙ sym (append-nil recorded_head)

pub loop-place-preserved : goal.loop-place-preserved
loop-place-preserved c =
    wrote_one entry_line c.args.journal.now.entries c.entry.result c.loop-place.place recorded_head c.loop-place.text.items c.add_entry.new.text.items
    (let count = c.len-place-end.ensures.value in omega (arith, count)) c.loop-place.invariant
    (c.in_ok-add_entry.ensures ∙ ap (λ (entry : Entry). c.loop-place.text.items ++ entry_line entry) (c.entry.ensures c.entry.result))

pub returns : goal.returns
returns c = all_recorded _ _ _ (let count = c.len-place-end.ensures.value in omega (arith, count)) c.loop-place.invariant
