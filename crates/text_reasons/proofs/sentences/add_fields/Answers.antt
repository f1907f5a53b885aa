use Rattle.std.proofs.Common.{arith}
use Rattle.text_reasons.specs.Sentences.{field_text}
use Rattle.text_reasons.proofs.PartTexts.{wrote_one}
use Rattle.text_reasons.proofs.sentences.add_fields.Goals as goal

pub loop-field-preserved : goal.loop-field-preserved
loop-field-preserved c =
    wrote_one field_text c.args.fields.now _ c.loop-field.field-index c.args.text.now.items c.loop-field.text.items c.add_field.new.text.items (omega arith)
    c.loop-field.invariant c.in_ok-add_field.ensures
