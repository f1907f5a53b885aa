use Rattle.std.proofs.Common.{◌≡◌, ◌++◌, take}
use Rattle.std.specs.List.{flat_map}
use Rattle.text_reasons.specs.Sentences.{field_text}
use Rattle.text_reasons.proofs.sentences.add_fields.Given as goal

abbrev pub invariant-loop-field : goal.invariant-loop-field
invariant-loop-field l = l.text.items ≡ l.initial.text.items ++ flat_map field_text (take l.field-index l.fields)
