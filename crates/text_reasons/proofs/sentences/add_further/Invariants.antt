use Rattle.std.proofs.Common.{◌≡◌, ◌++◌, take}
use Rattle.std.specs.List.{flat_map}
use Rattle.text_reasons.specs.Sentences.{further_text}
use Rattle.text_reasons.proofs.sentences.add_further.Given as goal

abbrev pub invariant-loop-form : goal.invariant-loop-form
invariant-loop-form l = l.text.items ≡ l.initial.text.items ++ flat_map further_text (take l.form-index l.forms)
