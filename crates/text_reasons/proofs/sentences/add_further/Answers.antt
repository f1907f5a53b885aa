use Rattle.std.proofs.Common.{arith}
use Rattle.text_reasons.specs.Sentences.{further_text}
use Rattle.text_reasons.proofs.PartTexts.{wrote_one}
use Rattle.text_reasons.proofs.sentences.add_further.Goals as goal

pub loop-form-preserved : goal.loop-form-preserved
loop-form-preserved c =
    wrote_one further_text c.args.forms.now _ c.loop-form.form-index c.args.text.now.items c.loop-form.text.items c.add_word.new.text.items (omega arith)
    c.loop-form.invariant c.in_ok-add_word.ensures
