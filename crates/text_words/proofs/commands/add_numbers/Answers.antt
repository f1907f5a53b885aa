use Rattle.std.proofs.Common.{arith}
use Rattle.model_jobs.specs.Texts.{number_field}
use Rattle.text_words.proofs.PartTexts.{wrote_one}
use Rattle.text_words.proofs.commands.add_numbers.Goals as goal

pub loop-number-preserved : goal.loop-number-preserved
loop-number-preserved c =
    wrote_one number_field c.args.numbers.now 0 c.loop-number.number-index c.args.text.now.items c.loop-number.text.items c.add_number.new.text.items (omega arith)
    c.loop-number.invariant c.in_ok-add_number.ensures
