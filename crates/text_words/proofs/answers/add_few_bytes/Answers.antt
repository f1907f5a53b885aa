use Rattle.std.proofs.Common.{arith}
use Rattle.text_words.proofs.Digits.{spelt_by_table}
use Rattle.text_words.proofs.answers.add_few_bytes.Goals as goal

pub returns : goal.returns
returns c = grind (arith, spelt_by_table)
