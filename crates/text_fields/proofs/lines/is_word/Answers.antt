use Rattle.std.proofs.Common.{◌∙◌}
use Rattle.text_fields.proofs.Sames.{pointwise_same}
use Rattle.text_fields.proofs.lines.is_word.Goals as goal

pub returns : goal.returns
returns c = c.eq.ensures ∙ pointwise_same c.args.word.now c.args.wanted.now
