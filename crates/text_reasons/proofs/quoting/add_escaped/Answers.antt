use Rattle.std.proofs.Common.{arith}
use Rattle.text_reasons.specs.Quotes.{escaped_text}
use Rattle.text_reasons.proofs.PartTexts.{wrote_one}
use Rattle.text_reasons.proofs.quoting.add_escaped.Goals as goal

pub loop-byte-preserved : goal.loop-byte-preserved
loop-byte-preserved c =
    wrote_one escaped_text c.args.bytes.now 0 c.loop-byte.byte-index c.args.text.now.items c.loop-byte.text.items c.add_byte.new.text.items (omega arith)
    c.loop-byte.invariant c.in_ok-add_byte.ensures
