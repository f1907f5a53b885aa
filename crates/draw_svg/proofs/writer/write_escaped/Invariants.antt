use Rattle.std.proofs.Common.{◌≡◌, ◌++◌, take}
use Rattle.draw_svg.specs.Texts.{escaped}
use Rattle.draw_svg.proofs.writer.write_escaped.Given as goal

abbrev pub invariant-loop-byte : goal.invariant-loop-byte
invariant-loop-byte l = l.text.items ≡ l.initial.text.items ++ escaped (take l.byte-index l.words)
