use Rattle.std.proofs.Common.{◌≡◌, ◌++◌, take}
use Rattle.draw_html.specs.Pages.{escaped}
use Rattle.draw_html.proofs.escapes.add_escaped.Given as goal

abbrev pub invariant-loop-byte : goal.invariant-loop-byte
invariant-loop-byte l = l.text.items ≡ l.initial.text.items ++ escaped (take l.byte-index l.bytes)
