use Rattle.std.proofs.Common.{◌≡◌, ◌≤◌, ◌++◌, drop, length}
use Rattle.draw_svg.specs.Templates.{filled}
use Rattle.draw_svg.proofs.templates.words_of.Given as goal

abbrev pub invariant-loop-byte : goal.invariant-loop-byte
invariant-loop-byte l = record {
  next : l.next ≤ length l.numbers;
  words : l.words.items ++ filled (drop l.byte-index l.byte-items) (drop l.next l.numbers) ≡ l.first ++ filled l.template l.numbers;
}
