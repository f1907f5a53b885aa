use Rattle.std.proofs.Common.{◌≡◌, ◌++◌, take}
use Rattle.std.specs.List.{flat_map}
use Rattle.text_words.specs.RecordedTexts.{recorded_head}
use Rattle.history_overlaps.specs.Orders.{calls_in_order}
use Rattle.history_overlaps.proofs.OrderTexts.{line_of}
use Rattle.history_overlaps.proofs.texts.written_in_order.Given as goal

abbrev pub invariant-loop-number : goal.invariant-loop-number
invariant-loop-number l = l.text.items ≡ recorded_head ++ flat_map line_of (calls_in_order l.calls (take l.number-index l.order))
