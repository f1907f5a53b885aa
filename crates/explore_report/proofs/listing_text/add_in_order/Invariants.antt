use Rattle.std.proofs.Common.{◌≡◌, length, take}
use Rattle.explore_report.specs.ListingTexts.{HasOutcomes}
use Rattle.explore_report.proofs.listing_text.add_in_order.Given as goal

abbrev pub invariant-loop-number : goal.invariant-loop-number
invariant-loop-number l = record {
  end : l.number-end ≡ length l.order;
  has : HasOutcomes l.reached.system.setting l.reached l.found (take l.number l.order) l.initial.text.items l.text.items;
}
