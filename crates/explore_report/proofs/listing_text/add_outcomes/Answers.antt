use Rattle.std.proofs.Common.{◌<◌, ◌∙◌, List, ℕ, length, subst, sym}
use Rattle.std.specs.List.{All}
use Rattle.explore_report.proofs.ListingTexts.{printed_within}
use Rattle.explore_report.proofs.listing_text.add_outcomes.Goals as goal

pub add_in_order-requires : goal.add_in_order-requires
add_in_order-requires c =
    subst (λ (order : List ℕ). All (λ at. at < length c.args.found.now) order) (sym (c.as_slice.ensures.value ∙ c.in_ok-order.ensures))
    (printed_within c.args.reached.now.system.states c.args.found.now)
