use Rattle.std.proofs.Common.{get_or}
use Rattle.std.proofs.lemmas.Option.{slice_get-get_or}
use Rattle.explore_report.specs.declared.outcomes.Outcome.{Outcome}
use Rattle.explore_report.specs.ListingTexts.{IsOutcomeTextAt}
use Rattle.explore_report.proofs.ListingTexts.{outcomes_more}
use Rattle.explore_report.proofs.listing_text.add_in_order.Goals as goal

pub loop-number-preserved : goal.loop-number-preserved
loop-number-preserved c =
    let none : Outcome = record { place = 0; ways = 0 } in
    let reached = c.args.reached.now in
    let found = c.args.found.now in
    let number = c.loop-number.number in
    let at = get_or c.args.order.now number 0 in
    let added = c.in_ok-add_outcome.ensures in
    let is : IsOutcomeTextAt reached.system.setting reached found at number added.0 = record {
      outcome = get_or found at none;
      there = slice_get-get_or found at none (c.requires number 0 c.loop-number-test.true);
      is_text = added.1.0;
    } in
    record {
      end = c.loop-number.invariant.end;
      has = outcomes_more reached.system.setting reached found c.args.order.now number 0 _ _ _ added.0 c.loop-number-test.true c.loop-number.invariant.has is added.1.1;
    }
