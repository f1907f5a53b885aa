use Rattle.std.proofs.Common.{◌≡◌, Option, ap, subst}
use Rattle.std.specs.Prelude.{IfSome}
use Rattle.explore_interleavings.specs.ExploreStates.{Setting}
use Rattle.std.specs.Option.{option_copied}
use Rattle.explore_verdict.specs.Mismatches.{AreMatchable, IsUnmatchable}
use Rattle.explore_verdict.specs.Pieces.{IsWritten}
use Rattle.explore_verdict.specs.Runs.{is_well_begun, verdict_pieces}
use Rattle.explore_verdict.specs.declared.mismatches.Unmatchable.{Unmatchable}
use Rattle.explore_verdict.proofs.run.report.Goals as goal

pub report_begun-requires : goal.report_begun-requires
report_begun-requires g c = ap (λ (x : Setting). x.pairs) c.in_ok-all.ensures.explored.setting

pub returns-in-Some-clause-report : goal.returns-in-Some-clause-report
returns-in-Some-clause-report g c =
    let reached = c.in_ok-all.all.reached in
    record {
      reached = reached;
      explored = c.in_ok-all.ensures.explored;
      is = subst (λ (x : Setting). IsUnmatchable x reached.system.states c.args.options.now.conditions.now c.in-Some.pattern) c.in_ok-all.ensures.explored.setting
          (subst (λ (o : Option Unmatchable). IfSome o (IsUnmatchable reached.system.setting reached.system.states c.args.options.now.conditions.now)) c.in-Some.is c.in_ok-pattern.ensures.some);
    }

pub returns-clause-report : goal.returns-clause-report
returns-clause-report g c =
    let reached = c.in_ok-all.all.reached in
    let listing = c.in_ok-all.all.listing in
    let options = c.args.options.now in
    let expected = option_copied c.args.expected in
    let report = c.in_ok-report-in-None.report in
    record {
      reached = reached;
      explored = c.in_ok-all.ensures.explored;
      few = c.in_ok-all.ensures.few;
      listing = listing;
      lists = c.in_ok-all.ensures.listed;
      matchable = subst (λ (x : Setting). AreMatchable x reached.system.states options.conditions.now) c.in_ok-all.ensures.explored.setting
          (c.in_ok-pattern.ensures.none c.in-None.is);
      is_well = subst (λ (x : Setting). report.well ≡ is_well_begun x reached.system.states listing options.must_begin options.conditions.now expected)
          c.in_ok-all.ensures.explored.setting c.in_ok-report-in-None.ensures.well;
      told = subst (λ (x : Setting). IsWritten x reached (verdict_pieces x reached.system.states listing options.must_begin options.conditions.now expected) report.text.items)
          c.in_ok-all.ensures.explored.setting c.in_ok-report-in-None.ensures.told;
    }
