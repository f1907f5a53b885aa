use Rattle.std.proofs.Common.{subst, sym, refl, List}
use Rattle.savings_report.specs.FigureSamples.{first_call}
use Rattle.savings_report.specs.Figures.{IsMeasured}
use Rattle.savings_report.specs.declared.table.samples.Sample.{Sample}
use Rattle.savings_report.proofs.TableWindows.{measured_none}
use Rattle.savings_report.proofs.table.figures.Figures.new.Goals as goal

pub returns : goal.returns
returns c =
    record {
      window_is = refl;
      calls_are = refl;
      measured_is =
          subst (λ (samples : List Sample). IsMeasured c.none.result (first_call c.args.window) samples) (sym (measured_none c.args.window))
          (c.none.ensures.measured (first_call c.args.window));
    }
