use Rattle.std.proofs.Common.{IfSome, subst}
use Rattle.savings_report.specs.Courses.{Series}
use Rattle.savings_report.specs.PlotCurves.{IsPlot}
use Rattle.savings_report.proofs.PlotTexts.{finished}
use Rattle.savings_report.proofs.plot.curves.Curves.picture.Goals as goal

pub returns : goal.returns
returns c = λ window samples h.
    let plot = subst (λ (s : Series). IfSome c.draw_plot.new.text (IsPlot s)) (c.course.ensures.value window samples h) (c.draw_plot.ensures c.new-text.ensures) in
    finished c.finish.result (λ bytes. bytes.items) c.draw_plot.new.text _ c.finish.ensures plot
