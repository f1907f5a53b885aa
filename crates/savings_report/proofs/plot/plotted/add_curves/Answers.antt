use Rattle.savings_report.specs.Courses.{series_in}
use Rattle.savings_report.proofs.PlotTexts.{curves_added}
use Rattle.savings_report.proofs.plot.plotted.add_curves.Goals as goal

pub returns : goal.returns
returns c =
    curves_added c.args.text.now c.add_curve.new.text c.add_curve-2.new.text c.add_curve-3.new.text c.add_curve-4.new.text (series_in c.args.course.now)
    c.args.top c.add_curve.ensures c.add_curve-2.ensures c.add_curve-3.ensures c.add_curve-4.ensures
