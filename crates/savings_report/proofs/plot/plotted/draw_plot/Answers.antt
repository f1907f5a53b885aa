use Rattle.savings_report.specs.Courses.{series_in}
use Rattle.savings_report.proofs.PlotTexts.{plot_added}
use Rattle.savings_report.proofs.plot.plotted.draw_plot.Goals as goal

pub returns : goal.returns
returns c empty =
    plot_added c.args.text.now c.add_root.new.self c.add_style.new.self c.add_frame.new.text c.add_curves.new.text c.add_labels.new.text c.add.new.self
    (series_in c.args.course.now) c.as_bytes.result.now 10400 4950 _ _ c.of_pages-pages.result.last empty c.add_root.ensures.text c.add_style.ensures c.add_frame.ensures
    c.add_curves.ensures c.add_labels.ensures c.add.ensures (rw (← c.most_pages.ensures) c.of_pages-pages.ensures.covers)
    (rw (← c.most_pages.ensures) c.of_pages-pages.ensures.fills)
