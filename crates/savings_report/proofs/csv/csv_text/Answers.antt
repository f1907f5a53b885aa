use Rattle.std.proofs.Common.{◌≡◌, IfOk, subst}
use Rattle.savings_report.specs.Courses.{Series}
use Rattle.savings_report.specs.CsvTexts.{series_text}
use Rattle.savings_report.proofs.csv.csv_text.Goals as goal

pub returns : goal.returns
returns c = λ window samples h.
    subst (λ (s : Series). IfOk c.series_text.result (λ text. text.items ≡ series_text s)) (c.course.ensures.value window samples h) c.series_text.ensures
