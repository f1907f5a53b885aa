use Rattle.savings_report.proofs.PerfectPages.{perfect_least}
use Rattle.savings_report.proofs.laws.perfect_is_least.Goals as goal

pub returns : goal.returns
returns c =
    perfect_least c.objects_fit_pages.ensures c.bytes_fit_pages.ensures c.heaps_are_sound.ensures c.heaps_are_alike.ensures.classes
