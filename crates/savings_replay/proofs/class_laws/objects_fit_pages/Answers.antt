use Rattle.savings_replay.proofs.ClassLaws.{objects_fit}
use Rattle.savings_replay.proofs.class_laws.objects_fit_pages.Goals as goal

pub returns : goal.returns
returns c = objects_fit
