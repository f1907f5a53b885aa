use Rattle.savings_replay.proofs.ClassBytes.{bytes_fit}
use Rattle.savings_replay.proofs.class_laws.bytes_fit_pages.Goals as goal

pub returns : goal.returns
returns c = bytes_fit
