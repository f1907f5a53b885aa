use Rattle.history_object.proofs.Words.{no_marks}
use Rattle.history_object.proofs.marks.Marks.none.Goals as goal

pub returns : goal.returns
returns c = no_marks
