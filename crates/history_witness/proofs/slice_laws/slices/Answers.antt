use Rattle.history_witness.proofs.SliceExplained.{slices_are_explained}
use Rattle.history_witness.proofs.SliceHistory.{slice_history}
use Rattle.history_witness.proofs.slice_laws.slices.Goals as goal

pub returns-clause-histories : goal.returns-clause-histories
returns-clause-histories c = slice_history

pub returns-clause-explained : goal.returns-clause-explained
returns-clause-explained c = slices_are_explained
