use Rattle.std.proofs.Common.{rules}
use Rattle.text_job.proofs.Pieces.{held_on}
use Rattle.text_job.proofs.device.take_lines.Goals as goal

pub returns-clause-held : goal.returns-clause-held
returns-clause-held c = λ text before.
    rw c.copy_within.ensures.after (held_on _ _ _ _ _ _ (search rules) c.requires.held before c.in_ok-taken.ensures.taken)
