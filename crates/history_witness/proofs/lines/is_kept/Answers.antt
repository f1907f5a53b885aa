use Rattle.std.proofs.Common.{◌∙◌}
use Rattle.history_witness.specs.TakenLines.{taken_in}
use Rattle.history_witness.proofs.KeptLines.{first_kept, later_kept}
use Rattle.history_witness.proofs.lines.is_kept.Goals as goal

pub returns-then-place-eq0 : goal.returns-then-place-eq0
returns-then-place-eq0 c = first_kept (taken_in c.args.taken.now) c.args.place c.if-place-eq0.true

pub returns : goal.returns
returns c = c.is_taken.ensures ∙ later_kept (taken_in c.args.taken.now) c.args.place c.if-place-eq0.false
