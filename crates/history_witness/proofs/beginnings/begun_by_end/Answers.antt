use Rattle.std.proofs.Common.{List, Some, ap, ℕ}
use denote.Ref.{Bor}
use Rattle.history_witness.proofs.beginnings.begun_by_end.Goals as goal

pub returns : goal.returns
returns c = c.read_begun.ensures c.args.text.now (ap (λ (r : Bor (List ℕ)). Some r.now) c.new-input.ensures.inner)
