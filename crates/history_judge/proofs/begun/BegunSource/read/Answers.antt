use Rattle.std.proofs.Common.{ℕ, List, arith, ap, length}
use Rattle.history_judge.proofs.BegunReads.{byte_consumed}
use Rattle.history_judge.proofs.begun.BegunSource.read.Goals as goal

pub returns-in-Some-clause-bytes : goal.returns-in-Some-clause-bytes
returns-in-Some-clause-bytes g c = (
  byte_consumed c.args.self.now.begun.items c.pop_at.new.self.items c.args.buf.now c.in-Some.byte (g.I.Source.remaining c.args.self.now.inner)
      c.in-Some.ensures.value c.in-Some.ensures.items
      (λ none. let long = c.is_empty.ensures in let not = c.if-is_empty.false in let n = ap (λ (xs : List ℕ). length xs) none in grind (arith, long, not, n)),
  λ zero some. absurd (omega (arith, zero)),
)
