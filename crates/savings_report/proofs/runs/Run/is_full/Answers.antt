use Rattle.std.proofs.Common.{◌≡◌, arith}
use Rattle.savings_report.proofs.runs.Run.is_full.Goals as goal

pub returns-then-is_full-clause-full : goal.returns-then-is_full-clause-full
returns-then-is_full-clause-full c = λ options f samples at full.
    let all : f.counts.calls ≡ 4294967295 = (c.is_full.ensures.full f at.follows).0 full in
    omega (arith, all, at.calls)
