use Rattle.std.proofs.Common.{◌≡◌, ◌++◌, length}
use Rattle.explore_verdict.specs.Judged.{unexpected_in}
use Rattle.explore_verdict.proofs.judging.unexpected_in.Given as goal

abbrev pub invariant-loop-rest : goal.invariant-loop-rest
invariant-loop-rest l =
    l.flags.items ++ unexpected_in l.states.setting l.states.states l.rest l.blocks ≡ unexpected_in l.states.setting l.states.states l.outcomes l.blocks

abbrev pub decreases-loop-rest : goal.decreases-loop-rest
decreases-loop-rest l = length l.rest
