use Rattle.std.proofs.Common.{◌≡◌, length}
use Rattle.explore_verdict.specs.TextSets.{distinct, with_texts, without}
use Rattle.explore_verdict.proofs.text_set.missing_in.Given as goal

abbrev pub invariant-loop-rest : goal.invariant-loop-rest
invariant-loop-rest l = record {
  seen : with_texts l.seen l.rest ≡ distinct l.texts;
  missing : l.missing.items ≡ without l.set l.seen;
}

abbrev pub decreases-loop-rest : goal.decreases-loop-rest
decreases-loop-rest l = length l.rest
