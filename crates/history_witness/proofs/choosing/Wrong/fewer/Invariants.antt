use Rattle.history_witness.proofs.choosing.Wrong.fewer.Given as goal

abbrev pub decreases-loop-size : goal.decreases-loop-size
decreases-loop-size l = l.size
