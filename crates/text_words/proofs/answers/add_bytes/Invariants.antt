use Rattle.std.proofs.Common.{◌≡◌, ◌++◌, length}
use Rattle.model_jobs.specs.Texts.{bytes_text}
use Rattle.text_words.proofs.answers.add_bytes.Given as goal

abbrev pub invariant-loop-rest : goal.invariant-loop-rest
invariant-loop-rest l = l.text.items ++ bytes_text l.rest ≡ l.initial.text.items ++ bytes_text l.bytes

abbrev pub decreases-loop-rest : goal.decreases-loop-rest
decreases-loop-rest l = length l.rest
