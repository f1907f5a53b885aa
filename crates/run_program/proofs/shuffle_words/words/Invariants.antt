use Rattle.std.proofs.Common.{◌≡◌, ◌++◌, ◌-◌}
use Rattle.rand_core.specs.Steps.{first_words}
use Rattle.rand_xoshiro.specs.Xoshiro256.{plus_plus}
use Rattle.run_program.specs.Words.{words_of}
use Rattle.run_program.proofs.shuffle_words.words.Given as goal

-- the words that have come and those that are to come are the words of the seed
abbrev pub invariant-loop : goal.invariant-loop
invariant-loop l = l.words.items ++ first_words plus_plus (l.count - l.counter) l.generator ≡ words_of l.fn.seed l.fn.rounds
