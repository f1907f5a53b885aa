use Rattle.std.proofs.Common.{◌≡◌, ◌++◌, ◌-◌}
use Rattle.rand_core.specs.Steps.{first_words}
use Rattle.rand_xoshiro.specs.Xoshiro256.{plus_plus}
use Rattle.savings_replay.specs.Words.{after_words}
use Rattle.savings_replay.proofs.words.draw.Given as goal

-- the words that have come and those that are to come are the words from the start, and lead to the same state
abbrev pub invariant-loop : goal.invariant-loop
invariant-loop l = record {
  words : l.words.items ++ first_words plus_plus (l.count - l.counter) l.generator ≡ first_words plus_plus l.count l.fn.generator;
  after : after_words (l.count - l.counter) l.generator ≡ after_words l.count l.fn.generator;
}
