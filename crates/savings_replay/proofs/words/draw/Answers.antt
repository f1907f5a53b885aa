use Rattle.std.proofs.Common.{◌∙◌, ◌+◌, ◌-◌, ◌++◌, ap, sym, arith}
use Rattle.rand_core.specs.Steps.{first_words}
use Rattle.rand_xoshiro.specs.Xoshiro256.{plus_plus}
use Rattle.savings_replay.proofs.DrawnWords.{no_word_on, one_state_on, one_word_on}
use Rattle.savings_replay.proofs.words.draw.Goals as goal

pub loop-preserved : goal.loop-preserved
loop-preserved c = record {
  words =
      ap (λ words. words ++ first_words plus_plus (c.args.count - (c.loop.counter + 1)) c.next_word.new.self) c.in_ok-push.ensures.items
      ∙ one_word_on c.loop.words.items _ (c.args.count - c.loop.counter) c.loop.generator _ _ c.next_word.ensures (omega (arith, c.loop-test.true))
      ∙ c.loop.invariant.words;
  after =
      one_state_on (c.args.count - (c.loop.counter + 1)) (c.args.count - c.loop.counter) c.loop.generator c.next_word.new.self c.next_word.result
      c.next_word.ensures (omega (arith, c.loop-test.true))
      ∙ c.loop.invariant.after;
}

pub returns-clause-words : goal.returns-clause-words
returns-clause-words c =
    sym (no_word_on c.loop.words.items _ c.loop.generator (omega (arith, c.loop-test.false))) ∙ c.loop.invariant.words
