use Rattle.std.proofs.Common.{◌∙◌, ◌+◌, ◌-◌, ◌*◌, ◌++◌, ap, sym, arith}
use Rattle.rand_core.specs.Steps.{first_words}
use Rattle.rand_xoshiro.specs.Xoshiro256.{plus_plus}
use Rattle.run_program.proofs.FirstWords.{no_word_on, one_word_on}
use Rattle.run_program.proofs.shuffle_words.words.Goals as goal

pub loop-preserved : goal.loop-preserved
loop-preserved c =
    ap (λ words. words ++ first_words plus_plus (256 * c.args.rounds - (c.loop.counter + 1)) c.next_word.new.self) c.in_ok-push.ensures.items
    ∙ one_word_on plus_plus c.loop.words.items _ (256 * c.args.rounds - c.loop.counter) c.loop.generator _ _ c.next_word.ensures (omega (arith, c.loop-test.true))
    ∙ c.loop.invariant

pub returns : goal.returns
returns c = sym (no_word_on plus_plus c.loop.words.items _ c.loop.generator (omega (arith, c.loop-test.false))) ∙ c.loop.invariant
