use Rattle.std.proofs.Common.{◌≡◌, ◌+◌, ◌*◌, [], ◌∷◌, refl, ◌∙◌, arith}
use Rattle.rand_core.specs.Steps.{first_words, stream_of, u32_at, word_bytes}
use Rattle.rand_core.specs.Stream.{fill_bytes}
use Rattle.rand_xoshiro.specs.Xoshiro256.{plus_plus}
use Rattle.run_program.proofs.WordCounts.{words_begin, words_counted}
use Rattle.run_program.specs.Words.{state_of}
use Rattle.run_program.proofs.word_laws.words_are_the_seeds.Goals as goal

pub returns-clause-many : goal.returns-clause-many
returns-clause-many c = λ seed rounds. words_counted plus_plus (256 * rounds) (state_of seed)

pub returns-clause-more : goal.returns-clause-more
returns-clause-more c = λ seed rounds more.
    let all : 256 * (rounds + more) ≡ 256 * rounds + 256 * more = omega arith in
    rw all (words_begin plus_plus (256 * rounds) (256 * more) (state_of seed))

-- the first two words of two seeds
words_of_zero : first_words plus_plus 2 (state_of 0) ≡ 5987356902031041503 ∷ 7051070477665621255 ∷ []
unfolding first_words stream_of fill_bytes word_bytes u32_at
words_of_zero = refl

words_of_one : first_words plus_plus 2 (state_of 1) ≡ 14971601782005023387 ∷ 13781649495232077965 ∷ []
unfolding first_words stream_of fill_bytes word_bytes u32_at
words_of_one = refl

pub returns-clause-first : goal.returns-clause-first
returns-clause-first c =
    (words_begin plus_plus 2 254 (state_of 0) ∙ words_of_zero, words_begin plus_plus 2 254 (state_of 1) ∙ words_of_one)
