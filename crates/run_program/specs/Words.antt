-- The words of the shuffles, by the definition of their generator.
use Rattle.std.specs.Prelude.{ℕ, ◌*◌, List}
use Rattle.rand_core.specs.Steps.{first_words}
use Rattle.rand_xoshiro.specs.SplitMix64.{splitmix_seed}
use Rattle.rand_xoshiro.specs.Xoshiro256.{of_seed, plus_plus}

-- the state of xoshiro256 that SplitMix64 makes of a number
abbrev pub state_of : ℕ → List ℕ
state_of seed = of_seed (splitmix_seed 32 seed)

-- the words for this number of rounds, 256 for each: the first words of xoshiro256++ in the state of this seed
abbrev pub words_of : ℕ → ℕ → List ℕ
words_of seed rounds = first_words plus_plus (256 * rounds) (state_of seed)
