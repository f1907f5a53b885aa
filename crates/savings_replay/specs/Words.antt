-- The words of `new` and of the shuffles: those of the generator xoshiro256++ (Blackman and Vigna), with its state made
-- from a seed by SplitMix64.
use Rattle.std.specs.Prelude.{ℕ, zero, suc, ◌+◌, ◌%◌, ◌^◌, List}
use Rattle.rand_xoshiro.specs.SplitMix64.{splitmix_seed}
use Rattle.rand_xoshiro.specs.Xoshiro256.{of_seed, plus_plus}
use Rattle.savings_replay.specs.declared.settings.Words.{Words}
use Rattle.savings_replay.specs.declared.settings.Words.TheVariants.{Seeded, FirstFit}

-- the generator's state made from a seed
abbrev pub state_of : ℕ → List ℕ
state_of seed = of_seed (splitmix_seed 32 seed)

-- the generator's state after `count` words
abbrev pub after_words : ℕ → List ℕ → List ℕ
after_words zero state = state
after_words (suc count) state = after_words count (plus_plus state).1

-- the seed of the words of `new`; 1 for first fit
abbrev pub new_seed : Words → ℕ
new_seed (Seeded seed) = seed
new_seed FirstFit = 1

-- the seed of the words of the shuffles
abbrev pub shuffle_seed : Words → ℕ
shuffle_seed words = (new_seed words + 1) % 2 ^ 64

-- the word of the next object: 0 for first fit
abbrev pub new_word : Words → List ℕ → ℕ
new_word (Seeded seed) state = (plus_plus state).0
new_word FirstFit state = 0

-- the generator's state after the word of the next object
abbrev pub after_new_word : Words → List ℕ → List ℕ
after_new_word (Seeded seed) state = (plus_plus state).1
after_new_word FirstFit state = state
