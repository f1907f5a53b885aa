-- The number of words for a number of rounds, more rounds with the same seed, and the first words of two seeds.
use Rattle.std.specs.Prelude.{◌≡◌, ℕ, ◌+◌, ◌*◌, [], ◌∷◌, length, take}
use Rattle.run_program.specs.Words.{words_of}

-- each round has 256 words
abbrev pub RoundsHaveTheirWords : Type 0
RoundsHaveTheirWords = (seed rounds : ℕ) → length (words_of seed rounds) ≡ 256 * rounds

-- the words for more rounds begin with the words for fewer rounds
abbrev pub RoundsGoOn : Type 0
RoundsGoOn = (seed rounds more : ℕ) → take (256 * rounds) (words_of seed (rounds + more)) ≡ words_of seed rounds

-- the first two words of the seeds 0 and 1, as the programs of the generator's authors return them
abbrev pub SeedsHaveTheirWords : Type 0
SeedsHaveTheirWords = (take 2 (words_of 0 1) ≡ 5987356902031041503 ∷ 7051070477665621255 ∷ [])
    × (take 2 (words_of 1 1) ≡ 14971601782005023387 ∷ 13781649495232077965 ∷ [])
