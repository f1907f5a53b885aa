-- Words with a summary: a set of the numbers of the words that aren't zero.
use Rattle.std.specs.Prelude.{◌≡◌, ℕ, ◌*◌, ◌/◌, ◌<◌, Bool, List, length}
use Rattle.mesh_bins.specs.Words.{IsMarked, PutsBit}

-- the words have bit `n`, the summary has a bit for the word of bit `n`, and it is the summary of the words
pub record MayMark (words summary : List ℕ) (n : ℕ) : Type 0 where
  pub within : n < 64 * length words
  pub room : n / 64 < 64 * length summary
  pub marked : IsMarked words summary

-- bit `n` was set to `value`, and the new summary is that of the new words. The numbers of words are unchanged
pub record PutsMarked (words summary new new_summary : List ℕ) (n : ℕ) (value : Bool) : Type 0 where
  pub puts : PutsBit words new n value
  pub marked : IsMarked new new_summary
  pub long : length new ≡ length words
  pub marks : length new_summary ≡ length summary
