-- The pair of groups that two numbers are.
use Rattle.std.specs.Prelude.{ℕ}
use Rattle.model_search.specs.Search.{Pairing}

-- the pair with these numbers: the source first
abbrev pub pairing : ℕ × ℕ → Pairing
pairing numbers = record { source = numbers.0; destination = numbers.1 }
