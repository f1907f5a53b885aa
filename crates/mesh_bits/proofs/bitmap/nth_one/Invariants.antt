use Rattle.std.proofs.Common.{◌≡◌, ◌+◌, ◌^◌, ◌<◌, ℕ}
use Rattle.std.specs.Int.{bit_at}
use Rattle.mesh_bits.specs.Bits.{low_ones}
use Rattle.mesh_bits.proofs.bitmap.nth_one.Given as goal

-- the rest of a word is the word without its `gone` lowest bits
pub record IsRest (word rest gone : ℕ) : Type 0 where
  pub fits : rest < 2 ^ 64
  pub count : low_ones 64 rest + gone ≡ low_ones 64 word
  pub is : (k : ℕ) → bit_at rest k ≡ 1 → bit_at word k ≡ 1
  pub place : (k : ℕ) → bit_at rest k ≡ 1 → low_ones k rest + gone ≡ low_ones k word

abbrev pub invariant-loop-gone : goal.invariant-loop-gone
invariant-loop-gone l = IsRest l.word l.rest l._gone
