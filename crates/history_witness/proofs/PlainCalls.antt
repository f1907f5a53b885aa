-- The calls of a list that was read, and their places.
use Rattle.std.proofs.Common.{◌≡◌, ℕ, zero, suc, ◌<◌, List, [], ◌∷◌, length, map, arith, refl, Some, slice_get}
use Rattle.model_intervals.specs.Intervals.{Call}
use Rattle.model_intervals.specs.OverlappingCalls.{IsAt}
use Rattle.history_reading.specs.CallWords.{plain_call}
use Rattle.history_reading.specs.declared.words.TimedCall.{TimedCall}

-- the call at a place, as it was read
pub record IsReadAt (calls : List TimedCall) (i : ℕ) (a : Call) : Type 0 where
  pub call : TimedCall
  pub there : slice_get calls i ≡ Some call
  pub plain : plain_call call ≡ a
  pub within : i < length calls

pub read_at : (calls : List TimedCall) (i : ℕ) (a : Call) → IsAt (map plain_call calls) i a → IsReadAt calls i a
read_at [] zero a is = cc is
read_at [] (suc i) a is = cc is
read_at (call ∷ calls) zero a is = record { call = call; there = refl; plain = cc is; within = omega arith }
read_at (call ∷ calls) (suc i) a is =
    let later = read_at calls i a is in
    let below = later.within in
    record { call = later.call; there = later.there; plain = later.plain; within = omega (arith, below) }
