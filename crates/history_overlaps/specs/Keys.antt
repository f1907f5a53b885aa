-- The keys by which calls are sorted. This project's own choice.
use Rattle.std.specs.Prelude.{◌≡◌, List, Some, slice_get}
use Rattle.model_words.specs.declared.commands.Command.{Command}
use Rattle.model_words.specs.declared.commands.Command.TheVariants.{New, Free}
use Rattle.model_intervals.specs.Intervals.{Call}
use Rattle.model_intervals.specs.OverlappingCalls.{IsAt}
use Rattle.history_overlaps.specs.declared.keys.Key.{Key}
use Rattle.history_overlaps.specs.declared.keys.Rank.{Rank}
use Rattle.history_overlaps.specs.declared.keys.Rank.TheVariants.{Free as FreeRank, Access as AccessRank, New as NewRank}
use Rattle.history_overlaps.specs.declared.points.Point.{Point}

-- the rank of a command among the calls at one moment
abbrev pub rank_at : Command → Rank
rank_at (New cell len word) = NewRank
rank_at (Free cell) = FreeRank
rank_at command = AccessRank

-- the key of the call with its number: it has the rank of the call's command, and moment and place of the call's point
pub record IsKeyOf (calls : List Call) (points : List Point) (key : Key) : Type 0 where
  pub call : Call
  pub there : IsAt calls key.number call
  pub ranked : key.rank ≡ rank_at call.entry.command
  pub pointed : (point : Point) → slice_get points key.number ≡ Some point → (key.moment ≡ point.moment) × (key.place ≡ point.place)
