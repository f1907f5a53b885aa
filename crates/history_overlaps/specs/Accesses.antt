-- The accesses to an object, as the calls that a timed judge follows.
use Rattle.std.specs.Prelude.{ℕ, suc, if◌then◌else◌, ◌&&◌, nat_eq, Bool, List, [], ◌∷◌, map}
use Rattle.model_words.specs.declared.commands.Command.{Command}
use Rattle.model_words.specs.declared.commands.Command.TheVariants.{Put, Get, Addr}
use Rattle.model_words.specs.declared.commands.Reply.{Reply}
use Rattle.model_words.specs.declared.commands.Reply.TheVariants.{Done, Bytes, At}
use Rattle.model_intervals.specs.Intervals.{Call}
use Rattle.model_intervals.specs.Objects.{is_access}
use Rattle.model_intervals.specs.OverlappingCalls.{cell_at}
use Rattle.history_object.specs.declared.access.Access.{Access}
use Rattle.history_object.specs.declared.access.Access.TheVariants.{Store, Load, Nothing, Elsewhere}
use Rattle.history_object.specs.TimedCalls.{Timed}

-- the access that a call was recorded to make to the object at `address`
abbrev pub access_of : ℕ → Command → Reply → Access
access_of address (Put cell off bytes) Done = Store off bytes
access_of address (Get cell off len) (Bytes answered) = Load off len answered
access_of address (Addr cell) (At answered) = if nat_eq answered address then Nothing else Elsewhere answered
access_of address command reply = Elsewhere 0

-- a call and its place
pub record PlacedCall : Type 0 where
  pub place : ℕ
  pub call : Call

-- whether the call is an access to the object of a cell
abbrev pub is_access_of : ℕ → Call → Bool
is_access_of cell call = is_access call.entry.command && nat_eq (cell_at call) cell

-- the accesses to the object of a cell, with their places; the first call of the list has the place `place`
abbrev pub placed_from : ℕ → ℕ → List Call → List PlacedCall
placed_from place cell [] = []
placed_from place cell (call ∷ calls) =
    if is_access_of cell call then record { place = place; call = call } ∷ placed_from (suc place) cell calls else placed_from (suc place) cell calls

-- an access to the object at an address, numbered by its place
abbrev pub timed_of : ℕ → PlacedCall → Timed Access
timed_of address placed = record {
  number = placed.place;
  begin = placed.call.begin;
  end = placed.call.end;
  call = access_of address placed.call.entry.command placed.call.entry.reply;
}

-- the accesses to the object of a cell, if this object is at `address`
abbrev pub timed_accesses : ℕ → ℕ → List Call → List (Timed Access)
timed_accesses cell address calls = map (timed_of address) (placed_from 0 cell calls)
